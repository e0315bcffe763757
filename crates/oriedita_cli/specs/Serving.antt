-- What serving commands does to the record of a session and to the sink of its text.
use Rattle.std.specs.Prelude.{◌≡◌, ℕ, ◌+◌, ◌<◌, false, List, [], ◌∷◌, ◌++◌, Option}
use Rattle.std.specs.List.{list_any}
use Rattle.std.specs.Io.KnownBytes.{Appends}
use Rattle.script_lang.specs.declared.command.Command.{Command}
use Rattle.script_lang.specs.declared.reply.Reply.{Reply}
use Rattle.job_register.specs.declared.session.Event.{Event}
use Rattle.job_register.specs.declared.session.Event.TheVariants.{Made}
use Rattle.job_register.specs.Machine.{IsAnswered}
use Rattle.fold_jobs.specs.Limits.{most_asks}
use Rattle.job_register.specs.Legal.{commands_in}
use Rattle.job_register.specs.Counts.{running_replies}
use Rattle.job_register.specs.Text.{text_of}
use Rattle.job_register.specs.View.{SessionView}
use Rattle.oriedita_cli.specs.Samples.{asks_in_turn, ends_asks}

-- the record has gone on by these commands, and all of their text was written
pub record Serves (old new : List Event) (taken taken' : Option (List ℕ))
    (commands : List Command) : Type 0 where
  pub commands_are : commands_in new ≡ commands_in old ++ commands
  pub text : List ℕ
  pub text_is : text_of new ≡ text_of old ++ text
  pub written : Appends taken taken' text

-- the record has gone on by the first few of these commands, and the front of their text was written
pub record StopsIn (old new : List Event) (taken taken' : Option (List ℕ))
    (commands : List Command) : Type 0 where
  pub ran : List Command
  pub left : List Command
  pub front : commands ≡ ran ++ left
  pub commands_are : commands_in new ≡ commands_in old ++ ran
  pub text : List ℕ
  pub unwritten : List ℕ
  pub text_is : text_of new ≡ text_of old ++ (text ++ unwritten)
  pub written : Appends taken taken' text

-- a session that takes outcomes alone goes on: what is counted of its commands, its text, its replies and its asks stays
pub record OnlyPosts (old new : SessionView) : Type 0 where
  pub commands : commands_in new.events ≡ commands_in old.events
  pub text : text_of new.events ≡ text_of old.events
  pub running : running_replies new.events ≡ running_replies old.events
  pub most : new.state.jobs.most ≡ old.state.jobs.most
  pub asks : new.state.jobs.asks ≡ old.state.jobs.asks
  pub ends : list_any ends_asks new.events ≡ list_any ends_asks old.events

-- outcomes are taken, and then the command is answered
pub record AnswersNext (old new : SessionView) (command : Command) : Type 0 where
  pub between : SessionView
  pub goes_on : OnlyPosts old between
  pub reply : Reply
  pub answer : IsAnswered between.state command reply new.state
  pub event : new.events ≡ between.events ++ Made command reply ∷ []

-- one more ask was opened, and answered by something that ends no asks
pub record IsAskedOn (old new : SessionView) : Type 0 where
  pub commands : commands_in new.events ≡ commands_in old.events ++ asks_in_turn 1
  pub unended : list_any ends_asks new.events ≡ false
  pub few : old.state.jobs.asks < most_asks
  pub asks : new.state.jobs.asks ≡ old.state.jobs.asks + 1
