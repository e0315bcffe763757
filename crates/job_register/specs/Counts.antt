-- How many replies and outcomes of a kind a record has.
use Rattle.std.specs.Prelude.{ℕ, Bool, true, false, List, is_some}
use Rattle.std.specs.List.{count_by}
use Rattle.fold_jobs.specs.Machine.{needed_in}
use Rattle.script_lang.specs.declared.command.Command.{Command}
use Rattle.script_lang.specs.declared.command.Command.TheVariants.{Peek}
use Rattle.script_lang.specs.declared.reply.Reply.{Reply}
use Rattle.script_lang.specs.declared.reply.Reply.TheVariants.{Running}
use Rattle.job_register.specs.declared.session.Event.{Event}
use Rattle.job_register.specs.declared.session.Event.TheVariants.{Made, Posted}
use Rattle.job_register.specs.Machine.{State}

abbrev pub says_running : Reply → Bool
says_running (Running job version) = true
says_running r = false

abbrev pub is_running : Event → Bool
is_running (Made command r) = says_running r
is_running (Posted x accepted) = false

-- how often no answer was there yet
abbrev pub running_replies : List Event → ℕ
running_replies es = count_by is_running es

abbrev pub is_accepted_outcome : Event → Bool
is_accepted_outcome (Made command r) = false
is_accepted_outcome (Posted x accepted) = accepted

-- how many outcomes were accepted
abbrev pub accepted_outcomes : List Event → ℕ
accepted_outcomes es = count_by is_accepted_outcome es

-- the command is a peek whose ask waits for an outcome
abbrev pub peeks_too_early : State → Command → Bool
peeks_too_early s (Peek job) = is_some (needed_in s.jobs job)
peeks_too_early s command = false
