-- A sample that is asked for its orders: which event ends the asks, how many were opened, and their commands.
use Rattle.std.proofs.Common.{◌≡◌, ℕ, zero, suc, ◌+◌, ◌<◌, Bool, true, false, List, [], ◌∷◌, ◌++◌, length, Option, None, Some, is_some, inl, inr, refl, sym, ap, subst, ◌∙◌, arith, rules, append_assoc}
use Rattle.std.specs.Prelude.{⊤, Ok, Err, ◌-◌, ◌||◌, IsTrue, nat_le, if◌then◌else◌}
use Rattle.std.specs.declared.result.Result.{Result}
use Rattle.std.specs.List.{list_any, slice_get}
use Rattle.std.proofs.lemmas.Bool.{cases_Bool}
use Rattle.std.proofs.lemmas.List.{append-nil}
use Rattle.std.proofs.lemmas.List.Folds.{list_any-append}
use Rattle.worker_split.specs.declared.outcome.Outcome.{Outcome}
use Rattle.worker_split.specs.declared.answers.Taken.{Taken}
use Rattle.worker_split.specs.declared.answers.Taken.TheVariants.{Accepted, Stranger}
use Rattle.fold_jobs.specs.declared.folding_job.FoldingJob.{FoldingJob}
use Rattle.fold_jobs.specs.declared.folding_job.FoldAnswer.{FoldAnswer}
use Rattle.fold_jobs.specs.declared.folding_job.FoldAnswer.TheVariants as told
use Rattle.fold_jobs.specs.declared.refusal.JobRefusal.{JobRefusal}
use Rattle.fold_jobs.specs.declared.refusal.JobRefusal.TheVariants.{Busy, TooManyAsks}
use Rattle.fold_jobs.specs.Limits.{most_asks}
use Rattle.fold_jobs.specs.Machine.{JobsView, live_job, changed_from, changed, job_at, ask_from, ask_answer, after_ask, answer_to, after_answer_to, IsPosted}
use Rattle.script_lang.specs.declared.command.Command.{Command}
use Rattle.script_lang.specs.declared.command.Command.TheVariants.{Load, Fold, Another, Wait}
use Rattle.script_lang.specs.declared.block.LoadStop.TheVariants.{Ended}
use Rattle.script_lang.specs.declared.reply.Reply.{Reply}
use Rattle.job_register.specs.declared.session.Event.{Event}
use Rattle.job_register.specs.declared.session.Event.TheVariants.{Made, Posted}
use Rattle.job_register.specs.Counts.{running_replies}
use Rattle.job_register.specs.Legal.{commands_in, is_refusal}
use Rattle.job_register.specs.Machine.{State, IsAsk, IsShow, ask_reply}
use Rattle.job_register.specs.Text.{text_of}
use Rattle.job_register.specs.View.{SessionView}
use Rattle.cp_text.specs.Sample.{sample_lines}
use Rattle.oriedita_cli.specs.Samples.{asks_in_turn, numbered_from, sample_commands, ends_by, ends_asks, EndsLast, AsksOn, AreSampled}
use Rattle.oriedita_cli.specs.Serving.{AnswersNext, OnlyPosts, IsAskedOn, StopsIn}

-- ---- the event that ends the asks

or_none : (b c : Bool) → (b || c) ≡ false → (b ≡ false) × (c ≡ false)
or_none true c none = absurd (cc)
or_none false c none = (refl, none)

not_both : (b : Bool) → b ≡ false → IsTrue b → ⊥
not_both b none some = cc

pub none_last : (es : List Event) → list_any ends_asks es ≡ false → EndsLast es
none_last [] none = tt
none_last (e ∷ es) none =
    let parts = or_none (ends_asks e) (list_any ends_asks es) none in
    ((λ ends. absurd (not_both (ends_asks e) parts.0 ends)), none_last es parts.1)

pub one_last : (es : List Event) (e : Event) → list_any ends_asks es ≡ false → EndsLast (es ++ e ∷ [])
one_last [] e none = ((λ ends. refl), tt)
one_last (d ∷ es) e none =
    let parts = or_none (ends_asks d) (list_any ends_asks es) none in
    ((λ ends. absurd (not_both (ends_asks d) parts.0 ends)), one_last es e parts.1)

abbrev pub ends_at : Option Event → Bool
ends_at None = false
ends_at (Some e) = ends_asks e

or_end : (b : Bool) → (b || false) ≡ b
or_end true = refl
or_end false = refl

-- where nothing comes after it, the last event tells
pub last_tells : (es : List Event) → EndsLast es → list_any ends_asks es ≡ ends_at (slice_get es (length es - 1))
last_tells [] last = refl
last_tells (e ∷ []) last = or_end (ends_asks e)
last_tells (e ∷ d ∷ es) last =
    elim (cases_Bool (ends_asks e)) [
      | inl ends ↦ let none : d ∷ es ≡ [] = last.0 ends in absurd (cc)
      | inr unended ↦
          let rest = last_tells (d ∷ es) last.1 in
          let place : length (d ∷ es) - 1 ≡ length es = omega arith in
          let place' : length (e ∷ d ∷ es) - 1 ≡ suc (length es) = omega arith in
          (ap {B = Bool} (λ b. b || list_any ends_asks (d ∷ es)) unended
          ∙ rest ∙ ap (λ i. ends_at (slice_get (d ∷ es) i)) place)
          ∙ ap (λ i. ends_at (slice_get (e ∷ d ∷ es) i)) (sym place')
    ]

-- one more event
pub any_pushed : (es : List Event) (e : Event) → list_any ends_asks es ≡ false
    → list_any ends_asks (es ++ e ∷ []) ≡ ends_asks e
any_pushed es e none =
    list_any-append ends_asks es (e ∷ [])
    ∙ ap {B = Bool} (λ b. b || list_any ends_asks (e ∷ [])) none ∙ or_end (ends_asks e)

-- ---- how many asks were opened

changed_asks : (s : JobsView) (n : ℕ) (change : FoldingJob → FoldingJob) → (changed s n change).asks ≡ s.asks
changed_asks s n change = from (job_at s n)
  where
    from : (o : Option FoldingJob) → (changed_from s n change o).asks ≡ s.asks
    from None = refl
    from (Some j) = refl

posted_asks : (s s' : JobsView) (x : Outcome) (taken : Taken) → IsPosted s x taken s' → s'.asks ≡ s.asks
posted_asks s s' x Accepted posted =
    ap (λ (u : JobsView). u.asks) posted.1 ∙ changed_asks s x.job _
posted_asks s s' x (Stranger kept came) posted = ap (λ (u : JobsView). u.asks) posted.3

show_asks : (s : JobsView) (n : ℕ) (o : Result FoldAnswer JobRefusal) → (after_answer_to s n o).asks ≡ s.asks
show_asks s n (Err r) = refl
show_asks s n (Ok (told.NotReady version piece)) = refl
show_asks s n (Ok (told.Shown version number order)) = changed_asks s n _
show_asks s n (Ok (told.NoMore version)) = changed_asks s n _
show_asks s n (Ok (told.Paused version)) = changed_asks s n _

pub wait_asks : (s t : State) (n : ℕ) (r : Reply) → IsShow s n r t → t.jobs.asks ≡ s.jobs.asks
wait_asks s t n r shown =
    ap (λ (u : State). u.jobs.asks) shown.1 ∙ show_asks s.jobs n (answer_to s.jobs n)

abbrev granted : Bool → Bool → Result ⊤ JobRefusal
granted b c = if b then Err Busy else if c then Err TooManyAsks else Ok tt

by_tests : (b c : Bool) → granted b c ≡ Ok tt → c ≡ false
by_tests true c ok = absurd (cc)
by_tests false true ok = absurd (cc)
by_tests false false ok = refl

few_asks : (s : JobsView) (o : Result FoldingJob JobRefusal) → ask_from s o ≡ Ok tt → s.asks < most_asks
few_asks s (Err r) ok = absurd (cc)
few_asks s (Ok j) ok =
    let below : nat_le most_asks s.asks ≡ false = by_tests (is_some j.state.ask) (nat_le most_asks s.asks) ok in
    search rules

-- an ask that is not refused was opened
pub another_asks : (s t : State) (n : ℕ) (r : Reply) → IsAsk s n r t → is_refusal r ≡ false
    → (s.jobs.asks < most_asks) × (t.jobs.asks ≡ s.jobs.asks + 1)
another_asks s t n r asked unended = from (ask_answer s.jobs n) refl (ap is_refusal (sym asked.0) ∙ unended)
  where
    from : (o : Result ⊤ JobRefusal) → ask_answer s.jobs n ≡ o → is_refusal (ask_reply n o) ≡ false
        → (s.jobs.asks < most_asks) × (t.jobs.asks ≡ s.jobs.asks + 1)
    from (Err refused) is unended = absurd (cc)
    from (Ok done) is unended = (
      few_asks s.jobs (live_job s.jobs n) is,
      ap (λ (u : State). u.jobs.asks) asked.1 ∙ ap (λ o. (after_ask s.jobs n o).asks) is,
    )

-- ---- what is kept between commands

pub posted_goes_on : (s t : SessionView) (x y : Outcome) (taken : Taken) (accepted : Bool)
    → IsPosted s.state.jobs x taken t.state.jobs → t.events ≡ s.events ++ Posted y accepted ∷ []
    → text_of t.events ≡ text_of s.events → commands_in t.events ≡ commands_in s.events
    → running_replies t.events ≡ running_replies s.events → t.state.jobs.most ≡ s.state.jobs.most → OnlyPosts s t
posted_goes_on s t x y taken accepted posted event text commands running most = record {
  commands = commands;
  text = text;
  running = running;
  most = most;
  asks = posted_asks s.state.jobs t.state.jobs x taken posted;
  ends = ap (list_any ends_asks) event ∙ list_any-append ends_asks s.events (Posted y accepted ∷ [])
      ∙ or_end (list_any ends_asks s.events);
}

pub answer_last : (s t : SessionView) (command : Command) → AnswersNext s t command
    → list_any ends_asks s.events ≡ false → EndsLast t.events
answer_last s t command next unended =
    subst EndsLast (sym next.event) (one_last next.between.events (Made command next.reply) (next.goes_on.ends ∙ unended))

-- what the command ends by its reply alone
pub answer_ends : (s t : SessionView) (command : Command) (next : AnswersNext s t command)
    → list_any ends_asks s.events ≡ false → list_any ends_asks t.events ≡ ends_by command next.reply
answer_ends s t command next unended =
    ap (list_any ends_asks) next.event
    ∙ any_pushed next.between.events (Made command next.reply) (next.goes_on.ends ∙ unended)

-- ---- the commands of asks

turn_join : (a b : ℕ) → asks_in_turn a ++ asks_in_turn b ≡ asks_in_turn (a + b)
turn_join zero b = let same : b ≡ zero + b = omega arith in ap asks_in_turn same
turn_join (suc a) b =
    let same : suc (a + b) ≡ suc a + b = omega arith in
    ap (λ (cs : List Command). Another 1 ∷ Wait 1 ∷ cs) (turn_join a b) ∙ ap asks_in_turn same

pub asks_none : (es fs : List Event) → commands_in fs ≡ commands_in es → AsksOn es fs
asks_none es fs same = record {
  asks = 0;
  ran = [];
  rest = [];
  front = refl;
  commands = same ∙ sym (append-nil (commands_in es));
}

pub asks_after : (es fs gs : List Event) (asks : ℕ) → commands_in fs ≡ commands_in es ++ asks_in_turn asks
    → AsksOn fs gs → AsksOn es gs
asks_after es fs gs asks first on = record {
  asks = asks + on.asks;
  ran = asks_in_turn asks ++ on.ran;
  rest = on.rest;
  front = sym (turn_join asks on.asks) ∙ ap (λ cs. asks_in_turn asks ++ cs) on.front
      ∙ sym (append_assoc (asks_in_turn asks) on.ran on.rest);
  commands = on.commands ∙ ap (λ cs. cs ++ on.ran) first
      ∙ append_assoc (commands_in es) (asks_in_turn asks) on.ran;
}

-- an ask that stopped before its answer
pub asks_stopped : (es fs : List Event) (taken : Option (List ℕ)) → StopsIn es fs taken taken (Another 1 ∷ [])
    → AsksOn es fs
asks_stopped es fs taken stops = record {
  asks = 1;
  ran = stops.ran;
  rest = stops.left ++ Wait 1 ∷ [];
  front = ap (λ (cs : List Command). cs ++ Wait 1 ∷ []) stops.front
      ∙ append_assoc stops.ran stops.left (Wait 1 ∷ []);
  commands = stops.commands_are;
}

-- an ask without its wait
pub asks_refused : (es fs : List Event) → commands_in fs ≡ commands_in es ++ Another 1 ∷ [] → AsksOn es fs
asks_refused es fs asked = record {
  asks = 1;
  ran = Another 1 ∷ [];
  rest = Wait 1 ∷ [];
  front = refl;
  commands = asked;
}

-- a wait that stopped
pub asks_wait_stopped : (es fs gs : List Event) (taken : Option (List ℕ))
    → commands_in fs ≡ commands_in es ++ Another 1 ∷ [] → StopsIn fs gs taken taken (Wait 1 ∷ []) → AsksOn es gs
asks_wait_stopped es fs gs taken asked stops = record {
  asks = 1;
  ran = Another 1 ∷ stops.ran;
  rest = stops.left;
  front = ap (λ (cs : List Command). Another 1 ∷ cs) stops.front;
  commands = stops.commands_are ∙ ap (λ cs. cs ++ stops.ran) asked
      ∙ append_assoc (commands_in es) (Another 1 ∷ []) stops.ran;
}

-- an ask with its wait
pub asked_once : (es fs gs : List Event) → commands_in fs ≡ commands_in es ++ Another 1 ∷ []
    → commands_in gs ≡ commands_in fs ++ Wait 1 ∷ [] → commands_in gs ≡ commands_in es ++ asks_in_turn 1
asked_once es fs gs asked waited =
    waited ∙ ap (λ (cs : List Command). cs ++ Wait 1 ∷ []) asked
    ∙ append_assoc (commands_in es) (Another 1 ∷ []) (Wait 1 ∷ [])

pub asks_once : (es gs : List Event) → commands_in gs ≡ commands_in es ++ asks_in_turn 1 → AsksOn es gs
asks_once es gs asked = record {
  asks = 1;
  ran = asks_in_turn 1;
  rest = [];
  front = refl;
  commands = asked;
}

-- so many asks, and one more
pub asked_more : (es fs gs : List Event) (asks : ℕ) → commands_in fs ≡ commands_in es ++ asks_in_turn asks
    → commands_in gs ≡ commands_in fs ++ asks_in_turn 1 → commands_in gs ≡ commands_in es ++ asks_in_turn (asks + 1)
asked_more es fs gs asks first more =
    more ∙ ap (λ cs. cs ++ asks_in_turn 1) first ∙ append_assoc (commands_in es) (asks_in_turn asks) (asks_in_turn 1)
    ∙ ap (λ cs. commands_in es ++ cs) (turn_join asks 1)

-- what is asked and answered, and ends no asks
pub asked_on : (s t u : SessionView) (first : AnswersNext s t (Another 1)) (second : AnswersNext t u (Wait 1))
    → commands_in t.events ≡ commands_in s.events ++ Another 1 ∷ []
    → commands_in u.events ≡ commands_in t.events ++ Wait 1 ∷ []
    → list_any ends_asks s.events ≡ false → list_any ends_asks t.events ≡ false → list_any ends_asks u.events ≡ false
    → IsAskedOn s u
asked_on s t u first second asked waited unended unended' unended'' =
    let granted : is_refusal first.reply ≡ false = sym (answer_ends s t (Another 1) first unended) ∙ unended' in
    let counts = another_asks first.between.state t.state 1 first.reply first.answer granted in
    let waits = wait_asks second.between.state u.state 1 second.reply second.answer in
    let before = first.goes_on.asks in
    let between = second.goes_on.asks in
    record {
      commands = asked_once s.events t.events u.events asked waited;
      unended = unended'';
      few = omega (arith, counts.0, before);
      asks = omega (arith, counts.1, waits, before, between);
    }

-- ---- the commands of a sample

pub sampled_none : (n : ℕ) (es : List Event) → es ≡ [] → AreSampled n es
sampled_none n es none = subst (AreSampled n) (sym none) (record { asks = 0; rest = sample_commands n 0; commands = refl })

abbrev pub load_of : ℕ → Command
load_of n = Load (numbered_from 1 (sample_lines n)) Ended

-- the load stopped
pub sampled_unloaded : (n : ℕ) (es fs : List Event) (taken : Option (List ℕ)) → es ≡ []
    → StopsIn es fs taken taken (load_of n ∷ []) → AreSampled n fs
sampled_unloaded n es fs taken none stops = record {
  asks = 0;
  rest = stops.left ++ Fold ∷ [];
  commands = ap (λ (cs : List Command). cs ++ Fold ∷ []) stops.front
      ∙ append_assoc stops.ran stops.left (Fold ∷ [])
      ∙ ap (λ cs. cs ++ (stops.left ++ Fold ∷ []))
      (sym (stops.commands_are ∙ ap (λ (xs : List Event). commands_in xs ++ stops.ran) none));
}

-- the fold stopped
pub sampled_unfolded : (n : ℕ) (es fs gs : List Event) (taken : Option (List ℕ)) → es ≡ []
    → commands_in fs ≡ commands_in es ++ load_of n ∷ [] → StopsIn fs gs taken taken (Fold ∷ []) → AreSampled n gs
sampled_unfolded n es fs gs taken none loaded stops = record {
  asks = 0;
  rest = stops.left;
  commands = ap (λ (cs : List Command). load_of n ∷ cs) stops.front
      ∙ ap (λ cs. cs ++ stops.left)
      (sym (stops.commands_are ∙ ap (λ cs. cs ++ stops.ran)
      (loaded ∙ ap (λ (xs : List Event). commands_in xs ++ load_of n ∷ []) none)));
}

-- the asks came
pub sampled_asks : (n : ℕ) (es fs gs hs : List Event) → es ≡ []
    → commands_in fs ≡ commands_in es ++ load_of n ∷ [] → commands_in gs ≡ commands_in fs ++ Fold ∷ []
    → AsksOn gs hs → AreSampled n hs
sampled_asks n es fs gs hs none loaded folded on = record {
  asks = on.asks;
  rest = on.rest;
  commands = ap (λ (cs : List Command). load_of n ∷ Fold ∷ cs) on.front
      ∙ ap (λ cs. cs ++ on.rest)
      (sym (on.commands ∙ ap (λ cs. cs ++ on.ran)
      (folded ∙ ap (λ (cs : List Command). cs ++ Fold ∷ [])
      (loaded ∙ ap (λ (xs : List Event). commands_in xs ++ load_of n ∷ []) none))));
}
