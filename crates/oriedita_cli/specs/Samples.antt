-- The run of a sample pattern: its commands, the reply that ends it, and its one line.
use Rattle.std.specs.Prelude.{◌≡◌, ⊤, ℕ, zero, suc, ◌+◌, ◌<◌, ◌⊎◌, Bool, true, false, List, [], ◌∷◌, ◌++◌, Option, None, Some, codes, decimal, count_by, if◌then◌else◌, IsTrue}
use Rattle.std.specs.List.{list_any}
use Rattle.std.specs.Option.{option_or}
use Rattle.cp_text.specs.declared.line.CpLine.{CpLine}
use Rattle.cp_text.specs.Sample.{sample_lines}
use Rattle.crease_store.specs.declared.loading.LoadLine.{LoadLine}
use Rattle.script_lang.specs.declared.block.LoadStop.TheVariants.{Ended}
use Rattle.script_lang.specs.declared.command.Command.{Command}
use Rattle.script_lang.specs.declared.command.Command.TheVariants.{Load, Fold, Another, Wait}
use Rattle.script_lang.specs.declared.reply.Reply.{Reply}
use Rattle.script_lang.specs.declared.reply.Reply.TheVariants.{Job, Shown, NoMore}
use Rattle.job_register.specs.declared.session.Event.{Event}
use Rattle.job_register.specs.declared.session.Event.TheVariants.{Made, Posted}
use Rattle.job_register.specs.Legal.{commands_in, is_refusal}

-- ---- the commands

-- the lines with their numbers, counted from this one
abbrev pub numbered_from : ℕ → List CpLine → List LoadLine
numbered_from at [] = []
numbered_from at (line ∷ lines) =
    record { number = at; kind = line.kind; from = line.from; to = line.to } ∷ numbered_from (at + 1) lines

-- so many asks of job 1, each with its wait
abbrev pub asks_in_turn : ℕ → List Command
asks_in_turn zero = []
asks_in_turn (suc asks) = Another 1 ∷ Wait 1 ∷ asks_in_turn asks

-- the sample is loaded and folded, and its orders are asked for in turn
abbrev pub sample_commands : ℕ → ℕ → List Command
sample_commands n asks = Load (numbered_from 1 (sample_lines n)) Ended ∷ Fold ∷ asks_in_turn asks

-- ---- the end

abbrev pub says_no_more : Reply → Bool
says_no_more (NoMore job version) = true
says_no_more r = false

-- all orders were shown, or an ask is refused
abbrev pub ends_by : Command → Reply → Bool
ends_by (Another job) r = is_refusal r
ends_by (Wait job) r = says_no_more r
ends_by command r = false

abbrev pub ends_asks : Event → Bool
ends_asks (Made command r) = ends_by command r
ends_asks (Posted x accepted) = false

-- nothing comes after the event that ends the asks
abbrev pub EndsLast : List Event → Type 0
EndsLast [] = ⊤
EndsLast (e ∷ es) = (IsTrue (ends_asks e) → es ≡ []) × EndsLast es

-- the record has gone on by the first few of some asks in turn
pub record AsksOn (old new : List Event) : Type 0 where
  pub asks : ℕ
  pub ran : List Command
  pub rest : List Command
  pub front : asks_in_turn asks ≡ ran ++ rest
  pub commands : commands_in new ≡ commands_in old ++ ran

-- the record has the first few commands of a sample
pub record AreSampled (n : ℕ) (events : List Event) : Type 0 where
  pub asks : ℕ
  pub rest : List Command
  pub commands : sample_commands n asks ≡ commands_in events ++ rest

-- The input clause for a sample: the first few of its commands, up to the reply that ends the asks at 0 and 1.
pub record IsSampled (status n : ℕ) (events : List Event) : Type 0 where
  pub commands : AreSampled n events
  pub last : EndsLast events
  pub ended : status < 2 → IsTrue (list_any ends_asks events)
  -- no other status is answered: nothing is read
  pub unread : (status < 2) ⊎ ((status ≡ 4) ⊎ (status ≡ 6))

-- ---- the line

-- the numbers of faces and pairs of a new job
abbrev pub shape_of : Reply → Option (ℕ × ℕ)
shape_of (Job job version faces pairs) = Some (faces, pairs)
shape_of r = None

abbrev pub shape_told : Event → Option (ℕ × ℕ)
shape_told (Made command r) = shape_of r
shape_told (Posted x accepted) = None

abbrev pub first_shape : List Event → Option (ℕ × ℕ)
first_shape [] = None
first_shape (e ∷ es) = option_or (shape_told e) (first_shape es)

abbrev pub is_order : Reply → Bool
is_order (Shown job version number order) = true
is_order r = false

abbrev pub shows_order : Event → Bool
shows_order (Made command r) = is_order r
shows_order (Posted x accepted) = false

abbrev pub orders_shown : List Event → ℕ
orders_shown es = count_by shows_order es

abbrev pub is_no_more : Event → Bool
is_no_more (Made command r) = says_no_more r
is_no_more (Posted x accepted) = false

-- the job's numbers and how many orders it has, where all were shown
abbrev pub folded_text : Option (ℕ × ℕ) → ℕ → List ℕ
folded_text None orders = codes " stopped\n"
folded_text (Some shape) orders =
    codes " faces " ++ decimal shape.0 ++ codes " pairs " ++ decimal shape.1 ++ codes " orders "
    ++ decimal orders ++ codes "\n"

abbrev pub sample_text : ℕ → List Event → List ℕ
sample_text n es =
    codes "sample " ++ decimal n
    ++ folded_text (if list_any is_no_more es then first_shape es else None) (orders_shown es)
