-- The job machine: what each piece of a search has come to, and how asks, outcomes and answers change it.
use Rattle.std.specs.Prelude.{◌≡◌, ℕ, ◌+◌, ◌-◌, ◌==◌, Bool, true, false, if◌then◌else◌, List, length, map, Option, None, Some, is_some, slice_get, slice_set}
use Rattle.std.specs.List.{prefix_len}
use Rattle.sign_rules.specs.declared.sign.Sign.{Sign}
use Rattle.sign_rules.specs.Signs.{bare_order}
use Rattle.sign_rules.specs.Rules.{RulesView}
use Rattle.search_cursor.specs.Place.{search_place}
use Rattle.worker_split.specs.declared.outcome.Outcome.{Outcome}
use Rattle.worker_split.specs.declared.outcome.End.{End}
use Rattle.worker_split.specs.declared.outcome.End.TheVariants.{Found, Done, Paused}
use Rattle.worker_split.specs.declared.piece.Piece.{Piece}
use Rattle.worker_split.specs.declared.piece.PieceEnd.{PieceEnd}
use Rattle.worker_split.specs.declared.piece.PieceEnd.TheVariants.{Open, Ready, Done as Finished}
use Rattle.worker_split.specs.declared.piece.LastTask.{LastTask}
use Rattle.worker_split.specs.declared.piece.LastTask.TheVariants.{Never, Asked, Answered}
use Rattle.worker_split.specs.declared.answers.Kept.{Kept}
use Rattle.worker_split.specs.declared.answers.Taken.{Taken}
use Rattle.worker_split.specs.declared.answers.Taken.TheVariants.{Accepted, Stranger}
use Rattle.worker_split.specs.declared.answers.JobAnswer.{JobAnswer}
use Rattle.worker_split.specs.declared.answers.JobAnswer.TheVariants.{Shown, NoMore, Paused as Waiting, NotReady}
use Rattle.worker_split.specs.Tasks.{TaskView, IsRightEnd, IsRightOutcome}
use Rattle.worker_split.specs.Pieces.{pieces_of}

-- a job on one version of a pattern: its pieces, and the budget of its open ask, if there is one
pub record JobView : Type 0 where
  pub job : ℕ
  pub version : ℕ
  pub rules : RulesView
  pub pieces : List Piece
  pub ask : Option ℕ

-- a piece that nothing was asked of stands before all that begins with its prefix
abbrev pub new_piece : List Sign → Piece
new_piece prefix = record {
  prefix = bare_order prefix;
  kept = record { signs = bare_order prefix; past = false };
  end = Open;
  last = Never;
}

abbrev pub opened_job : ℕ → ℕ → RulesView → ℕ → JobView
opened_job job version rules most = record {
  job = job;
  version = version;
  rules = rules;
  pieces = map new_piece (pieces_of rules most);
  ask = None;
}

-- ---- ask: each open piece has a new task, from its kept position

abbrev pub asked_end : ℕ → PieceEnd → LastTask → LastTask
asked_end budget Open _ = Asked budget
asked_end budget (Ready _) last = last
asked_end budget Finished last = last

abbrev pub asked_piece : ℕ → Piece → Piece
asked_piece budget p = record p { last = asked_end budget p.end p.last }

abbrev pub asked : JobView → ℕ → JobView
asked j budget =
    if is_some j.ask then j else record j { pieces = map (asked_piece budget) j.pieces; ask = Some budget }

-- ---- task: what an open piece has still to answer in the open ask

abbrev pub piece_at : JobView → ℕ → Option Piece
piece_at j piece = if piece == 0 then None else slice_get j.pieces (piece - 1)

-- the task of a piece with this budget. An unanswered task begins at the kept position, which only its answer
-- moves
abbrev pub task_with : JobView → ℕ → Piece → ℕ → TaskView
task_with j piece p budget = record {
  job = j.job;
  version = j.version;
  piece = piece;
  rules = j.rules;
  prefix = p.prefix.list;
  from = search_place p.kept;
  budget = budget;
}

abbrev pub task_by : JobView → ℕ → Piece → PieceEnd → LastTask → Option TaskView
task_by j piece p Open (Asked budget) = Some (task_with j piece p budget)
task_by j piece p Open (Answered _) = None
task_by j piece p Open Never = None
task_by j piece p (Ready _) _ = None
task_by j piece p Finished _ = None

abbrev pub task_of_piece : JobView → ℕ → Option Piece → Option TaskView
task_of_piece j piece None = None
task_of_piece j piece (Some p) = task_by j piece p p.end p.last

abbrev pub task_at : JobView → ℕ → Option TaskView
task_at j piece = if is_some j.ask then task_of_piece j piece (piece_at j piece) else None

-- ---- outcomes: one that names the last task of its piece, unanswered so far, is that task's answer

pub record NamesTask (j : JobView) (p : Piece) (x : Outcome) : Type 0 where
  pub job : x.job ≡ j.job
  pub version : x.version ≡ j.version
  pub unanswered : p.last ≡ Asked x.budget
  pub from : search_place x.from ≡ search_place p.kept

abbrev pub NamesTaskOf : JobView → Option Piece → Outcome → Type 0
NamesTaskOf j None x = ⊥
NamesTaskOf j (Some p) x = NamesTask j p x

abbrev pub Matches : JobView → Outcome → Type 0
Matches j x = NamesTaskOf j (piece_at j x.piece) x

-- the task that an outcome names, with the job's rules and the piece's prefix
abbrev pub task_told : JobView → Piece → Outcome → TaskView
task_told j p x = record {
  job = j.job;
  version = j.version;
  piece = x.piece;
  rules = j.rules;
  prefix = p.prefix.list;
  from = search_place x.from;
  budget = x.budget;
}

-- where the outcome names the job and a piece of it, its end is right for the task that it names
abbrev pub IsRightFor : JobView → Outcome → Type 0
IsRightFor j x =
    (p : Piece) → piece_at j x.piece ≡ Some p → x.job ≡ j.job → x.version ≡ j.version
    → IsRightEnd (task_told j p x) x.end

-- the outcome is right where it names the last task of its piece, unanswered so far
abbrev pub IsRightWhereNamed : JobView → Outcome → Type 0
IsRightWhereNamed j x = (p : Piece) → piece_at j x.piece ≡ Some p → NamesTask j p x
    → IsRightOutcome (task_with j x.piece p x.budget) x

abbrev pub answered_piece : Piece → ℕ → End → Piece
answered_piece p budget (Found order position) =
    record { prefix = p.prefix; kept = position; end = Ready order; last = Answered budget }
answered_piece p budget Done =
    record { prefix = p.prefix; kept = p.kept; end = Finished; last = Answered budget }
answered_piece p budget (Paused position) =
    record { prefix = p.prefix; kept = position; end = p.end; last = Answered budget }

abbrev pub posted_to : JobView → Outcome → Option Piece → JobView
posted_to j x None = j
posted_to j x (Some p) =
    record j { pieces = slice_set j.pieces (x.piece - 1) (answered_piece p x.budget x.end) }

abbrev pub posted : JobView → Outcome → JobView
posted j x = posted_to j x (piece_at j x.piece)

-- what a job knows of a piece whose last task has this budget
abbrev pub known_with : JobView → ℕ → ℕ → Bool → Kept
known_with j piece budget answered = record {
  job = j.job;
  version = j.version;
  piece = piece;
  pieces = length j.pieces;
  budget = budget;
  answered = answered;
}

-- what a job knows of a piece: 0 stands for a piece that there is not, and for the budget where it never had a
-- task
abbrev pub kept_with : JobView → ℕ → LastTask → Kept
kept_with j piece Never = known_with j piece 0 false
kept_with j piece (Asked budget) = known_with j piece budget false
kept_with j piece (Answered budget) = known_with j piece budget true

abbrev pub kept_of_piece : JobView → ℕ → Option Piece → Kept
kept_of_piece j piece None = kept_with j 0 Never
kept_of_piece j piece (Some p) = kept_with j piece p.last

abbrev pub kept_of : JobView → ℕ → Kept
kept_of j piece = kept_of_piece j piece (piece_at j piece)

-- an outcome is accepted where it matches; any other is a stranger and changes nothing
abbrev pub IsTaken : JobView → Outcome → Taken → JobView → Type 0
IsTaken old x Accepted new = Matches old x × (new ≡ posted old x)
IsTaken old x (Stranger kept came) new =
    (¬ Matches old x) × (kept ≡ kept_of old x.piece) × (came ≡ x) × (new ≡ old)

-- ---- answer: by the first piece that is not done

abbrev pub is_finished : PieceEnd → Bool
is_finished Finished = true
is_finished Open = false
is_finished (Ready _) = false

-- how many pieces stand before the first that is not done
abbrev pub done_before : List Piece → ℕ
done_before pieces = prefix_len (λ p. is_finished p.end) pieces

abbrev pub end_answer : ℕ → PieceEnd → LastTask → JobAnswer
end_answer number (Ready order) _ = Shown order
end_answer number Open (Answered _) = Waiting
end_answer number Open (Asked _) = NotReady number
end_answer number Open Never = NotReady number
end_answer number Finished _ = NoMore

abbrev pub piece_answer : ℕ → Option Piece → JobAnswer
piece_answer number None = NoMore
piece_answer number (Some p) = end_answer number p.end p.last

abbrev pub next_answer : JobView → JobAnswer
next_answer j = piece_answer (done_before j.pieces + 1) (slice_get j.pieces (done_before j.pieces))

-- a shown order is no longer ready
abbrev pub reopened_end : PieceEnd → PieceEnd
reopened_end (Ready _) = Open
reopened_end Open = Open
reopened_end Finished = Finished

abbrev pub reopened : List Piece → ℕ → Option Piece → List Piece
reopened pieces place None = pieces
reopened pieces place (Some p) = slice_set pieces place (record p { end = reopened_end p.end })

-- each answer but NotReady closes the ask
abbrev pub after_answer : JobView → JobAnswer → JobView
after_answer j (NotReady _) = j
after_answer j NoMore = record j { ask = None }
after_answer j Waiting = record j { ask = None }
after_answer j (Shown _) = record j {
  pieces = reopened j.pieces (done_before j.pieces) (slice_get j.pieces (done_before j.pieces));
  ask = None;
}

abbrev pub waits_for : JobAnswer → Option ℕ
waits_for (NotReady piece) = Some piece
waits_for (Shown _) = None
waits_for NoMore = None
waits_for Waiting = None

-- the piece whose outcome an open ask waits for
abbrev pub needed : JobView → Option ℕ
needed j = if is_some j.ask then waits_for (next_answer j) else None
