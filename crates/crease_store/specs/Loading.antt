-- Loading lines: each is added in order to the sheet with nothing on it.
use Rattle.std.specs.Prelude.{◌≡◌, ℕ, List, [], ◌∷◌, ◌++◌, Option, None, Some, Ok, Err}
use Rattle.std.specs.declared.result.Result.{Result}
use Rattle.crease_model.specs.View.{PatternView, empty_on}
use Rattle.crease_store.specs.declared.faults.StoreRefusal.{StoreRefusal}
use Rattle.crease_store.specs.declared.loading.LoadLine.{LoadLine}
use Rattle.crease_store.specs.declared.loading.LoadStoreFault.{LoadStoreFault}
use Rattle.crease_store.specs.Added.{IsAddedBetween}
use Rattle.crease_store.specs.AddRefusals.{IsRefusedFor}
use Rattle.crease_store.specs.Adding.{add_of}
use Rattle.crease_store.specs.Answer.{refusal_of}

-- the number of a line that is refused, and why it is
pub record LoadRefusal : Type 0 where
  pub number : ℕ
  pub refusal : StoreRefusal

abbrev pub refused_line : ℕ → StoreRefusal → LoadRefusal
refused_line number refusal = record { number = number; refusal = refusal }

abbrev pub after_line : ℕ → Result PatternView StoreRefusal
    → (PatternView → Result PatternView LoadRefusal)
    → Result PatternView LoadRefusal
after_line number (Ok pattern) rest = rest pattern
after_line number (Err refusal) rest = Err (refused_line number refusal)

-- the pattern with these lines, or the number and the refusal of the first one that is refused
abbrev pub load_from : List LoadLine → PatternView → Result PatternView LoadRefusal
load_from [] pattern = Ok pattern
load_from (line ∷ lines) pattern =
    after_line line.number (add_of pattern line.kind line.from line.to) (load_from lines)

unfoldable pub load_of : PatternView → List LoadLine → Result PatternView LoadRefusal
load_of pattern lines = load_from lines (empty_on pattern.corners)

-- an answer is the one that the definition gives, or want of memory, with the number 0
abbrev pub IsLoadRefusal : ℕ → Option StoreRefusal → Result PatternView LoadRefusal → Type 0
IsLoadRefusal number None answer = number ≡ 0
IsLoadRefusal number (Some refusal) answer = answer ≡ Err (refused_line number refusal)

abbrev pub IsLoadAnswer : Result PatternView LoadStoreFault → Result PatternView LoadRefusal → Type 0
IsLoadAnswer (Ok pattern) answer = answer ≡ Ok pattern
IsLoadAnswer (Err e) answer = IsLoadRefusal e.number (refusal_of e.fault) answer

-- ---- the same in words

-- new is old with each of the lines added, in order
abbrev pub IsLoaded : PatternView → List LoadLine → PatternView → Type 0
IsLoaded old [] new = new ≡ old
IsLoaded old (line ∷ lines) new =
    (next : PatternView) × IsAddedBetween old line.kind line.from line.to next × IsLoaded next lines new

-- the lines before one are added, and that one is refused
pub record IsFirstRefused (old : PatternView) (lines : List LoadLine) (number : ℕ) (refusal : StoreRefusal)
    : Type 0 where
  pub earlier : List LoadLine
  pub line : LoadLine
  pub later : List LoadLine
  pub split : lines ≡ earlier ++ line ∷ later
  pub number_is : number ≡ line.number
  pub before : PatternView
  pub loaded : IsLoaded old earlier before
  pub refused : IsRefusedFor before line.kind line.from line.to refusal
