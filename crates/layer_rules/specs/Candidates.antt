-- All pairs of faces in order, and the first of them.
use Rattle.std.specs.Prelude.{ℕ, ◌^◌, ◌<◌, ◌≤◌, List, length}
use Rattle.std.specs.List.{All, AllPairs, Contains}
use Rattle.layer_rules.specs.declared.face_pairs.FacePair.{FacePair}
use Rattle.layer_rules.specs.FacePairs.{Precedes}

-- in order, each preceding this one, with all pairs of faces up to n that do
pub record ArePreceding (n : ℕ) (next : FacePair) (pairs : List FacePair) : Type 0 where
  pub ascending : AllPairs Precedes pairs
  pub below : All (λ pair. Precedes pair next) pairs
  pub complete : (pair : FacePair) → 1 ≤ pair.i → pair.i < pair.j → pair.j ≤ n → Precedes pair next
      → Contains pairs pair

-- those with a first face before i
abbrev pub AreBefore : ℕ → ℕ → List FacePair → Type 0
AreBefore n i pairs = ArePreceding n (record { i = i; j = 0 }) pairs

-- in order, all pairs of faces up to n among them
pub record AreCandidates (n : ℕ) (pairs : List FacePair) : Type 0 where
  pub ascending : AllPairs Precedes pairs
  pub complete : (pair : FacePair) → 1 ≤ pair.i → pair.i < pair.j → pair.j ≤ n → Contains pairs pair
  pub few : length pairs < 2 ^ 32
