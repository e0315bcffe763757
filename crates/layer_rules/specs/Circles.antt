-- Three faces with a point in common, by the places of their pairs, and the rules that they make.
use Rattle.std.specs.Prelude.{◌≡◌, ℕ, ◌+◌, ◌*◌, ◌<◌, ◌≤◌, ◌⊎◌, ◌↔◌, List, length, Some}
use Rattle.std.specs.List.{All, AllPairs, Contains, slice_get}
use Rattle.plane_geometry.specs.Position.{Position}
use Rattle.open_region.specs.declared.Region.{Region}
use Rattle.open_region.specs.Region.{IsInRegion}
use Rattle.isometry_map.specs.Folded.{FoldedView}
use Rattle.sign_rules.specs.declared.rule.Rule.{Rule}
use Rattle.sign_rules.specs.declared.rule.Rule.TheVariants.{Fixed, Equal, Even, NotCyclic}
use Rattle.layer_rules.specs.declared.face_pairs.FacePair.{FacePair}
use Rattle.layer_rules.specs.Faces.{IsInside}
use Rattle.layer_rules.specs.FacePairs.{Precedes}

-- what is strictly inside both faces
abbrev pub IsCommon : FoldedView → FacePair → Region → Type 0
IsCommon shape pair common = (p : Position) → IsInRegion p common ↔ (IsInside shape pair.i p × IsInside shape pair.j p)

-- pairs of the first n faces, in order
pub record AreOrdered (n : ℕ) (pairs : List FacePair) : Type 0 where
  pub ascending : AllPairs Precedes pairs
  pub in_range : All (λ pair. (1 ≤ pair.i) × (pair.i < pair.j) × (pair.j ≤ n)) pairs

-- the pairs in these places are those of three faces with a point strictly inside all of them
pub record IsCircle (shape : FoldedView) (pairs : List FacePair) (ij jk ik : ℕ) : Type 0 where
  pub i : ℕ
  pub j : ℕ
  pub k : ℕ
  pub ascending : i < j
  pub still_ascending : j < k
  pub first : slice_get pairs ij ≡ Some (record { i = i; j = j })
  pub second : slice_get pairs jk ≡ Some (record { i = j; j = k })
  pub third : slice_get pairs ik ≡ Some (record { i = i; j = k })
  pub point : Position
  pub in_first : IsInside shape i point
  pub in_second : IsInside shape j point
  pub in_third : IsInside shape k point

pub record IsCircleRule (shape : FoldedView) (pairs : List FacePair) (rule : Rule) : Type 0 where
  pub ij : ℕ
  pub jk : ℕ
  pub ik : ℕ
  pub is : rule ≡ NotCyclic ij jk ik
  pub circle : IsCircle shape pairs ij jk ik

-- ---- in order

abbrev pub first_place : Rule → ℕ
first_place (NotCyclic ij jk ik) = ij
first_place (Fixed p sign) = 0
first_place (Equal p q same) = 0
first_place (Even p q r s odd) = 0

abbrev pub third_place : Rule → ℕ
third_place (NotCyclic ij jk ik) = ik
third_place (Fixed p sign) = 0
third_place (Equal p q same) = 0
third_place (Even p q r s odd) = 0

-- by the place of the first pair, then by that of the third
abbrev pub ArePlacedBefore : ℕ → ℕ → ℕ → ℕ → Type 0
ArePlacedBefore ij ik p t = (ij < p) ⊎ ((ij ≡ p) × (ik < t))

abbrev pub StandsBefore : Rule → Rule → Type 0
StandsBefore r s = ArePlacedBefore (first_place r) (third_place r) (first_place s) (third_place s)

-- in order, the rules of all circles whose places come before p and t, and nothing else
pub record AreCirclesBefore (shape : FoldedView) (pairs : List FacePair) (p t : ℕ) (rules : List Rule)
    : Type 0 where
  pub few : length rules ≤ p * length pairs + t
  pub ascending : AllPairs StandsBefore rules
  pub below : All (λ rule. ArePlacedBefore (first_place rule) (third_place rule) p t) rules
  pub sound : All (IsCircleRule shape pairs) rules
  pub complete : (ij jk ik : ℕ) → IsCircle shape pairs ij jk ik → ArePlacedBefore ij ik p t
      → Contains rules (NotCyclic ij jk ik)
