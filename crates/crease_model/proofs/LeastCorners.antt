-- The first least corner.
use Rattle.std.proofs.Common.{◌≡◌, ℕ, ◌<◌, Bool, true, not, List, [], ◌∷◌, length, get_or, ap, ◌∙◌, arith}
use Rattle.std.specs.Cmp.{IsTotalOrder, IsStrictWeakOrder}
use Rattle.std.specs.Ordering.{is_lt}
use Rattle.std.specs.List.{IsFirstBest}
use Rattle.std.proofs.lemmas.Cmp.{then_total, on_total}
use Rattle.std.proofs.lemmas.List.MinMax.{ranks_by, IsFirstBest-from_best_of}
use Rattle.std.proofs.lemmas.List.Sums.{list_all-from_AllPass, position_or_len_is, passes_at_first}
use Rattle.std.proofs.lemmas.Bool.{not_from_false}
use Rattle.std.proofs.lemmas.List.{get_or_default}
use Rattle.std.proofs.lemmas.List.Folds.{list_all_at}
use Rattle.surd_number.specs.SignLaws.{compare_of_total}
use Rattle.plane_geometry.specs.declared.Point.{Point}
use Rattle.plane_geometry.specs.Position.{Position, position_of, compare_positions}
use Rattle.crease_model.specs.Sheet.{is_least}
use Rattle.crease_model.specs.NewSheet.{least_place}

abbrev pub comes_before : Point → Point → Bool
comes_before p q = is_lt (compare_positions (position_of p) (position_of q))

compare_positions_total : IsTotalOrder compare_positions
compare_positions_total =
    then_total (on_total (λ (p : Position). p.x) compare_of_total)
    (on_total (λ (p : Position). p.y) compare_of_total)

pub points_rank : IsStrictWeakOrder comes_before
points_rank = ranks_by compare_positions_total position_of

-- the first corner that none is before
pub first_least : (corners : List Point) (i : ℕ) → IsFirstBest comes_before corners (length corners) i
    → least_place corners ≡ i
first_least [] i h = absurd (omega (arith, h.0))
first_least (p ∷ ps) i h =
    position_or_len_is (is_least (p ∷ ps)) (p ∷ ps) i p (omega (arith, h.0))
    (λ k before. list_all_at (λ q. not (comes_before q (get_or (p ∷ ps) k p))) (p ∷ ps) i p h.0
    (ap not (h.2 k p before)))
    (λ within. list_all-from_AllPass (λ q. not (comes_before q (get_or (p ∷ ps) i p))) (p ∷ ps)
    (λ k d few. not_from_false _
    (ap (λ q. comes_before q (get_or (p ∷ ps) i p)) (get_or_default (p ∷ ps) k d p few) ∙ h.1 k p few)))

-- there is a least corner, and the corners begin with it from there on
pub least_is_first : (p : Point) (ps : List Point)
    → (least_place (p ∷ ps) < length (p ∷ ps))
    × (is_least (p ∷ ps) (get_or (p ∷ ps) (least_place (p ∷ ps)) p) ≡ true)
least_is_first p ps =
    let best = IsFirstBest-from_best_of points_rank p ps in
    let few : least_place (p ∷ ps) < length (p ∷ ps) = omega
    (arith, first_least (p ∷ ps) best.0 best.1, best.1.0) in
    (few, passes_at_first (is_least (p ∷ ps)) (p ∷ ps) p few)
