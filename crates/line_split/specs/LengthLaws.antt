-- How long lists of points, and joined lists, are at most.
use Rattle.std.proofs.Common.{ℕ, ◌+◌, ◌*◌, ◌≤◌, List, [], ◌∷◌, length, arith}
use Rattle.std.proofs.lemmas.List.{length-append}
use Rattle.std.specs.List.{flat_map}
use Rattle.std.specs.declared.cmp.Ordering.TheVariants.{Less, Equal, Greater}
use Rattle.plane_geometry.specs.declared.Point.{Point}
use Rattle.plane_geometry.specs.Position.{position_of, compare_positions}
use Rattle.line_split.specs.Points.{by_order, with_point}

pub with_point_length : (points : List Point) (v : Point) → length (with_point points v) ≤ length points + 1
with_point_length [] v = omega arith
with_point_length (p ∷ ps) v =
    let more = with_point_length ps v in
    elim (compare_positions (position_of v) (position_of p))
    as (λ o. length (by_order o (v ∷ p ∷ ps) (p ∷ ps) (p ∷ with_point ps v)) ≤ length (p ∷ ps) + 1)
    [ Less ↦ omega arith | Equal ↦ omega arith | Greater ↦ omega (arith, more) ]

pub flat_map_length : {X A : Type 0} (f : X → List A) (n : ℕ) → ((x : X) → length (f x) ≤ n) → (xs : List X)
    → length (flat_map f xs) ≤ length xs * n
flat_map_length f n few [] = omega arith
flat_map_length f n few (x ∷ xs) =
    omega (arith, length-append (f x) (flat_map f xs), few x, flat_map_length f n few xs)
