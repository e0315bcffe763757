-- The sides that are left from the i-th corner on, as loops over corners meet them.
use Rattle.std.proofs.Common.{◌≡◌, ℕ, zero, suc, ◌+◌, ◌<◌, ◌≤◌, cond, List, [], ◌∷◌, drop, length, ap, ap₂, sym, ◌∙◌, arith}
use Rattle.std.proofs.lemmas.Bool.{lt-ltb, le-ltb}
use Rattle.std.specs.Prelude.{slice_index_or}
use Rattle.plane_geometry.specs.declared.Point.{Point}
use Rattle.plane_geometry.specs.Polygon.{Side, sides_from, next_corner_of}

abbrev pub left_of_first : List Point → List Point → List Side
left_of_first [] left = []
left_of_first (p ∷ ps) left = sides_from p left

abbrev pub sides_left : List Point → ℕ → List Side
sides_left corners i = left_of_first corners (drop i corners)

abbrev side : Point → Point → Side
side a b = record { start = a; end = b }

next_from : (first : Point) (ps : List Point) (i : ℕ) (a b : Point) → i < length ps
    → a ≡ slice_index_or ps i a
    → (suc i < length ps → b ≡ slice_index_or ps (suc i) b)
    → (length ps ≤ suc i → b ≡ first)
    → sides_from first (drop i ps) ≡ side a b ∷ sides_from first (drop (suc i) ps)
next_from first [] i a b few read after last = absurd (omega arith)
next_from first (p ∷ []) zero a b few read after last =
    ap₂ (λ x y. side x y ∷ []) (sym read) (sym (last (omega arith)))
next_from first (p ∷ []) (suc i) a b few read after last = absurd (omega arith)
next_from first (p ∷ q ∷ qs) zero a b few read after last =
    ap₂ (λ x y. side x y ∷ sides_from first (q ∷ qs)) (sym read) (sym (after (omega arith)))
next_from first (p ∷ q ∷ qs) (suc i) a b few read after last =
    next_from first (q ∷ qs) i a b (omega arith) read (λ h. after (omega arith)) (λ h. last (omega arith))

-- from a corner to the next, and then those that are left from the next one on
pub next_side_left : (corners : List Point) (i : ℕ) (a b : Point) → i < length corners
    → a ≡ slice_index_or corners i a
    → b ≡ next_corner_of corners i b
    → sides_left corners i ≡ side a b ∷ sides_left corners (i + 1)
next_side_left [] i a b few read next = absurd (omega arith)
next_side_left (p ∷ ps) i a b few read next =
    let after : suc i ≡ i + 1 = omega arith in
    next_from p (p ∷ ps) i a b few read
    (λ h. next
    ∙ ap (λ t. cond t (slice_index_or (p ∷ ps) (i + 1) b) p)
    (lt-ltb (i + 1) (length (p ∷ ps)) (omega arith))
    ∙ ap (λ n. slice_index_or (p ∷ ps) n b) (sym after))
    (λ h. next ∙ ap (λ t. cond t (slice_index_or (p ∷ ps) (i + 1) b) p)
    (le-ltb (i + 1) (length (p ∷ ps)) (omega arith)))
    ∙ ap (λ n. side a b ∷ sides_left (p ∷ ps) n) after
