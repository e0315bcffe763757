-- Lists in the order of segments.
use Rattle.std.specs.Prelude.{◌≡◌, Bool, true, false, ◌&&◌, not, ◌⊎◌, List, [], ◌∷◌, ◌++◌, Contains}
use Rattle.std.specs.Ordering.{is_eq}
use Rattle.plane_geometry.specs.declared.Segment.{Segment}
use Rattle.plane_geometry.specs.Order.{compare_segments, is_before}
use Rattle.crease_model.specs.declared.Piece.{Piece}
use Rattle.line_split.specs.Points.{by_order}

abbrev pub segment_at : Piece → Segment
segment_at p = p.segment

abbrev pub line_at : Segment → Segment
line_at s = s

-- with one more in its place; what stands on the same segment gives way to it
abbrev pub with_in_order : {X : Type 0} → (X → Segment) → List X → X → List X
with_in_order segment_at [] new = new ∷ []
with_in_order segment_at (x ∷ xs) new =
    by_order (compare_segments (segment_at new) (segment_at x)) (new ∷ x ∷ xs) (new ∷ xs)
    (x ∷ with_in_order segment_at xs new)

-- with each of these, one after another
abbrev pub with_all_in_order : {X : Type 0} → (X → Segment) → List X → List X → List X
with_all_in_order segment_at xs [] = xs
with_all_in_order segment_at xs (new ∷ news) =
    with_all_in_order segment_at (with_in_order segment_at xs new) news

-- ---- the same in one walk

-- the first of these is on the same segment
abbrev pub begins_on : List Piece → Piece → Bool
begins_on [] p = false
begins_on (q ∷ qs) p = is_eq (compare_segments q.segment p.segment)

-- no segment stands before the one in front of it
abbrev pub never_descends : List Piece → Bool
never_descends [] = true
never_descends (p ∷ []) = true
never_descends (p ∷ q ∷ ps) = not (is_before q.segment p.segment) && never_descends (q ∷ ps)

-- of these and those, two pieces on one segment are one piece
abbrev pub HaveOneOnEach : List Piece → List Piece → Type 0
HaveOneOnEach pieces news =
    (p q : Piece)
    → (Contains news p ⊎ Contains pieces p)
    → (Contains news q ⊎ Contains pieces q)
    → p.segment ≡ q.segment
    → p ≡ q

-- of pieces those that stand before a new one are appended to others, and that one; left are those that stand
-- behind it
pub record IsPutBetween (others pieces : List Piece) (new : Piece) (all left : List Piece) : Type 0 where
  pub front : List Piece
  pub appended : all ≡ others ++ front ++ new ∷ []
  pub split : with_in_order segment_at pieces new ≡ front ++ new ∷ left
