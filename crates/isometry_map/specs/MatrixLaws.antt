-- The laws of linear parts, by tables that compute.
use Rattle.std.proofs.Common.{◌≡◌, ℕ, ◌<◌, Bool, true, cond, ◌&&◌, ◌||◌, not, eqb, eqb-true, inl, inr, pos, negsuc, refl, ap, ap₂}
use Rattle.std.proofs.lemmas.Bool.{and_parts, agree_below, agree_below_at, or_cases, both_ways}
use Rattle.std.specs.Ordering.{is_eq}
use Rattle.std.specs.declared.cmp.Ordering.{Ordering}
use Rattle.std.specs.declared.cmp.Ordering.TheVariants.{Less, Equal, Greater}
use Rattle.surd_number.specs.Number.{Number, IsSame, whole, compare_of}
use Rattle.surd_number.specs.SignLaws.{compare_of-equal}
use Rattle.plane_geometry.specs.Position.{Position, opposite_of}
use Rattle.plane_geometry.specs.Direction.{direction_vector}
use Rattle.plane_geometry.specs.Multiple.{IsSameVector}
use Rattle.isometry_map.specs.Linear.{reflection, is_reflection, composed}
use Rattle.isometry_map.specs.Matrix.{Matrix, matrix_of, matrix_product, determinant, image_of, normal_of, IsSameMatrix}
use Rattle.isometry_map.specs.Laws.{CompositionIsProduct, PartsDiffer, ReflectionsKeepTheirLines, TurnedReverse}

-- ---- tests of sameness

abbrev pub is_same_number : Number → Number → Bool
is_same_number x y = is_eq (compare_of x y)

equal_is : (o : Ordering) → is_eq o ≡ true → o ≡ Equal
equal_is Less e = absurd (cc)
equal_is Equal e = refl
equal_is Greater e = absurd (cc)

pub same_is : (x y : Number) → is_same_number x y ≡ true → IsSame x y
same_is x y e = (compare_of-equal x y).0 (equal_is (compare_of x y) e)

is_same_from : (x y : Number) → IsSame x y → is_same_number x y ≡ true
is_same_from x y same = ap is_eq ((compare_of-equal x y).1 same)

abbrev is_same_vector : Position → Position → Bool
is_same_vector u v = is_same_number u.x v.x && is_same_number u.y v.y

same_vector : (u v : Position) → is_same_vector u v ≡ true → IsSameVector u v
same_vector u v e = let h = and_parts (is_same_number u.x v.x) (is_same_number u.y v.y) e
    in (same_is u.x v.x h.0, same_is u.y v.y h.1)

abbrev is_same_matrix : Matrix → Matrix → Bool
is_same_matrix m n = (is_same_number m.xx n.xx && is_same_number m.xy n.xy) && (is_same_number m.yx n.yx && is_same_number m.yy n.yy)

same_matrix : (m n : Matrix) → is_same_matrix m n ≡ true → IsSameMatrix m n
same_matrix m n e =
    let h = and_parts (is_same_number m.xx n.xx && is_same_number m.xy n.xy) (is_same_number m.yx n.yx && is_same_number m.yy n.yy) e in
    let top = and_parts (is_same_number m.xx n.xx) (is_same_number m.xy n.xy) h.0 in
    let low = and_parts (is_same_number m.yx n.yx) (is_same_number m.yy n.yy) h.1 in
    record {
      xx = same_is m.xx n.xx top.0;
      xy = same_is m.xy n.xy top.1;
      yx = same_is m.yx n.yx low.0;
      yy = same_is m.yy n.yy low.1;
    }

is_same_matrix_from : (m n : Matrix) → IsSameMatrix m n → is_same_matrix m n ≡ true
is_same_matrix_from m n h =
    ap₂ ◌&&◌ (ap₂ ◌&&◌ (is_same_from m.xx n.xx h.xx) (is_same_from m.xy n.xy h.xy))
    (ap₂ ◌&&◌ (is_same_from m.yx n.yx h.yx) (is_same_from m.yy n.yy h.yy))

-- ---- tables

-- a test of one number, or of two, below 16
pub holds_at : (test : ℕ → Bool) (n : ℕ) → agree_below test (λ _. true) 16 ≡ true → n < 16 → test n ≡ true
holds_at test n table few = agree_below_at test (λ _. true) 16 n table few

pub holds_at_both : (test : ℕ → ℕ → Bool) (i j : ℕ)
    → agree_below (λ k. agree_below (test k) (λ _. true) 16) (λ _. true) 16 ≡ true → i < 16 → j < 16
    → test i j ≡ true
holds_at_both test i j table few_i few_j =
    holds_at (test i) j (holds_at (λ k. agree_below (test k) (λ _. true) 16) i table few_i) few_j

composes : ℕ → ℕ → Bool
composes i j = is_same_matrix (matrix_of (composed i j)) (matrix_product (matrix_of i) (matrix_of j))

composes_table : agree_below (λ i. agree_below (composes i) (λ _. true) 16) (λ _. true) 16 ≡ true
unfolding composes
composes_table = refl

pub composition_is_product : CompositionIsProduct
unfolding composes
composition_is_product i j few_i few_j =
    same_matrix (matrix_of (composed i j)) (matrix_product (matrix_of i) (matrix_of j))
    (holds_at_both composes i j composes_table few_i few_j)

differs : ℕ → ℕ → Bool
differs i j = not (is_same_matrix (matrix_of i) (matrix_of j)) || eqb i j

differs_table : agree_below (λ i. agree_below (differs i) (λ _. true) 16) (λ _. true) 16 ≡ true
unfolding differs
differs_table = refl

pub parts_differ : PartsDiffer
unfolding differs
parts_differ i j few_i few_j same =
    elim (or_cases (not (is_same_matrix (matrix_of i) (matrix_of j))) (eqb i j)
    (holds_at_both differs i j differs_table few_i few_j)) [
      | inl e ↦ absurd (both_ways (not (is_same_matrix (matrix_of i) (matrix_of j)))
          (ap not (is_same_matrix_from (matrix_of i) (matrix_of j) same)) e)
      | inr e ↦ eqb-true i j e
    ]

keeps : ℕ → Bool
keeps n =
    is_same_vector (image_of (matrix_of (reflection n)) (direction_vector n)) (direction_vector n)
    && is_same_vector (image_of (matrix_of (reflection n)) (normal_of (direction_vector n)))
    (opposite_of (normal_of (direction_vector n)))

keeps_table : agree_below keeps (λ _. true) 16 ≡ true
unfolding keeps
keeps_table = refl

pub reflections_keep_their_lines : ReflectionsKeepTheirLines
unfolding keeps
reflections_keep_their_lines n few =
    let along = direction_vector n in
    let across = normal_of (direction_vector n) in
    let image : Position → Position = image_of (matrix_of (reflection n)) in
    let h = and_parts (is_same_vector (image along) along)
    (is_same_vector (image across) (opposite_of across)) (holds_at keeps n keeps_table few) in
    (same_vector (image along) along h.0, same_vector (image across) (opposite_of across) h.1)

reverses : ℕ → Bool
reverses n = is_same_number (determinant (matrix_of n)) (cond (is_reflection n) (whole (negsuc 0)) (whole (pos 1)))

reverses_table : agree_below reverses (λ _. true) 16 ≡ true
unfolding reverses
reverses_table = refl

pub turned_reverse : TurnedReverse
unfolding reverses
turned_reverse n few =
    same_is (determinant (matrix_of n)) (cond (is_reflection n) (whole (negsuc 0)) (whole (pos 1)))
    (holds_at reverses n reverses_table few)
