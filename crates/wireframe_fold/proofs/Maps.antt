-- Compositions with the reflection in a crease, and families of isometries.
use Rattle.std.proofs.Common.{◌≡◌, ◌↔◌, ◌∙◌, ℕ, zero, suc, ◌+◌, ◌-◌, ◌%◌, ◌<◌, ◌≤◌, Bool, ◌&&◌, nat_eq, int_eq, Decides, List, ◌∷◌, length, replicate, drop, get_or, map, refl, sym, ap, subst, arith, add-one}
use Rattle.std.specs.Bool.{IsTrue}
use Rattle.std.proofs.Math.ListN.{set}
use Rattle.std.proofs.Math.Seq.{drop-cons}
use Rattle.std.proofs.lemmas.Bool.Decides.{Decides-and, Decides-eqb}
use Rattle.std.proofs.lemmas.List.{map-set, length-replicate}
use Rattle.std.proofs.lemmas.List.Elements.{All-set, All-weaker, All-replicate}
use Rattle.surd_number.specs.SurdLaws.{wide_is, wide_eq_says}
use Rattle.isometry_map.specs.declared.isometries.Isometry.{Isometry}
use Rattle.isometry_map.specs.LinearView.{linear_number}
use Rattle.isometry_map.specs.IsometryView.{motion_of}
use Rattle.isometry_map.specs.MatrixLaws.{parts_differ}
use Rattle.isometry_map.specs.MotionLaws.{shift_more, shift_same, matrix_same, linear_is, isometries_are_their_maps}
use Rattle.face_builder.specs.declared.shared.SharedPiece.{SharedPiece}
use Rattle.face_builder.specs.declared.walk.Step.{Step}
use Rattle.face_builder.specs.View.{FaceMapView}
use Rattle.surd_number.specs.Number.{Number, IsSame, sum_of, product_of}
use Rattle.surd_number.specs.NumberLaws.{IsSame-refl, IsSame-sym, IsSame-trans, sum_of-same, product_of-same}
use Rattle.surd_number.specs.Value.{wide_number_of}
use Rattle.plane_geometry.specs.declared.Point.{Point}
use Rattle.plane_geometry.specs.declared.Segment.{Segment}
use Rattle.plane_geometry.specs.declared.Line.{Line}
use Rattle.plane_geometry.specs.Position.{Position, position_of, vector_of, cross_of}
use Rattle.plane_geometry.specs.Direction.{direction_vector}
use Rattle.plane_geometry.specs.Multiple.{IsSameVector}
use Rattle.plane_geometry.specs.SegmentView.{lesser_end, direction_number}
use Rattle.plane_geometry.specs.LineView.{line_number, line_offset, IsOnLine}
use Rattle.plane_geometry.specs.LineStored.{IsOffsetAt}
use Rattle.plane_geometry.specs.MeetLaws.{on_line_from_offset}
use Rattle.isometry_map.specs.Linear.{reflection}
use Rattle.isometry_map.specs.Matrix.{matrix_of, image_of}
use Rattle.isometry_map.specs.Motion.{Motion, image_by, IsSameMap, IsComposition, IsShiftWithin, identity_motion, reflection_at}
use Rattle.wireframe_fold.specs.Folding.{motions_of, motion_at, mirror_in, AreWithin, IsClosedAt, IsStepTo}
use Rattle.wireframe_fold.proofs.Walked.{AreWalked, AreWalkedFromStart}

-- ---- maps

pub same_vector-trans : (u v w : Position) → IsSameVector u v → IsSameVector v w → IsSameVector u w
same_vector-trans u v w e f = (IsSame-trans u.x v.x w.x e.0 f.0, IsSame-trans u.y v.y w.y e.1 f.1)

pub same_vector-sym : (u v : Position) → IsSameVector u v → IsSameVector v u
same_vector-sym u v e = (IsSame-sym u.x v.x e.0, IsSame-sym u.y v.y e.1)

row_same : (a b s x y x' y' : Number) → IsSame x x' → IsSame y y'
    → IsSame (sum_of (sum_of (product_of a x) (product_of b y)) s)
    (sum_of (sum_of (product_of a x') (product_of b y')) s)
row_same a b s x y x' y' e f =
    sum_of-same (sum_of (product_of a x) (product_of b y)) s (sum_of (product_of a x') (product_of b y')) s
    (sum_of-same (product_of a x) (product_of b y) (product_of a x') (product_of b y')
    (product_of-same a x a x' (IsSame-refl a) e) (product_of-same b y b y' (IsSame-refl b) f)) (IsSame-refl s)

-- points in one place have their images in one place
pub image_same : (t : Motion) (u v : Position) → IsSameVector u v → IsSameVector (image_by t u) (image_by t v)
image_same t u v e =
    let m = matrix_of t.linear in (
      row_same m.xx m.xy t.shift.x u.x u.y v.x v.y e.0 e.1,
      row_same m.yx m.yy t.shift.y u.x u.y v.x v.y e.0 e.1,
    )

-- the first map may be replaced by one that is the same
pub composed_with : (r s t u : Motion) → IsComposition r s t → IsSameMap t u → IsComposition r s u
composed_with r s t u h same =
    λ p. same_vector-trans (image_by r p) (image_by s (image_by t p)) (image_by s (image_by u p)) (h p)
    (image_same s (image_by t p) (image_by u p) (same p))

-- what is a composition too is the same map
pub compositions_same : (q r s t : Motion) → IsComposition q s t → IsComposition r s t → IsSameMap q r
compositions_same q r s t h k =
    λ p. same_vector-trans (image_by q p) (image_by s (image_by t p)) (image_by r p) (h p)
    (same_vector-sym (image_by r p) (image_by s (image_by t p)) (k p))

pub same_composition : (q r s t : Motion) → IsSameMap q r → IsComposition r s t → IsComposition q s t
same_composition q r s t same h =
    λ p. same_vector-trans (image_by q p) (image_by r p) (image_by s (image_by t p)) (same p) (h p)

-- ---- the reflection in a crease

mirror_at : ℕ → Position → Motion
mirror_at k q = record { linear = k; shift = vector_of (image_of (matrix_of k) q) q }

one_reflection : (n k : ℕ) → k ≡ n % 8 → reflection k ≡ reflection n
one_reflection n k e = omega arith

pub mirror_is : (l : Line) (crease : Segment) (p : Point) (n : ℕ) (t : Motion)
    → p ≡ lesser_end crease → n ≡ direction_number crease → line_number l ≡ n % 8
    → IsOffsetAt (line_number l) (line_offset l) p
    → ((q : Position) → IsOnLine q l → IsSameMap t (reflection_at (line_number l) q))
    → IsSameMap t (mirror_in crease)
unfolding mirror_at
mirror_is l crease p n t at_p at_n number offset h =
    let q = position_of p in
    let on : IsOnLine q l = on_line_from_offset l q
    (IsSame-sym (wide_number_of (line_offset l)) (cross_of (direction_vector (line_number l)) q) offset) in
    let numbers : reflection (line_number l) ≡ reflection (direction_number crease) =
    one_reflection n (line_number l) number ∙ ap reflection at_n in
    let P : Motion → Type 0 = IsSameMap t in
    let Q : Point → Type 0 = λ a. IsSameMap t (reflection_at (direction_number crease) (position_of a)) in
    subst Q at_p (subst P (ap (λ k. mirror_at k q) numbers) (h q on))

-- ---- isometries as the code compares them

same_at : (s t : Isometry) → linear_number s.linear ≡ linear_number t.linear
    → IsSame (wide_number_of s.shift.x) (wide_number_of t.shift.x)
    → IsSame (wide_number_of s.shift.y) (wide_number_of t.shift.y) → IsSameMap (motion_of s) (motion_of t)
same_at s t number e f =
    let x : s.shift.x ≡ t.shift.x = wide_is s.shift.x t.shift.x e in
    let y : s.shift.y ≡ t.shift.y = wide_is s.shift.y t.shift.y f in
    let linear : s.linear ≡ t.linear = linear_is s.linear t.linear number in
    (isometries_are_their_maps s t).0 (λ i. record { linear = linear i; shift = record { x = x i; y = y i } })

pub same_says : (s t : Isometry)
    → Decides (nat_eq s.linear.number t.linear.number
    && ((int_eq s.shift.x.a t.shift.x.a && (int_eq s.shift.x.b t.shift.x.b && nat_eq s.shift.x.k t.shift.x.k))
    && (int_eq s.shift.y.a t.shift.y.a
    && (int_eq s.shift.y.b t.shift.y.b && nat_eq s.shift.y.k t.shift.y.k))))
    (IsSameMap (motion_of s) (motion_of t))
same_says s t =
    let d = Decides-and _ _ (Decides-eqb s.linear.number t.linear.number)
    (Decides-and _ _ (wide_eq_says s.shift.x t.shift.x) (wide_eq_says s.shift.y t.shift.y)) in (
      (λ e. let h = d.0 e in same_at s t h.0 h.1.0 h.1.1),
      λ same.
          let shift = shift_same (motion_of s) (motion_of t) same in
          let number = parts_differ s.linear.number t.linear.number (omega (arith, s.linear.in_range))
          (omega (arith, t.linear.in_range)) (matrix_same (motion_of s) (motion_of t) same) in
          d.1 (number, shift),
    )

-- ---- families of isometries

pub closed_says : (ts : List Motion) (s : SharedPiece) (u r a : Motion) (b : Bool) → u ≡ motion_at ts s.b
    → a ≡ motion_at ts s.a → IsComposition r a (mirror_in s.segment) → (IsTrue b ↔ IsSameMap u r)
    → (IsTrue b ↔ IsClosedAt ts s)
closed_says ts s u r a b at_u at_a h same = (to, from)
  where
    to : IsTrue b → IsClosedAt ts s
    to e =
        let P : Motion → Type 0 = λ v. IsComposition v (motion_at ts s.a) (mirror_in s.segment) in
        let Q : Motion → Type 0 = λ v. IsComposition u v (mirror_in s.segment) in
        record {
          composed = subst P at_u
              (subst Q at_a (same_composition u r a (mirror_in s.segment) (same.0 e) h));
        }

    from : IsClosedAt ts s → IsTrue b
    from k =
        let P : Motion → Type 0 = λ v. IsComposition v (motion_at ts s.a) (mirror_in s.segment) in
        let Q : Motion → Type 0 = λ v. IsComposition u v (mirror_in s.segment) in
        same.1 (compositions_same u r a (mirror_in s.segment)
        (subst Q (sym at_a) (subst P (sym at_u) k.composed)) h)

pub within_set : (most more : ℕ) (ms : List Isometry) (k : ℕ) (r : Isometry) → most ≤ more
    → IsShiftWithin more (motion_of r) → AreWithin most ms → AreWithin more (set ms k r)
within_set most more ms k r less here all =
    let P : Isometry → Type 0 = λ t. IsShiftWithin more (motion_of t) in
    All-set P ms k r here
    (All-weaker (λ t. IsShiftWithin most (motion_of t)) P
    (λ t h. shift_more most more (motion_of t) less h) ms all)

pub walked_on : (m : FaceMapView) (walk : List Step) (shared : List SharedPiece) (ms slice : List Isometry)
    (i : ℕ)
    (d : Step) (r : Isometry) → walk ≡ m.walk → shared ≡ m.shared → slice ≡ ms → i < length walk
    → IsStepTo shared (motions_of slice) (get_or walk i d) (motion_of r)
    → ((us : List Motion) → AreWalked m.shared (motions_of ms) (drop i m.walk) us → AreWalkedFromStart m us)
    → (us : List Motion)
    → AreWalked m.shared (motions_of (set ms ((get_or walk i d).face - 1) r)) (drop (i + 1) m.walk) us
    → AreWalkedFromStart m us
walked_on m walk shared ms slice i d r at_walk at_shared at_slice few step whole us rest =
    let P : List SharedPiece
    → Type 0 = λ ps. IsStepTo ps (motions_of slice) (get_or walk i d) (motion_of r) in
    let Q : List Isometry
    → Type 0 = λ ns. IsStepTo m.shared (motions_of ns) (get_or walk i d) (motion_of r) in
    let here : IsStepTo m.shared (motions_of ms) (get_or walk i d) (motion_of r) = subst Q at_slice
    (subst P at_shared step) in
    let R : List Motion → Type 0 = λ ts. AreWalked m.shared ts (drop (i + 1) m.walk) us in
    let next = subst R (map-set motion_of ms ((get_or walk i d).face - 1) r) rest in
    let S : List Step → Type 0 = λ ss. AreWalked m.shared (motions_of ms) ss us in
    let cut : drop i m.walk ≡ get_or walk i d ∷ drop (i + 1) m.walk =
    ap (drop i) (sym at_walk) ∙ drop-cons walk i d few
    ∙ ap (λ ss. get_or walk i d ∷ ss)
    (ap (λ n. drop n walk) (sym (add-one i)) ∙ ap (drop (i + 1)) at_walk) in
    whole us (subst S (sym cut) (motion_of r, here, next))

map-replicate : (n : ℕ) (t : Isometry) → map motion_of (replicate n t) ≡ replicate n (motion_of t)
map-replicate zero t = refl
map-replicate (suc n) t = ap (λ ts. motion_of t ∷ ts) (map-replicate n t)

pub walk_begins : (m : FaceMapView) (ms : List Isometry) (n : ℕ) (t : Isometry) → ms ≡ replicate n t
    → n ≡ length m.faces → motion_of t ≡ identity_motion → IsShiftWithin 0 (motion_of t)
    → (length ms ≡ length m.faces) × AreWithin 0 ms
    × ((us : List Motion) → AreWalked m.shared (motions_of ms) m.walk us → AreWalkedFromStart m us)
walk_begins m ms n t all count stays within =
    let P : Isometry → Type 0 = λ u. IsShiftWithin 0 (motion_of u) in
    let motions : motions_of ms ≡ replicate (length m.faces) identity_motion =
    ap motions_of all ∙ map-replicate n t ∙ ap (replicate n) stays
    ∙ ap (λ k. replicate k identity_motion) count in (
      ap length all ∙ length-replicate n t ∙ count,
      subst (λ (us : List Isometry). AreWithin 0 us) (sym all) (All-replicate P n t within),
      λ us h. subst (λ (ts : List Motion). AreWalked m.shared ts m.walk us) motions h,
    )
