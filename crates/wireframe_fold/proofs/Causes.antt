-- Each cause of a refusal excludes the others, and a shape.
use Rattle.std.specs.Prelude.{Result, Ok, Err, MatchResult, Contains, slice_get}
use Rattle.std.proofs.Common.{◌≡◌, ◌≢◌, ◌↔◌, ℕ, suc, ◌+◌, ◌-◌, ◌<◌, ◌≤◌, List, [], ◌∷◌, ◌++◌, Some, length, take, get_or, refl, sym, ap, ap₂, subst, ◌∙◌, arith}
use Rattle.std.specs.List.{All}
use Rattle.std.specs.Ordering.{ordering_reverse}
use Rattle.std.specs.declared.cmp.Ordering.TheVariants.{Less, Equal, Greater}
use Rattle.std.proofs.lemmas.Cmp.{tied_itself}
use Rattle.std.proofs.lemmas.List.{get_or-take, length-take-le}
use Rattle.std.proofs.lemmas.List.Elements.{All-contains, All-head, All-tail}
use Rattle.std.proofs.lemmas.Option.{get_or_from_slice_get, slice_get_within}
use Rattle.surd_number.specs.SurdLaws.{surd_is}
use Rattle.line_split.specs.MemberLaws.{Member, member, contained, all_member}
use Rattle.line_split.specs.SortedLaws.{one_sorted}
use Rattle.plane_geometry.specs.declared.Line.{Line}
use Rattle.plane_geometry.specs.declared.Point.{Point}
use Rattle.plane_geometry.specs.Order.{compare_lines}
use Rattle.plane_geometry.specs.OrderLaws.{compare_lines_total}
use Rattle.plane_geometry.specs.Polygon.{sides_of}
use Rattle.plane_geometry.specs.Position.{position_of}
use Rattle.isometry_map.specs.declared.folded.FoldedFace.{FoldedFace}
use Rattle.isometry_map.specs.Folded.{FoldedView, IsImage, AreImages}
use Rattle.isometry_map.specs.Linear.{is_reflection}
use Rattle.isometry_map.specs.MatrixLaws.{parts_differ}
use Rattle.isometry_map.specs.Motion.{Motion, image_by, IsSameMap, identity_motion}
use Rattle.isometry_map.specs.MotionLaws.{matrix_same}
use Rattle.face_builder.specs.declared.shared.SharedPiece.{SharedPiece}
use Rattle.face_builder.specs.MapRules.{IsShared, AreFaces}
use Rattle.face_builder.specs.View.{FaceMapView}
use Rattle.wireframe_fold.specs.declared.faults.WireFault.{WireFault}
use Rattle.wireframe_fold.specs.declared.faults.WireFault.TheVariants.{DoesNotClose, FoldRange, TooManyLines, Memory}
use Rattle.wireframe_fold.specs.Folding.{motion_at, mirror_in, IsClosedAt, IsFolding}
use Rattle.wireframe_fold.specs.Lines.{IsThrough, folded_sides, HasDifferent, HasLines}
use Rattle.wireframe_fold.specs.Shape.{HasPointOut, IsFoldedFace, AreFoldedFaces}
use Rattle.wireframe_fold.specs.Fold.{IsShape, HasNoFolding, IsOpenAt, IsOutAt, IsWireFault, HasMemory}
use Rattle.wireframe_fold.specs.Laws.{MoveAlike}
use Rattle.wireframe_fold.proofs.ConvexFaces.{IsFew}
use Rattle.wireframe_fold.proofs.FaceLists.{folded_at}
use Rattle.wireframe_fold.proofs.Maps.{same_vector-trans, same_vector-sym}
use Rattle.wireframe_fold.proofs.OneFolding.{walks_alike, folding_is_one, folding_is_along_walk}

same_map-sym : (t u : Motion) → IsSameMap t u → IsSameMap u t
same_map-sym t u same x = same_vector-sym (image_by t x) (image_by u x) (same x)

pub open_not_memory : (c : ℕ) → DoesNotClose c ≢ Memory
open_not_memory c e = cc

pub range_not_memory : (f : ℕ) → FoldRange f ≢ Memory
range_not_memory f e = cc

pub lines_not_memory : (n : ℕ) → TooManyLines n ≢ Memory
lines_not_memory n e = cc

-- where neither number is less than the other, they are one
neither_less : (i j : ℕ) → (i < j → ⊥) → (j < i → ⊥) → i ≡ j
neither_less i j h k = omega (arith, h, k)

-- ---- a piece that is closed by one family is closed by one that is the same

closed_alike : (ts us : List Motion) (s : SharedPiece) → IsSameMap (motion_at ts s.a) (motion_at us s.a)
    → IsSameMap (motion_at ts s.b) (motion_at us s.b) → IsClosedAt us s → IsClosedAt ts s
closed_alike ts us s at_a at_b h =
    let r = mirror_in s.segment in
    let t = motion_at ts s.a in
    let u = motion_at us s.a in
    let t' = motion_at ts s.b in
    let u' = motion_at us s.b in
    record {
      composed = λ x.
          let y = image_by r x in
          same_vector-trans (image_by t' x) (image_by u' x) (image_by t y) (at_b x)
          (same_vector-trans (image_by u' x) (image_by u y) (image_by t y) (h.composed x)
          (same_vector-sym (image_by t y) (image_by u y) (at_a y)));
    }

-- ---- images by one map are the same points

pub one_image : (t u : Motion) (p q r : Point) → IsSameMap t u → IsImage t p q → IsImage u p r → q ≡ r
one_image t u p q r same h k =
    let x = image_by t (position_of p) in
    let y = image_by u (position_of p) in
    let e = same_vector-trans (position_of q) x (position_of r) h
    (same_vector-trans x y (position_of r) (same (position_of p)) (same_vector-sym (position_of r) y k)) in
    let at_x : q.x ≡ r.x = surd_is q.x r.x e.0 in
    let at_y : q.y ≡ r.y = surd_is q.y r.y e.1 in
    λ i. record { x = at_x i; y = at_y i }

one_polygon : (t u : Motion) (ps qs rs : List Point) → IsSameMap t u → AreImages t ps qs → AreImages u ps rs
    → qs ≡ rs
one_polygon t u [] [] [] same h k = refl
one_polygon t u [] [] (r ∷ rs) same h k = absurd k
one_polygon t u [] (q ∷ qs) rs same h k = absurd h
one_polygon t u (p ∷ ps) [] rs same h k = absurd h
one_polygon t u (p ∷ ps) (q ∷ qs) [] same h k = absurd k
one_polygon t u (p ∷ ps) (q ∷ qs) (r ∷ rs) same h k =
    ap₂ ◌∷◌ (one_image t u p q r same h.0 k.0) (one_polygon t u ps qs rs same h.1 k.1)

abbrev AreAlike : List Motion → List Motion → ℕ → Type 0
AreAlike ts us count =
    (k : ℕ) → k < count → IsSameMap (get_or ts k identity_motion) (get_or us k identity_motion)

one_face : (t u : Motion) (c : List Point) (f g : FoldedFace) → IsFew t → IsFew u → IsSameMap t u
    → IsFoldedFace t c f → IsFoldedFace u c g → f ≡ g
one_face t u c f g few few' same h k =
    let corners = one_polygon t u c f.corners g.corners same h.images k.images in
    let linear : t.linear ≡ u.linear = parts_differ t.linear u.linear few few' (matrix_same t u same) in
    let turned : f.turned ≡ g.turned = h.turned ∙ ap is_reflection linear ∙ sym k.turned in
    λ i. record { corners = corners i; turned = turned i }

pub one_faces : (cs : List (List Point)) (ts us : List Motion) (fs gs : List FoldedFace)
    → AreFoldedFaces ts cs fs → AreFoldedFaces us cs gs → All IsFew ts → All IsFew us
    → AreAlike ts us (length cs) → fs ≡ gs
one_faces [] [] [] [] [] h k few few' alike = refl
one_faces [] [] [] [] (g ∷ gs) h k few few' alike = absurd k
one_faces [] [] [] (f ∷ fs) gs h k few few' alike = absurd h
one_faces [] [] (u ∷ us) [] [] h k few few' alike = absurd k
one_faces [] [] (u ∷ us) [] (g ∷ gs) h k few few' alike = absurd k
one_faces [] [] (u ∷ us) (f ∷ fs) gs h k few few' alike = absurd h
one_faces [] (t ∷ ts) us [] gs h k few few' alike = absurd h
one_faces [] (t ∷ ts) us (f ∷ fs) gs h k few few' alike = absurd h
one_faces (c ∷ cs) [] us [] gs h k few few' alike = absurd h
one_faces (c ∷ cs) [] us (f ∷ fs) gs h k few few' alike = absurd h
one_faces (c ∷ cs) (t ∷ ts) us [] gs h k few few' alike = absurd h
one_faces (c ∷ cs) (t ∷ ts) [] (f ∷ fs) [] h k few few' alike = absurd k
one_faces (c ∷ cs) (t ∷ ts) [] (f ∷ fs) (g ∷ gs) h k few few' alike = absurd k
one_faces (c ∷ cs) (t ∷ ts) (u ∷ us) (f ∷ fs) [] h k few few' alike = absurd k
one_faces (c ∷ cs) (t ∷ ts) (u ∷ us) (f ∷ fs) (g ∷ gs) h k few few' alike =
    ap₂ ◌∷◌
    (one_face t u c f g (All-head IsFew t ts few) (All-head IsFew u us few') (alike 0 (omega arith)) h.0 k.0)
    (one_faces cs ts us fs gs h.1 k.1 (All-tail IsFew t ts few) (All-tail IsFew u us few')
    (λ j less. alike (suc j) (omega arith)))

-- ---- so many different lines are one number

not_itself : (l : Line) → compare_lines l l ≡ Less → ⊥
not_itself l e = let h : Equal ≡ Less = sym (tied_itself compare_lines_total l) ∙ e in cc

not_both : (l m : Line) → compare_lines l m ≡ Less → compare_lines m l ≡ Less → ⊥
not_both l m e f =
    let h : Less ≡ Greater = sym e ∙ compare_lines_total.antisymm l m ∙ ap ordering_reverse f in cc

pub one_count : (P : Line → Type 0) (m n : ℕ) → HasDifferent P m → HasDifferent P n → m ≡ n
one_count P m n h k =
    let same : h.different ≡ k.different =
    one_sorted compare_lines not_itself not_both h.different k.different h.ascending k.ascending
    (λ l at. member k.different l ((k.same l).1 ((h.same l).0 (contained h.different l at))))
    (λ l at. member h.different l ((h.same l).1 ((k.same l).0 (contained k.different l at)))) in
    sym h.count ∙ ap length same ∙ k.count

-- ---- causes

module _ (m : FaceMapView) (rules : AreFaces m) where
  pub at_places : (ts us : List Motion) → MoveAlike m ts us → AreAlike ts us (length m.faces)
  at_places ts us alike k few =
      let place : k + 1 - 1 ≡ k = omega arith in
      let P : ℕ → Type 0 = λ j. IsSameMap (get_or ts j identity_motion) (get_or us j identity_motion) in
      subst P place (alike (k + 1) (omega arith) (omega (arith, few)))

  -- a shared piece is closed by one of two families that are alike where it is by the other
  closed_by_other : (ts us : List Motion) → MoveAlike m ts us → (s : SharedPiece) → Member m.shared s
      → IsClosedAt us s → IsClosedAt ts s
  closed_by_other ts us alike s at closed =
      let x = all_member (IsShared m.faces) m.shared s rules.shared at in
      closed_alike ts us s (alike s.a x.first (omega (arith, x.order, x.last)))
      (alike s.b (omega (arith, x.first, x.order)) x.last) closed

  stands_there : (k : ℕ) (s : SharedPiece) → slice_get m.shared k ≡ Some s → Member m.shared s
  stands_there k s at =
      member m.shared s (k, slice_get_within m.shared k s at, get_or_from_slice_get m.shared k s s at)

  pub open_no_folding : (c : ℕ) → IsOpenAt m c → HasNoFolding m
  open_no_folding c h us folding =
      let ts = h.0 in
      let k = h.2.0 in
      let s = h.2.1 in
      let at = stands_there k s h.2.2 in
      h.2.3 (closed_by_other ts us (folding_is_along_walk m ts us rules h.1 folding) s at
      (All-contains (IsClosedAt us) m.shared s folding.closed (contained m.shared s at)))

  not_before : (ts us : List Motion) → MoveAlike m ts us → (k j : ℕ) (s : SharedPiece)
      → slice_get m.shared k ≡ Some s → (¬ IsClosedAt ts s) → All (IsClosedAt us) (take j m.shared) → k < j
      → j ≤ length m.shared → ⊥
  not_before ts us alike k j s at opened closed less few =
      let size : length (take j m.shared) ≡ j = length-take-le j m.shared few in
      let there : Contains (take j m.shared) s = (
        k,
        omega (arith, size, less),
        get_or-take j m.shared k s less ∙ get_or_from_slice_get m.shared k s s at,
      ) in
      opened (closed_by_other ts us alike s (stands_there k s at)
      (All-contains (IsClosedAt us) (take j m.shared) s closed there))

  one_open : (c d : ℕ) → IsOpenAt m c → IsOpenAt m d → c ≡ d
  one_open c d h g =
      let ts = h.0 in
      let us = g.0 in
      let k = h.2.0 in
      let j = g.2.0 in
      let s = h.2.1 in
      let r = g.2.1 in
      let first = slice_get_within m.shared k s h.2.2 in
      let second = slice_get_within m.shared j r g.2.2 in
      let place : k ≡ j = neither_less k j
      (λ less. not_before ts us (walks_alike m rules ts us h.1 g.1) k j s h.2.2 h.2.3 g.2.5 less
      (omega (arith, second)))
      (λ less. not_before us ts (walks_alike m rules us ts g.1 h.1) j k r g.2.2 g.2.3 h.2.5 less
      (omega (arith, first))) in
      let same : s ≡ r = sym (get_or_from_slice_get m.shared k s s h.2.2)
      ∙ ap (λ n. get_or m.shared n s) place ∙ get_or_from_slice_get m.shared j r s g.2.2 in
      sym h.2.4 ∙ ap (λ (x : SharedPiece). x.piece) same ∙ g.2.4

  out_alike : (t u : Motion) (ps : List Point) → IsSameMap t u → HasPointOut t ps → HasPointOut u ps
  out_alike t u ps same h = (
    h.0,
    h.1,
    λ q at. h.2 q (same_vector-trans (position_of q) (image_by u (position_of h.0)) (image_by t (position_of h.0))
        at (same_map-sym t u same (position_of h.0))),
  )

  one_out : (f g : ℕ) → IsOutAt m f → IsOutAt m g → f ≡ g
  one_out f g h k =
      let ts = h.0 in
      let us = k.0 in
      let i = h.2.before in
      let j = k.2.before in
      let place : i ≡ j = neither_less i j
      (λ less. k.2.least i less (out_alike (motion_at ts (i + 1)) (motion_at us (i + 1)) (get_or m.faces i [])
      (folding_is_one m ts us rules h.1 k.1 (i + 1) (omega arith) (omega (arith, h.2.there))) h.2.out))
      (λ less. h.2.least j less (out_alike (motion_at us (j + 1)) (motion_at ts (j + 1)) (get_or m.faces j [])
      (folding_is_one m us ts rules k.1 h.1 (j + 1) (omega arith) (omega (arith, k.2.there))) k.2.out)) in
      h.2.number ∙ ap (λ n. n + 1) place ∙ sym k.2.number

  out_unfolded : (f : ℕ) (us : List Motion) (fs : List FoldedFace) → IsOutAt m f → IsFolding m us
      → AreFoldedFaces us m.faces fs → ⊥
  out_unfolded f us fs h folding folded =
      let ts = h.0 in
      let i = h.2.before in
      let place : i + 1 - 1 ≡ i = omega arith in
      let P : ℕ → Type 0 = λ n. HasPointOut (get_or us n identity_motion) (get_or m.faces i []) in
      folded_at us m.faces fs folded i h.2.there identity_motion
      (subst P place (out_alike (motion_at ts (i + 1)) (motion_at us (i + 1)) (get_or m.faces i [])
      (folding_is_one m ts us rules h.1 folding (i + 1) (omega arith) (omega (arith, h.2.there))) h.2.out))

  lines_alike : (ts us : List Motion) (fs gs : List FoldedFace) (i j : ℕ) → IsFolding m ts → IsFolding m us
      → AreFoldedFaces ts m.faces fs → AreFoldedFaces us m.faces gs → HasLines fs i → HasLines gs j → i ≡ j
  lines_alike ts us fs gs i j first second h k few many =
      let same : folded_sides fs ≡ folded_sides gs =
      ap folded_sides
      (one_faces m.faces ts us fs gs h k first.linear second.linear
      (at_places ts us (folding_is_one m ts us rules first second))) in
      one_count (IsThrough (folded_sides gs)) i j
      (subst (λ sides. HasDifferent (IsThrough sides) i) same few) many

  one_fault : (f g : WireFault) → f ≢ Memory → g ≢ Memory → IsWireFault m f → IsWireFault m g → f ≡ g
  one_fault Memory g some some' h k = absurd (some refl)
  one_fault (DoesNotClose c) Memory some some' h k = absurd (some' refl)
  one_fault (FoldRange f) Memory some some' h k = absurd (some' refl)
  one_fault (TooManyLines n) Memory some some' h k = absurd (some' refl)
  one_fault (DoesNotClose c) (DoesNotClose d) some some' h k = ap DoesNotClose (one_open c d h k)
  one_fault (DoesNotClose c) (FoldRange f) some some' h k = absurd (open_no_folding c h k.0 k.1)
  one_fault (DoesNotClose c) (TooManyLines n) some some' h k = absurd (open_no_folding c h k.0 k.1)
  one_fault (FoldRange f) (DoesNotClose c) some some' h k = absurd (open_no_folding c k h.0 h.1)
  one_fault (FoldRange f) (FoldRange g) some some' h k = ap FoldRange (one_out f g h k)
  one_fault (FoldRange f) (TooManyLines n) some some' h k = absurd (out_unfolded f k.0 k.2.faces h k.1 k.2.folded)
  one_fault (TooManyLines n) (DoesNotClose c) some some' h k = absurd (open_no_folding c k h.0 h.1)
  one_fault (TooManyLines n) (FoldRange f) some some' h k = absurd (out_unfolded f h.0 h.2.faces k h.1 h.2.folded)
  one_fault (TooManyLines i) (TooManyLines j) some some' h k =
      ap TooManyLines (lines_alike h.0 k.0 h.2.faces k.2.faces i j h.1 k.1 h.2.folded k.2.folded h.2.count k.2.count)

  pub no_fault : (f : FoldedView) (g : WireFault) → IsShape m f → IsWireFault m g → g ≢ Memory → ⊥
  no_fault f (DoesNotClose c) h k some = open_no_folding c k h.0 h.1
  no_fault f (FoldRange face) h k some = out_unfolded face h.0 f.faces k h.1 h.2.faces
  no_fault f (TooManyLines n) h k some =
      let same : h.2.lines ≡ n =
      lines_alike h.0 k.0 f.faces k.2.faces h.2.lines n h.1 k.1 h.2.faces k.2.folded h.2.count k.2.count in
      omega (arith, same, h.2.few, k.2.many)
  no_fault f Memory h k some = some refl

  -- ---- of a result

  err_is : {X Y : Type 0} (x y : Y) (r : Result X Y) → r ≡ Err x → r ≡ Err y → x ≡ y
  err_is x y r e f = cc

  ok_err : {X Y : Type 0} (x : X) (y : Y) (r : Result X Y) → r ≡ Ok x → r ≡ Err y → ⊥
  ok_err x y r e f = cc

  pub refused_exactly : (r : Result FoldedView WireFault) → MatchResult r (IsShape m) (IsWireFault m)
      → (g : WireFault) → g ≢ Memory → (r ≡ Err g) ↔ (HasMemory r × IsWireFault m g)
  refused_exactly (Ok f) h g some = ((λ e. absurd (ok_err f g (Ok f) refl e)), λ k. absurd (no_fault f g h k.1 some))
  refused_exactly (Err f) h g some = (
    (λ e.
        let same : f ≡ g = err_is f g (Err f) refl e in
        ((λ none. some (sym same ∙ err_is f Memory (Err f) refl none)), subst (IsWireFault m) same h)),
    λ k. ap Err (one_fault f g (λ none. k.0 (ap Err none)) some h k.1),
  )

  pub unfolded_exactly : (r : Result FoldedView WireFault) → MatchResult r (IsShape m) (IsWireFault m)
      → ((c : ℕ) × (r ≡ Err (DoesNotClose c))) ↔ (HasMemory r × HasNoFolding m)
  unfolded_exactly r h = (to, from r h)
    where
      to : ((c : ℕ) × (r ≡ Err (DoesNotClose c))) → HasMemory r × HasNoFolding m
      to e =
          let k = (refused_exactly r h (DoesNotClose e.0) (open_not_memory e.0)).0 e.1 in
          (k.0, open_no_folding e.0 k.1)

      from : (q : Result FoldedView WireFault) → MatchResult q (IsShape m) (IsWireFault m)
          → (HasMemory q × HasNoFolding m) → (c : ℕ) × (q ≡ Err (DoesNotClose c))
      from (Ok f) k none = absurd (none.1 k.0 k.1)
      from (Err (DoesNotClose c)) k none = (c, refl)
      from (Err (FoldRange f)) k none = absurd (none.1 k.0 k.1)
      from (Err (TooManyLines n)) k none = absurd (none.1 k.0 k.1)
      from (Err Memory) k none = absurd (none.0 refl)
