-- There is one folding at most: along the walk, each face moves alike.
use Rattle.std.proofs.Common.{◌≡◌, ◌⊎◌, inl, inr, ℕ, zero, suc, ◌+◌, ◌%◌, ◌<◌, true, false, nat_eq, List, [], ◌∷◌, ◌++◌, Some, refl, sym, subst, ◌∙◌, arith}
use Rattle.std.specs.List.{AllByRecursion}
use Rattle.std.proofs.lemmas.Bool.{false≢true, or_cases, or_left, eqb-true}
use Rattle.std.proofs.lemmas.List.Elements.{All-contains}
use Rattle.surd_number.specs.Number.{Number, IsSame, sum_of, difference_of, product_of}
use Rattle.surd_number.specs.RingTool.{◌⊕◌, ◌⊝◌, ◌⊗◌, con, v0, v1, v2, v3, v4, v5, v6, v7}
use Rattle.surd_number.specs.NumberLaws.{number_ring_from_two, IsSame-sym}
use Rattle.line_split.specs.MemberLaws.{contained}
use Rattle.plane_geometry.specs.Position.{Position, position_of}
use Rattle.plane_geometry.specs.Direction.{one, nought}
use Rattle.plane_geometry.specs.Multiple.{IsSameVector}
use Rattle.plane_geometry.specs.SegmentView.{lesser_end, direction_number}
use Rattle.isometry_map.specs.Linear.{reflection, composed}
use Rattle.isometry_map.specs.Matrix.{matrix_of, matrix_product, IsSameMatrix}
use Rattle.isometry_map.specs.MatrixLaws.{composition_is_product}
use Rattle.isometry_map.specs.Motion.{Motion, image_by, IsSameMap, IsComposition, reflection_at}
use Rattle.face_builder.specs.declared.shared.SharedPiece.{SharedPiece}
use Rattle.face_builder.specs.declared.walk.Step.{Step}
use Rattle.face_builder.specs.MapRules.{AreAcross, IsWalk, AreFaces}
use Rattle.face_builder.specs.View.{FaceMapView}
use Rattle.face_builder.specs.Walk.{has_step_to, is_reached}
use Rattle.wireframe_fold.specs.Folding.{motion_at, mirror_in, IsAcross, IsClosedAt, IsStepTaken, IsFolding, AreAlongWalk}
use Rattle.wireframe_fold.specs.Laws.{MoveAlike, FoldingIsOne, FoldingIsAlongWalk}
use Rattle.wireframe_fold.proofs.Maps.{image_same, same_vector-trans, same_vector-sym}
use Rattle.wireframe_fold.proofs.Steps.{crossing, reached_later, just_reached, reached_cases}

some_is : {X : Type 0} (x y : X) → Some x ≡ Some y → x ≡ y
some_is x y e = cc

-- ---- a reflection done twice

back_first : (a b c d px py qx qy : Number) → IsSame (sum_of (product_of a a) (product_of b c)) one
    → IsSame (sum_of (product_of a b) (product_of b d)) nought
    → IsSame (sum_of (sum_of (product_of a (sum_of (sum_of (product_of a px) (product_of b py))
    (difference_of qx (sum_of (product_of a qx) (product_of b qy)))))
    (product_of b (sum_of (sum_of (product_of c px) (product_of d py))
    (difference_of qy (sum_of (product_of c qx) (product_of d qy))))))
    (difference_of qx (sum_of (product_of a qx) (product_of b qy)))) px
back_first a b c d px py qx qy e f =
    number_ring_from_two (a ∷ b ∷ c ∷ d ∷ px ∷ py ∷ qx ∷ qy ∷ []) (v0 ⊗ v0 ⊕ v1 ⊗ v2) (con one) (v4 ⊝ v6)
    (v0 ⊗ v1 ⊕ v1 ⊗ v3) (con nought) (v5 ⊝ v7)
    (v0 ⊗ (v0 ⊗ v4 ⊕ v1 ⊗ v5 ⊕ (v6 ⊝ (v0 ⊗ v6 ⊕ v1 ⊗ v7)))
    ⊕ v1 ⊗ (v2 ⊗ v4 ⊕ v3 ⊗ v5 ⊕ (v7 ⊝ (v2 ⊗ v6 ⊕ v3 ⊗ v7)))
    ⊕ (v6 ⊝ (v0 ⊗ v6 ⊕ v1 ⊗ v7))) v4 refl e f

back_second : (a b c d px py qx qy : Number) → IsSame (sum_of (product_of c a) (product_of d c)) nought
    → IsSame (sum_of (product_of c b) (product_of d d)) one
    → IsSame (sum_of (sum_of (product_of c (sum_of (sum_of (product_of a px) (product_of b py))
    (difference_of qx (sum_of (product_of a qx) (product_of b qy)))))
    (product_of d (sum_of (sum_of (product_of c px) (product_of d py))
    (difference_of qy (sum_of (product_of c qx) (product_of d qy))))))
    (difference_of qy (sum_of (product_of c qx) (product_of d qy)))) py
back_second a b c d px py qx qy e f =
    number_ring_from_two (a ∷ b ∷ c ∷ d ∷ px ∷ py ∷ qx ∷ qy ∷ []) (v2 ⊗ v0 ⊕ v3 ⊗ v2) (con nought) (v4 ⊝ v6)
    (v2 ⊗ v1 ⊕ v3 ⊗ v3) (con one) (v5 ⊝ v7)
    (v2 ⊗ (v0 ⊗ v4 ⊕ v1 ⊗ v5 ⊕ (v6 ⊝ (v0 ⊗ v6 ⊕ v1 ⊗ v7)))
    ⊕ v3 ⊗ (v2 ⊗ v4 ⊕ v3 ⊗ v5 ⊕ (v7 ⊝ (v2 ⊗ v6 ⊕ v3 ⊗ v7)))
    ⊕ (v7 ⊝ (v2 ⊗ v6 ⊕ v3 ⊗ v7))) v5 refl e f

twice_none : (n : ℕ) → composed (reflection n) (reflection n) ≡ 0
twice_none n = go (n % 8) (omega arith)
  where
    go : (k : ℕ) → k < 8 → composed (8 + k) (8 + k) ≡ 0
    go zero few = refl
    go (suc zero) few = refl
    go (suc (suc zero)) few = refl
    go (suc (suc (suc zero))) few = refl
    go (suc (suc (suc (suc zero)))) few = refl
    go (suc (suc (suc (suc (suc zero))))) few = refl
    go (suc (suc (suc (suc (suc (suc zero)))))) few = refl
    go (suc (suc (suc (suc (suc (suc (suc zero))))))) few = refl
    go (suc (suc (suc (suc (suc (suc (suc (suc k)))))))) few = absurd (omega arith)

twice_stays : (n : ℕ) (q p : Position)
    → IsSameVector (image_by (reflection_at n q) (image_by (reflection_at n q) p)) p
twice_stays n q p =
    let k = reflection n in
    let m = matrix_of k in
    let P : ℕ → Type 0 = λ j. IsSameMatrix (matrix_of j) (matrix_product m m) in
    let h : IsSameMatrix (matrix_of 0) (matrix_product m m) = subst P (twice_none n)
    (composition_is_product k k (omega arith) (omega arith)) in
    let mm = matrix_product m m in (
      back_first m.xx m.xy m.yx m.yy p.x p.y q.x q.y (IsSame-sym one mm.xx h.xx)
          (IsSame-sym nought mm.xy h.xy),
      back_second m.xx m.xy m.yx m.yy p.x p.y q.x q.y (IsSame-sym nought mm.yx h.yx)
          (IsSame-sym one mm.yy h.yy),
    )

-- ---- across a piece, both ways

module _ (t u : Motion) (n : ℕ) (q : Position) where
  pub turned_back : IsComposition u t (reflection_at n q) → IsComposition t u (reflection_at n q)
  turned_back h =
      let r = reflection_at n q in
      λ x. same_vector-sym (image_by u (image_by r x)) (image_by t x)
      (same_vector-trans (image_by u (image_by r x)) (image_by t (image_by r (image_by r x))) (image_by t x)
      (h (image_by r x)) (image_same t (image_by r (image_by r x)) x (twice_stays n q x)))

same_across : (t t' u u' r : Motion) → IsSameMap t u → IsComposition t' t r → IsComposition u' u r
    → IsSameMap t' u'
same_across t t' u u' r same h k =
    λ x. same_vector-trans (image_by t' x) (image_by t (image_by r x)) (image_by u' x) (h x)
    (same_vector-trans (image_by t (image_by r x)) (image_by u (image_by r x)) (image_by u' x)
    (same (image_by r x))
    (same_vector-sym (image_by u' x) (image_by u (image_by r x)) (k x)))

-- the piece leads from either face to the other
crossed : (us : List Motion) (p : SharedPiece) (f g : ℕ) → IsClosedAt us p → AreAcross p f g
    → IsAcross us f p.segment (motion_at us g)
crossed us p f g h (inl pair) =
    let r = mirror_in p.segment in
    let P : ℕ → Type 0 = λ n. IsComposition (motion_at us p.b) (motion_at us n) r in
    let Q : ℕ → Type 0 = λ n. IsComposition (motion_at us n) (motion_at us f) r in
    record { composed = subst Q pair.1 (subst P pair.0 h.composed) }
crossed us p f g h (inr pair) =
    let r = mirror_in p.segment in
    let P : ℕ → Type 0 = λ n. IsComposition (motion_at us p.a) (motion_at us n) r in
    let Q : ℕ → Type 0 = λ n. IsComposition (motion_at us n) (motion_at us f) r in
    let back : IsComposition (motion_at us p.a) (motion_at us p.b) r =
    turned_back (motion_at us p.a) (motion_at us p.b) (direction_number p.segment)
    (position_of (lesser_end p.segment)) h.composed in
    record { composed = subst Q pair.0 (subst P pair.1 back) }

-- ---- along the walk

module _ (m : FaceMapView) (rules : AreFaces m) where
  pub folding_along : (us : List Motion) → IsFolding m us → AreAlongWalk m us
  folding_along us folding =
      record { count = folding.count; fixed = folding.fixed; taken = all_taken [] m.walk rules.walk }
    where
      all_taken : (before steps : List Step) → IsWalk m.shared before steps
          → AllByRecursion (IsStepTaken m.shared us) steps
      all_taken before [] w = tt
      all_taken before (s ∷ steps) w =
          let c = crossing m rules before s w.0 in
          let closed = All-contains (IsClosedAt us) m.shared c.piece folding.closed
          (contained m.shared c.piece c.held) in (
            record {
              piece = c.piece;
              there = c.there;
              across = crossed us c.piece s.from s.face closed c.between;
            },
            all_taken (before ++ s ∷ []) steps w.1,
          )

  module _ (ts us : List Motion) (first : AreAlongWalk m ts) (second : AreAlongWalk m us) where
    abbrev Alike : ℕ → Type 0
    Alike f = IsSameMap (motion_at ts f) (motion_at us f)

    onward : (before : List Step) (s : Step) (steps : List Step) (f : ℕ)
        → (is_reached before f ≡ true) ⊎ (has_step_to (s ∷ steps) f ≡ true)
        → (is_reached (before ++ s ∷ []) f ≡ true) ⊎ (has_step_to steps f ≡ true)
    onward before s steps f (inl e) = inl (reached_later before s f e)
    onward before s steps f (inr e) =
        elim (or_cases (nat_eq s.face f) (has_step_to steps f) e) [
          | inl same ↦
              inl (subst (λ g. is_reached (before ++ s ∷ []) g ≡ true) (eqb-true s.face f same)
              (just_reached before s))
          | inr later ↦ inr later
        ]

    alike_on : (before steps : List Step) → IsWalk m.shared before steps
        → AllByRecursion (IsStepTaken m.shared ts) steps → AllByRecursion (IsStepTaken m.shared us) steps
        → ((f : ℕ) → is_reached before f ≡ true → Alike f) → (f : ℕ)
        → (is_reached before f ≡ true) ⊎ (has_step_to steps f ≡ true) → Alike f
    alike_on before [] w h k start f (inl e) = start f e
    alike_on before [] w h k start f (inr e) = absurd (false≢true e)
    alike_on before (s ∷ steps) w h k start f e =
        let p = h.0.piece in
        let q = k.0.piece in
        let one : p ≡ q = some_is p q (sym h.0.there ∙ k.0.there) in
        let P : SharedPiece
        → Type 0 = λ x. IsComposition (motion_at ts s.face) (motion_at ts s.from) (mirror_in x.segment) in
        let here : Alike s.face =
        same_across (motion_at ts s.from) (motion_at ts s.face) (motion_at us s.from) (motion_at us s.face)
        (mirror_in q.segment) (start s.from w.0.from) (subst P one h.0.across.composed) k.0.across.composed in
        let next : (g : ℕ) → is_reached (before ++ s ∷ []) g ≡ true → Alike g = λ g at.
        elim (reached_cases before s g at) [ inl earlier ↦ start g earlier | inr same ↦ subst Alike same here ] in
        alike_on (before ++ s ∷ []) steps w.1 h.1 k.1 next f (onward before s steps f e)

    starts : (f : ℕ) → is_reached [] f ≡ true → Alike f
    starts f e =
        elim (or_cases (nat_eq f 1) false e) [
          | inl one ↦ subst Alike (sym (eqb-true f 1 one)) stays
          | inr none ↦ absurd (false≢true none)
        ]
      where
        stays : Alike 1
        stays x = same_vector-trans (image_by (motion_at ts 1) x) x (image_by (motion_at us 1) x)
            (first.fixed x)
            (same_vector-sym (image_by (motion_at us 1) x) x (second.fixed x))

    pub walks_alike : MoveAlike m ts us
    walks_alike f low high =
        alike_on [] m.walk rules.walk first.taken second.taken starts f
        (elim (or_cases (nat_eq f 1) (has_step_to m.walk f) (rules.reached f low high)) [
          | inl one ↦ inl (or_left (nat_eq f 1) false one)
          | inr later ↦ inr later
        ])

pub folding_is_one : FoldingIsOne
folding_is_one m ts us rules first second =
    walks_alike m rules ts us (folding_along m rules ts first) (folding_along m rules us second)

pub folding_is_along_walk : FoldingIsAlongWalk
folding_is_along_walk m ts us rules along second =
    walks_alike m rules ts us along (folding_along m rules us second)
