-- Lists of circles as they grow.
use Rattle.std.proofs.Common.{◌≡◌, ℕ, zero, suc, ◌+◌, ◌-◌, ◌*◌, ◌<◌, ◌≤◌, inl, inr, List, [], ◌∷◌, ◌++◌, length, Some, refl, sym, ap, subst, ◌∙◌, arith}
use Rattle.std.specs.List.{All, AllPairs, Contains, slice_get, slice_index_or}
use Rattle.std.proofs.lemmas.Bool.{cases_lt}
use Rattle.std.proofs.lemmas.List.{length-append}
use Rattle.std.proofs.lemmas.List.Elements.{All-nil, All-push, All-weaker, Contains-append_left, Contains-push}
use Rattle.std.proofs.lemmas.List.Quantifiers.{all_pairs_push}
use Rattle.isometry_map.specs.Folded.{FoldedView}
use Rattle.sign_rules.specs.declared.rule.Rule.{Rule}
use Rattle.sign_rules.specs.declared.rule.Rule.TheVariants.{NotCyclic}
use Rattle.layer_rules.specs.declared.face_pairs.FacePair.{FacePair}
use Rattle.layer_rules.specs.FacePairs.{Precedes}
use Rattle.layer_rules.specs.Circles.{IsCircle, IsCircleRule, first_place, third_place, ArePlacedBefore, StandsBefore, AreCirclesBefore}
use Rattle.layer_rules.proofs.SignPlaces.{pair_of, some_is, get_below, get_reads}

module _ {X : Type 0} where
  pub get_ordered : (R : X → X → Type 0) (xs : List X) (m n : ℕ) (x y : X) → AllPairs R xs → m < n
      → slice_get xs m ≡ Some x → slice_get xs n ≡ Some y → R x y
  get_ordered R xs m n x y up less e f =
      let read : R (slice_index_or xs m x) (slice_index_or xs n x) = up m n x less (get_below xs n y f) in
      subst (λ (t : X). R x t) (get_reads xs n y x f)
      (subst (λ (t : X). R t (slice_index_or xs n x)) (get_reads xs m x x e) read)

pub one_place : (pairs : List FacePair) (m n : ℕ) (pair : FacePair) → AllPairs Precedes pairs
    → slice_get pairs m ≡ Some pair → slice_get pairs n ≡ Some pair → m ≡ n
one_place pairs m n pair up e f =
    elim (cases_lt m n) [
      | inl less ↦ absurd (not_itself (get_ordered Precedes pairs m n pair pair up less e f))
      | inr more ↦
          elim (cases_lt n m) [
            | inl less ↦ absurd (not_itself (get_ordered Precedes pairs n m pair pair up less f e))
            | inr same ↦ omega (arith, more, same)
          ]
    ]
  where
    not_itself : Precedes pair pair → ⊥
    not_itself h = elim h [ inl less ↦ omega arith | inr same ↦ omega arith ]

same_first_face : (p q : FacePair) → p ≡ q → p.i ≡ q.i
same_first_face p q e = ap (λ (t : FacePair). t.i) e

same_second_face : (p q : FacePair) → p ≡ q → p.j ≡ q.j
same_second_face p q e = ap (λ (t : FacePair). t.j) e

get_is : (pairs : List FacePair) (n : ℕ) (p q : FacePair) → slice_get pairs n ≡ Some p
    → slice_get pairs n ≡ Some q
    → p ≡ q
get_is pairs n p q e f = some_is p q (sym e ∙ f)

module _ (shape : FoldedView) (pairs : List FacePair) (up : AllPairs Precedes pairs) where
  pub third_later : (ij jk ik : ℕ) → IsCircle shape pairs ij jk ik → ij < ik
  third_later ij jk ik c =
      elim (cases_lt ij ik) [
        | inl less ↦ less
        | inr more ↦
            elim (cases_lt ik ij) [
              | inl less ↦
                  absurd
                  (elim (get_ordered Precedes pairs ik ij (pair_of c.i c.k) (pair_of c.i c.j) up less c.third c.first) [
                    | inl lower ↦ omega arith
                    | inr same ↦ omega (arith, c.still_ascending, same.1)
                  ])
              | inr same ↦
                  (let one : ij ≡ ik = omega (arith, more, same) in
                  let at : slice_get pairs ik ≡ Some (pair_of c.i c.j) =
                  subst (λ (n : ℕ). slice_get pairs n ≡ Some (pair_of c.i c.j)) one c.first in
                  absurd
                  (omega (
                    arith,
                    c.still_ascending,
                    same_second_face (pair_of c.i c.j) (pair_of c.i c.k)
                        (get_is pairs ik (pair_of c.i c.j) (pair_of c.i c.k) at c.third),
                  )))
            ]
      ]

  -- the faces of a circle are those of the pairs in its places
  pub record HasFaces (pair other : FacePair) (i j k : ℕ) : Type 0 where
    pub first : i ≡ pair.i
    pub second : j ≡ pair.j
    pub third_first : i ≡ other.i
    pub third : k ≡ other.j

  pub circle_faces : (ij jk ik : ℕ) (pair other : FacePair) (c : IsCircle shape pairs ij jk ik)
      → slice_get pairs ij ≡ Some pair → slice_get pairs ik ≡ Some other → HasFaces pair other c.i c.j c.k
  circle_faces ij jk ik pair other c e f =
      let one = get_is pairs ij (pair_of c.i c.j) pair c.first e in
      let two = get_is pairs ik (pair_of c.i c.k) other c.third f in
      record {
        first = same_first_face (pair_of c.i c.j) pair one;
        second = same_second_face (pair_of c.i c.j) pair one;
        third_first = same_first_face (pair_of c.i c.k) other two;
        third = same_second_face (pair_of c.i c.k) other two;
      }

  pub no_circles : AreCirclesBefore shape pairs 0 0 []
  no_circles = record {
    few = omega arith;
    ascending = λ i j d less below. absurd (omega arith);
    below = All-nil _;
    sound = All-nil _;
    complete = λ ij jk ik c before. absurd (elim before [ inl less ↦ omega arith | inr same ↦ omega arith ]);
  }

  pub circles_begin : (p : ℕ) (rules : List Rule) → AreCirclesBefore shape pairs p 0 rules
      → AreCirclesBefore shape pairs p (p + 1) rules
  circles_begin p rules h = record {
    few = omega (arith, h.few);
    ascending = h.ascending;
    below = All-weaker (λ r. ArePlacedBefore (first_place r) (third_place r) p 0)
        (λ r. ArePlacedBefore (first_place r) (third_place r) p (p + 1))
        (λ r before. elim before [ inl less ↦ inl less | inr same ↦ absurd (omega (arith, same.1)) ]) rules h.below;
    sound = h.sound;
    complete = λ ij jk ik c before.
        h.complete ij jk ik c
        (elim before [
          | inl less ↦ inl less
          | inr same ↦ absurd (omega (arith, same.0, same.1, third_later ij jk ik c))
        ]);
  }

  row_done : (p t : ℕ) (rules : List Rule) → t ≤ length pairs
      → ((ij jk ik : ℕ) → IsCircle shape pairs ij jk ik → ij ≡ p → ik < t)
      → AreCirclesBefore shape pairs p t rules → AreCirclesBefore shape pairs (p + 1) 0 rules
  row_done p t rules within last h = record {
    few = omega (arith, h.few, within);
    ascending = h.ascending;
    below = All-weaker (λ r. ArePlacedBefore (first_place r) (third_place r) p t)
        (λ r. ArePlacedBefore (first_place r) (third_place r) (p + 1) 0)
        (λ r before. elim before [ inl less ↦ inl (omega (arith, less)) | inr same ↦ inl (omega (arith, same.0)) ]) rules
        h.below;
    sound = h.sound;
    complete = λ ij jk ik c before.
        h.complete ij jk ik c
        (elim before [
          | inl less ↦
              elim (cases_lt ij p) [
                | inl lower ↦ inl lower
                | inr more ↦ (let at : ij ≡ p = omega (arith, less, more) in inr (at, last ij jk ik c at))
              ]
          | inr same ↦ absurd (omega (arith, same.1))
        ]);
  }

  pub circles_end : (p t : ℕ) (rules : List Rule) → t ≡ length pairs
      → AreCirclesBefore shape pairs p t rules
      → AreCirclesBefore shape pairs (p + 1) 0 rules
  circles_end p t rules all h =
      row_done p t rules (omega (arith, all))
      (λ ij jk ik c at. omega (arith, all, get_below pairs ik (pair_of c.i c.k) c.third)) h

  -- from a pair with another first face on, there are no pairs with this one
  pub circles_stop : (p t : ℕ) (pair other : FacePair) (rules : List Rule) → p < t
      → slice_get pairs p ≡ Some pair
      → slice_get pairs t ≡ Some other → (other.i ≡ pair.i → ⊥) → AreCirclesBefore shape pairs p t rules
      → AreCirclesBefore shape pairs (p + 1) 0 rules
  circles_stop p t pair other rules less e f differ h =
      row_done p t rules (omega (arith, get_below pairs t other f))
      (λ ij jk ik c at.
      let here : slice_get pairs ij ≡ Some pair = ap (slice_get pairs) at ∙ e in
      let one = get_is pairs ij (pair_of c.i c.j) pair c.first here in
      let first : c.i ≡ pair.i = same_first_face (pair_of c.i c.j) pair one in
      elim (cases_lt ik t) [
        | inl lower ↦ lower
        | inr more ↦
            elim (cases_lt t ik) [
              | inl beyond ↦
                  absurd
                  (elim (get_ordered Precedes pairs p t pair other up less e f) [
                    | inl a ↦
                        elim (get_ordered Precedes pairs t ik other (pair_of c.i c.k) up beyond f c.third) [
                          | inl b ↦ omega (arith, a, b, first)
                          | inr b ↦ omega (arith, a, b.0, first)
                        ]
                    | inr a ↦ differ (sym a.0)
                  ])
              | inr same ↦
                  (let one_place : ik ≡ t = omega (arith, more, same) in
                  let two = get_is pairs t (pair_of c.i c.k) other
                  (subst (λ (n : ℕ). slice_get pairs n ≡ Some (pair_of c.i c.k)) one_place c.third) f in
                  absurd (differ (sym (same_first_face (pair_of c.i c.k) other two) ∙ first)))
            ]
      ]) h

  -- where no circle has its first and third pair in these places
  pub circle_skip : (p t : ℕ) (rules : List Rule) → ((jk : ℕ) → IsCircle shape pairs p jk t → ⊥)
      → AreCirclesBefore shape pairs p t rules → AreCirclesBefore shape pairs p (t + 1) rules
  circle_skip p t rules not_here h = record {
    few = omega (arith, h.few);
    ascending = h.ascending;
    below = later_below p t rules h.below;
    sound = h.sound;
    complete = λ ij jk ik c before.
        h.complete ij jk ik c
        (elim before [
          | inl less ↦ inl less
          | inr same ↦
              elim (cases_lt ik t) [
                | inl lower ↦ inr (same.0, lower)
                | inr more ↦
                    (let at : ik ≡ t = omega (arith, more, same.1) in
                    absurd
                    (not_here jk
                    (subst (λ (n : ℕ). IsCircle shape pairs n jk t) same.0
                    (subst (λ (n : ℕ). IsCircle shape pairs ij jk n) at c))))
              ]
        ]);
  }
    where
      later_below : (p t : ℕ) (rules : List Rule)
          → All (λ r. ArePlacedBefore (first_place r) (third_place r) p t) rules
          → All (λ r. ArePlacedBefore (first_place r) (third_place r) p (t + 1)) rules
      later_below p t rules h =
          All-weaker (λ r. ArePlacedBefore (first_place r) (third_place r) p t)
          (λ r. ArePlacedBefore (first_place r) (third_place r) p (t + 1))
          (λ r before. elim before [ inl less ↦ inl less | inr same ↦ inr (same.0, omega (arith, same.1)) ]) rules h

  same_middle : (p q q' t : ℕ) → IsCircle shape pairs p q t → IsCircle shape pairs p q' t → q' ≡ q
  same_middle p q q' t c d =
      let one = get_is pairs p (pair_of d.i d.j) (pair_of c.i c.j) d.first c.first in
      let two = get_is pairs t (pair_of d.i d.k) (pair_of c.i c.k) d.third c.third in
      let j = same_second_face (pair_of d.i d.j) (pair_of c.i c.j) one in
      let k = same_second_face (pair_of d.i d.k) (pair_of c.i c.k) two in
      one_place pairs q' q (pair_of c.j c.k) up (d.second ∙ (λ i. Some (pair_of (j i) (k i)))) c.second

  pub circle_push : (p q t : ℕ) (rules : List Rule) → IsCircle shape pairs p q t
      → AreCirclesBefore shape pairs p t rules
      → AreCirclesBefore shape pairs p (t + 1) (rules ++ NotCyclic p q t ∷ [])
  circle_push p q t rules here h = record {
    few = omega (arith, h.few, length-append rules (NotCyclic p q t ∷ []));
    ascending = all_pairs_push StandsBefore rules (NotCyclic p q t) h.ascending (λ k d below. h.below k d below);
    below = All-push (λ r. ArePlacedBefore (first_place r) (third_place r) p (t + 1)) rules (NotCyclic p q t)
        (All-weaker (λ r. ArePlacedBefore (first_place r) (third_place r) p t)
        (λ r. ArePlacedBefore (first_place r) (third_place r) p (t + 1))
        (λ r before. elim before [ inl less ↦ inl less | inr same ↦ inr (same.0, omega (arith, same.1)) ]) rules h.below)
        (inr (refl, omega arith));
    sound = All-push (IsCircleRule shape pairs) rules (NotCyclic p q t) h.sound
        (record { ij = p; jk = q; ik = t; is = refl; circle = here });
    complete = λ ij jk ik c before.
        elim before [
          | inl less ↦
              Contains-append_left rules (NotCyclic p q t ∷ []) (NotCyclic ij jk ik) (h.complete ij jk ik c (inl less))
          | inr same ↦
              elim (cases_lt ik t) [
                | inl lower ↦
                    Contains-append_left rules (NotCyclic p q t ∷ []) (NotCyclic ij jk ik)
                    (h.complete ij jk ik c (inr (same.0, lower)))
                | inr more ↦
                    (let at : ik ≡ t = omega (arith, more, same.1) in
                    let middle : jk ≡ q =
                    same_middle p q jk t here
                    (subst (λ (n : ℕ). IsCircle shape pairs n jk t) same.0
                    (subst (λ (n : ℕ). IsCircle shape pairs ij jk n) at c)) in
                    let one : NotCyclic p q t ≡ NotCyclic ij jk ik =
                    sym (λ i. NotCyclic (same.0 i) (middle i) (at i)) in
                    subst (λ (r : Rule). Contains (rules ++ NotCyclic p q t ∷ []) r) one
                    (Contains-push rules (NotCyclic p q t)))
              ]
        ];
  }
