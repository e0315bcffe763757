-- Numbers strictly between limits: there is one exactly where each lower limit is less than each upper one.
use Rattle.std.proofs.Common.{◌≡◌, ◌↔◌, ℕ, zero, suc, ◌<◌, [], ◌∷◌, pos, negsuc, Bool, true, false, Option, Some, None, IfSome, ◌⊎◌, inl, inr, refl, sym, subst, ◌∙◌, arith}
use Rattle.std.proofs.lemmas.Bool.{cases_lt}
use Rattle.surd_number.specs.Number.{Number, IsLess, whole, sum_of, difference_of, half_of}
use Rattle.surd_number.specs.RingTool.{◌⊕◌, ◌⊝◌, con, v0}
use Rattle.surd_number.specs.NumberLaws.{number_ring}
use Rattle.open_region.specs.declared.interval.Limit.{Limit}
use Rattle.open_region.specs.EdgeView.{limit_of}
use Rattle.surd_number.specs.SignLaws.{sign_of-same, IsLess-irrefl, IsLess-trans, IsLess-halfway_left, IsLess-halfway_right, not_less-IsLess_trans, IsLess-not_less_trans, IsLess-total, IsLess-not_same, IsLess-asym}

-- ---- a number between two that may be absent

one_less : (u : Number) → IsLess (sum_of u (whole (negsuc 0))) u
one_less u = sign_of-same (difference_of (sum_of u (whole (negsuc 0))) u) (whole (negsuc 0))
    (number_ring (u ∷ []) ((v0 ⊕ con (whole (negsuc 0))) ⊝ v0) (con (whole (negsuc 0))) refl)

one_more : (l : Number) → IsLess l (sum_of l (whole (pos 1)))
one_more l = sign_of-same (difference_of l (sum_of l (whole (pos 1)))) (whole (negsuc 0))
    (number_ring (l ∷ []) (v0 ⊝ (v0 ⊕ con (whole (pos 1)))) (con (whole (negsuc 0))) refl)

pub number_between : (lower upper : Option Number)
    → ((l u : Number) → lower ≡ Some l → upper ≡ Some u → IsLess l u)
    → (y : Number) × IfSome lower (λ l. IsLess l y) × IfSome upper (λ u. IsLess y u)
number_between None None h = (whole (pos 0), tt, tt)
number_between None (Some u) h = (sum_of u (whole (negsuc 0)), tt, one_less u)
number_between (Some l) None h = (sum_of l (whole (pos 1)), one_more l, tt)
number_between (Some l) (Some u) h =
    let less = h l u refl refl in (
      half_of (sum_of l u),
      IsLess-halfway_left l u less,
      IsLess-halfway_right l u less,
    )

-- ---- the greatest of finitely many, by an order

is_less_or_not : (x y : Number) → IsLess x y ⊎ ¬ IsLess x y
is_less_or_not x y =
    elim (IsLess-total x y) [
      | inl less ↦ inl less
      | inr r ↦ elim r [
        | inl same ↦ inr (λ less. IsLess-not_same x y less same)
        | inr more ↦ inr (λ less. IsLess-asym x y less more)
      ]
    ]

record IsStrict (R : Number → Number → Type 0) : Type 0 where
  decided : (x y : Number) → R x y ⊎ ¬ R x y
  chained : (x y z : Number) → R x y → R y z → R x z
  apart : (x : Number) → ¬ R x x

abbrev IsMore : Number → Number → Type 0
IsMore x y = IsLess y x

less_IsStrict : IsStrict IsLess
less_IsStrict = record { decided = is_less_or_not; chained = IsLess-trans; apart = IsLess-irrefl }

more_IsStrict : IsStrict IsMore
more_IsStrict = record {
  decided = λ x y. is_less_or_not y x;
  chained = λ x y z p q. IsLess-trans z y x q p;
  apart = IsLess-irrefl;
}

-- top is one of the first n numbers of f, and none of them is beyond it; None where there are none
record IsTop (R : Number → Number → Type 0) (f : ℕ → Option Number) (n : ℕ)
    (top : Option Number) : Type 0 where
  attained : (t : Number) → top ≡ Some t → (k : ℕ) × (k < n) × (f k ≡ Some t)
  beyond : (k : ℕ) (x : Number) → k < n → f k ≡ Some x → (t : Number) × (top ≡ Some t) × (¬ R t x)

module _ (R : Number → Number → Type 0) (strict : IsStrict R) (f : ℕ → Option Number) where
  none_IsTop : IsTop R f zero None
  none_IsTop = record { attained = λ t e. absurd (cc); beyond = λ k x few e. absurd (omega arith) }

  -- the next number is absent
  kept_IsTop : (n : ℕ) (top : Option Number) → f n ≡ None → IsTop R f n top → IsTop R f (suc n) top
  kept_IsTop n top none h = record {
    attained = λ t e. let a = h.attained t e in (a.0, omega (arith, a.1), a.2);
    beyond = λ k x few e. elim
        (cases_lt k n) [
          | inl less ↦ h.beyond k x less e
          | inr more ↦
              (let at : k ≡ n = omega arith in let e' : f n ≡ Some x = subst (λ i. f i ≡ Some x) at e
              in absurd (cc))
        ];
  }

  -- it is beyond the top so far, or the first one
  new_IsTop : (n : ℕ) (top : Option Number) (y : Number) → f n ≡ Some y
      → ((t : Number) → top ≡ Some t → R t y) → IsTop R f n top → IsTop R f (suc n) (Some y)
  new_IsTop n top y some further h = record {
    attained = λ t e. let same : y ≡ t = cc in (n, omega arith, subst (λ z. f n ≡ Some z) same some);
    beyond = λ k x few e.
        elim (cases_lt k n) [
          | inl less ↦ (let b = h.beyond k x less e
              in (y, refl, λ r. b.2 (strict.chained b.0 y x (further b.0 b.1) r)))
          | inr more ↦ (let at : k ≡ n = omega arith in let e' : f n ≡ Some x = subst (λ i. f i ≡ Some x) at e
              in let same : y ≡ x = cc in (y, refl, subst (λ z. ¬ R y z) same (strict.apart y)))
        ];
  }

  -- it is not beyond the top so far
  same_IsTop : (n : ℕ) (t y : Number) → f n ≡ Some y → ¬ R t y → IsTop R f n (Some t)
      → IsTop R f (suc n) (Some t)
  same_IsTop n t y some not h = record {
    attained = λ u e. let a = h.attained u e in (a.0, omega (arith, a.1), a.2);
    beyond = λ k x few e.
        elim (cases_lt k n) [
          | inl less ↦ h.beyond k x less e
          | inr more ↦ (let at : k ≡ n = omega arith in let e' : f n ≡ Some x = subst (λ i. f i ≡ Some x) at e
              in let same : y ≡ x = cc in (t, refl, subst (λ z. ¬ R t z) same not))
        ];
  }

  top_from : (n : ℕ) (next top : Option Number) → f n ≡ next → IsTop R f n top
      → (top' : Option Number) × IsTop R f (suc n) top'
  top_from n None top e h = (top, kept_IsTop n top e h)
  top_from n (Some y) None e h = (Some y, new_IsTop n None y e (λ t absent. absurd (cc)) h)
  top_from n (Some y) (Some t) e h =
      elim (strict.decided t y) [
        | inl further ↦ (
          Some y,
          new_IsTop n (Some t) y e (λ u same. let at : t ≡ u = cc in subst (λ z. R z y) at further) h,
        )
        | inr not ↦ (Some t, same_IsTop n t y e not h)
      ]

  top_of : (n : ℕ) → (top : Option Number) × IsTop R f n top
  top_of zero = (None, none_IsTop)
  top_of (suc n) = let h = top_of n in top_from n (f n) h.0 refl h.1

-- ---- a number between finitely many

some_from : (o : Option Number) (P : Number → Type 0) → ((x : Number) → o ≡ Some x → P x) → IfSome o P
some_from None P h = tt
some_from (Some x) P h = h x refl

some_at : (o : Option Number) (P : Number → Type 0) (x : Number) → o ≡ Some x → IfSome o P → P x
some_at o P x e h = subst (λ (q : Option Number). IfSome q P) e h

-- where each lower one is less than each upper one, some number is above all the lower ones and below all the upper ones
pub one_dimension : (lower upper : ℕ → Option Number) (m n : ℕ)
    → ((j k : ℕ) → j < m → k < n → IfSome (lower j) (λ l. IfSome (upper k) (λ u. IsLess l u)))
    → (y : Number) × ((j : ℕ) → j < m → IfSome (lower j) (λ l. IsLess l y))
    × ((k : ℕ) → k < n → IfSome (upper k) (λ u. IsLess y u))
one_dimension lower upper m n agree =
    let low = top_of IsLess less_IsStrict lower m in
    let high = top_of IsMore more_IsStrict upper n in
    let less : (l u : Number) → low.0 ≡ Some l → high.0 ≡ Some u → IsLess l u =
    λ l u e e'.
    (let a = low.1.attained l e in
    let b = high.1.attained u e' in
    some_at (upper b.0) (λ w. IsLess l w) u b.2
    (some_at (lower a.0) (λ w. IfSome (upper b.0) (λ z. IsLess w z)) l a.2 (agree a.0 b.0 a.1 b.1))) in
    let y = number_between low.0 high.0 less in (
      y.0,
      λ j few. some_from (lower j) (λ l. IsLess l y.0)
          (λ x e. let b = low.1.beyond j x few e
          in not_less-IsLess_trans x b.0 y.0 b.2 (some_at low.0 (λ l. IsLess l y.0) b.0 b.1 y.1)),
      λ k few. some_from (upper k) (λ u. IsLess y.0 u)
          (λ x e. let b = high.1.beyond k x few e
          in IsLess-not_less_trans y.0 b.0 x (some_at high.0 (λ u. IsLess y.0 u) b.0 b.1 y.2) b.2),
    )

-- ---- a number between two limits

pub number_between_limits : (lower upper : Option Limit)
    → ((l u : Limit) → lower ≡ Some l → upper ≡ Some u → IsLess (limit_of l) (limit_of u))
    → (y : Number) × IfSome lower (λ l. IsLess (limit_of l) y) × IfSome upper (λ u. IsLess y (limit_of u))
number_between_limits None None h = (whole (pos 0), tt, tt)
number_between_limits None (Some u) h = (sum_of (limit_of u) (whole (negsuc 0)), tt, one_less (limit_of u))
number_between_limits (Some l) None h = (sum_of (limit_of l) (whole (pos 1)), one_more (limit_of l), tt)
number_between_limits (Some l) (Some u) h =
    let less = h l u refl refl in (
      half_of (sum_of (limit_of l) (limit_of u)),
      IsLess-halfway_left (limit_of l) (limit_of u) less,
      IsLess-halfway_right (limit_of l) (limit_of u) less,
    )

some_is : {x y : Limit} → Some x ≡ Some y → x ≡ y
some_is e = cc

pub both_limits : (lower upper : Option Limit) (l u : Limit) (closed less : Bool) → lower ≡ Some l
    → upper ≡ Some u → closed ≡ false → (less ≡ true) ↔ IsLess (limit_of l) (limit_of u)
    → (less ≡ true) ↔ ((y : Number)
    × (IfSome lower (λ l. IsLess (limit_of l) y) × IfSome upper (λ u. IsLess y (limit_of u))
    × (closed ≡ false)))
both_limits lower upper l u closed less at at' open_still h = (to, from)
  where
    to : less ≡ true → (y : Number)
        × (IfSome lower (λ l. IsLess (limit_of l) y) × IfSome upper (λ u. IsLess y (limit_of u))
        × (closed ≡ false))
    to e =
        let w = number_between_limits lower upper
        (λ m n f g. let same : l ≡ m = some_is (sym at ∙ f) in let same' : u ≡ n = some_is (sym at' ∙ g)
        in subst (λ k. IsLess (limit_of k) (limit_of n)) same
        (subst (λ k. IsLess (limit_of l) (limit_of k)) same' (h.0 e))) in
        (w.0, (w.1, w.2, open_still))

    from : (y : Number) ×
        (IfSome lower (λ l. IsLess (limit_of l) y) × IfSome upper (λ u. IsLess y (limit_of u))
        × (closed ≡ false)) → less ≡ true
    from w =
        let above : IsLess (limit_of l) w.0 = subst (λ o. IfSome o (λ l. IsLess (limit_of l) w.0)) at w.1.0 in
        let below : IsLess w.0 (limit_of u) = subst (λ o. IfSome o (λ u. IsLess w.0 (limit_of u))) at' w.1.1
        in
        h.1 (IsLess-trans (limit_of l) w.0 (limit_of u) above below)
