-- Each place is in the cycle of one leader at most, and where next places are one to one, of one.
use Rattle.std.proofs.Common.{◌≡◌, ℕ, zero, suc, ◌+◌, ◌-◌, ◌<◌, ◌≤◌, true, false, ◌⊎◌, inl, inr, List, [], ◌∷◌, length, refl, sym, ap, subst, ◌∙◌, arith}
use Rattle.std.specs.Cmp.{nat_cmp_is}
use Rattle.std.specs.declared.cmp.Ordering.TheVariants.{Equal, Greater}
use Rattle.std.proofs.lemmas.Bool.{cond_both, cases_lt, cases_eq, both_ways}
use Rattle.indexmap.proofs.IndexTableLemmas.Probe.{pigeonhole}
use Rattle.line_split.specs.MemberLaws.{Member}
use Rattle.line_split.specs.Points.{by_order}
use Rattle.face_builder.specs.Cycle.{next_of, comes_first, is_leader, rest_from, cycle_from, leaders_from}
use Rattle.face_builder.proofs.Rounds.{Leads, comes_back, rest_behind}

module _ (nexts : List ℕ) where
  -- the place after k steps
  walk : ℕ → ℕ → ℕ
  walk zero x = x
  walk (suc k) x = next_of nexts (walk k x)

  walk_first : (k x : ℕ) → walk k (next_of nexts x) ≡ walk (suc k) x
  unfolding walk
  walk_first zero x = refl
  walk_first (suc k) x = ap (next_of nexts) (walk_first k x)

  walk_sum : (j k x : ℕ) → walk j (walk k x) ≡ walk (j + k) x
  unfolding walk
  walk_sum zero k x = ap (λ m. walk m x) (let e : k ≡ zero + k = omega arith in e)
  walk_sum (suc j) k x = ap (next_of nexts) (walk_sum j k x)
      ∙ ap (λ m. walk m x) (let e : suc (j + k) ≡ suc j + k = omega arith in e)

  -- ---- closed walks

  leads_on : (first x : ℕ) (rest : List ℕ) → Leads nexts first x rest → (y : ℕ) → Member (x ∷ rest) y
      → Member (first ∷ rest) (next_of nexts y)
  leads_on first x [] l y (inl at) = inl (sym l ∙ ap (next_of nexts) at)
  leads_on first x [] l y (inr none) = absurd none
  leads_on first x (z ∷ zs) l y (inl at) = inr (inl (sym l.0 ∙ ap (next_of nexts) at))
  leads_on first x (z ∷ zs) l y (inr m) =
      elim (leads_on first z zs l.1 y m) [ inl at ↦ inl at | inr n ↦ inr (inr n) ]

  walk_in : (first : ℕ) (rest : List ℕ) → Leads nexts first first rest → (k y : ℕ) → Member (first ∷ rest) y
      → Member (first ∷ rest) (walk k y)
  unfolding walk
  walk_in first rest l zero y m = m
  walk_in first rest l (suc k) y m = leads_on first first rest l (walk k y) (walk_in first rest l k y m)

  reaches : (first x : ℕ) (rest : List ℕ) → Leads nexts first x rest → (y : ℕ) → Member (x ∷ rest) y
      → (k : ℕ) × (walk k y ≡ first)
  unfolding walk
  reaches first x [] l y (inl at) = (1, sym (ap (next_of nexts) at) ∙ l)
  reaches first x [] l y (inr none) = absurd none
  reaches first x (z ∷ zs) l y (inl at) =
      let r = reaches first z zs l.1 z (inl refl) in
      (suc r.0, sym (walk_first r.0 y) ∙ ap (walk r.0) (sym (ap (next_of nexts) at) ∙ l.0) ∙ r.1)
  reaches first x (z ∷ zs) l y (inr m) = reaches first z zs l.1 y m

  abbrev rest_of : ℕ → List ℕ
  rest_of f = rest_from nexts f nexts (next_of nexts f)

  leader_leads : (f : ℕ) → is_leader nexts f ≡ true → Leads nexts f f (rest_of f)
  unfolding is_leader
  leader_leads f e = comes_back nexts f nexts f e

  pub leader_least : (f : ℕ) → is_leader nexts f ≡ true → (y : ℕ) → Member (f ∷ rest_of f) y → f ≤ y
  unfolding is_leader
  leader_least f e y (inl at) = omega (arith, at)
  leader_least f e y (inr m) = omega (arith, rest_behind nexts f nexts f e y m)

  meets_leader : (f g y : ℕ) → is_leader nexts f ≡ true → is_leader nexts g ≡ true → Member (f ∷ rest_of f) y
      → Member (g ∷ rest_of g) y → f ≤ g
  meets_leader f g y e d m n =
      let r = reaches g g (rest_of g) (leader_leads g d) y n in
      leader_least f e g
      (subst (λ z. Member (f ∷ rest_of f) z) r.1 (walk_in f (rest_of f) (leader_leads f e) r.0 y m))

  -- two leaders whose cycles have a place in common are one
  pub one_leader : (f g y : ℕ) → is_leader nexts f ≡ true → is_leader nexts g ≡ true
      → Member (cycle_from nexts f) y
      → Member (cycle_from nexts g) y → f ≡ g
  unfolding cycle_from
  one_leader f g y e d m n = omega (arith, meets_leader f g y e d m n, meets_leader g f y d e n m)

  -- ---- one to one

  module _ (into : (x : ℕ) → x < length nexts → next_of nexts x < length nexts)
      (apart : (x y : ℕ) → x < length nexts → y < length nexts → next_of nexts x ≡ next_of nexts y → x
      ≡ y) where
    within : (k x : ℕ) → x < length nexts → walk k x < length nexts
    unfolding walk
    within zero x less = less
    within (suc k) x less = into (walk k x) (within k x less)

    cancel : (i d x : ℕ) → x < length nexts → walk i x ≡ walk (i + d) x → x ≡ walk d x
    unfolding walk
    cancel zero d x less e = e ∙ ap (λ m. walk m x) (let z : zero + d ≡ d = omega arith in z)
    cancel (suc i) d x less e =
        let more : suc i + d ≡ suc (i + d) = omega arith in
        cancel i d x less
        (apart (walk i x) (walk (i + d) x) (within i x less) (within (i + d) x less) (e
        ∙ ap (λ m. walk m x) more))

    -- two of the first n places are equal, or they all differ
    Meets : ℕ → ℕ → Type 0
    Meets n x = (i : ℕ) × (d : ℕ) × (0 < d) × (i + d < n) × (walk i x ≡ walk (i + d) x)

    Differs : ℕ → ℕ → Type 0
    Differs n x = (i j : ℕ) → i < n → j < n → walk i x ≡ walk j x → i ≡ j

    seen : (x v m : ℕ) → ((i : ℕ) × (i < m) × (walk i x ≡ v)) ⊎ ((i : ℕ) → i < m → walk i x ≡ v → ⊥)
    seen x v zero = inr (λ i less e. absurd (omega (arith, less)))
    seen x v (suc m) =
        elim (cases_eq (walk m x) v) [
          | inl same ↦ inl (m, omega arith, same)
          | inr other ↦
              (elim (seen x v m) [
                | inl before ↦ inl (before.0, omega (arith, before.1), before.2)
                | inr none ↦
                    inr (λ i less e.
                    elim (cases_eq i m) [
                      | inl last ↦ other (sym (ap (λ k. walk k x) last) ∙ e)
                      | inr earlier ↦ none i (omega (arith, less, earlier)) e
                    ])
              ])
        ]

    decide : (n x : ℕ) → Meets n x ⊎ Differs n x
    unfolding Meets Differs
    decide zero x = inr (λ i j less _ _. absurd (omega (arith, less)))
    decide (suc n) x =
        elim (decide n x) [
          | inl m ↦ inl (m.0, m.1, m.2, omega (arith, m.3), m.4)
          | inr differs ↦
              (elim (seen x (walk n x) n) [
                | inl before ↦
                    (let gap : n ≡ before.0 + (n - before.0) = omega (arith, before.1) in
                    inl (
                      before.0,
                      n - before.0,
                      omega (arith, before.1),
                      omega (arith, before.1),
                      before.2
                          ∙ ap (λ k. walk k x) gap,
                    ))
                | inr none ↦
                    inr (λ i j less_i less_j e.
                    elim (cases_lt i n) [
                      | inl before_i ↦
                          (elim (cases_lt j n) [
                            | inl before_j ↦ differs i j before_i before_j e
                            | inr at_j ↦
                                (let last : j ≡ n = omega (arith, less_j, at_j) in
                                absurd (none i before_i (e ∙ ap (λ k. walk k x) last)))
                          ])
                      | inr at_i ↦
                          (let last : i ≡ n = omega (arith, less_i, at_i) in
                          elim (cases_lt j n) [
                            | inl before_j ↦ absurd (none j before_j (sym e ∙ ap (λ k. walk k x) last))
                            | inr at_j ↦ omega (arith, less_i, less_j, at_i, at_j)
                          ])
                    ])
              ])
        ]

    -- the walk comes round
    record IsRoundOf (x : ℕ) : Type 0 where
      steps : ℕ
      some : 0 < steps
      few : steps ≤ length nexts
      back : walk steps x ≡ x

    comes_round : (x : ℕ) → x < length nexts → IsRoundOf x
    unfolding Meets Differs
    comes_round x less =
        elim (decide (suc (length nexts)) x) [
          | inl m ↦
              record {
                steps = m.1;
                some = m.2;
                few = omega (arith, m.3);
                back =
                    sym (cancel m.0 m.1 x less m.4);
              }
          | inr differs ↦
              absurd (omega (
                arith,
                pigeonhole (suc (length nexts)) (length nexts) (λ k. walk k x)
                    (λ k _. within k x less) differs,
              ))
        ]

    -- ---- the least place of a round leads it

    least : (m x : ℕ) → (a : ℕ) × (a ≤ m) × ((k : ℕ) → k ≤ m → walk a x ≤ walk k x)
    least zero x =
        (0, omega arith, λ k few. let e : k ≡ 0 = omega (arith, few) in omega (arith, ap (λ j. walk j x) e))
    least (suc m) x =
        let r = least m x in
        elim (cases_lt (walk (suc m) x) (walk r.0 x)) [
          | inl less ↦ (
            suc m,
            omega arith,
            λ k few.
                elim (cases_eq k (suc m)) [
                  | inl last ↦ omega (arith, ap (λ j. walk j x) last)
                  | inr other ↦ omega (arith, less, r.2 k (omega (arith, few, other)))
                ],
          )
          | inr more ↦ (
            r.0,
            omega (arith, r.1),
            λ k few.
                elim (cases_eq k (suc m)) [
                  | inl last ↦ omega (arith, more, ap (λ j. walk j x) last)
                  | inr other ↦ r.2 k (omega (arith, few, other))
                ],
          )
        ]

    first_come : (first : ℕ) (steps : List ℕ) (i m : ℕ) → m < length steps → walk m i ≡ first
        → ((k : ℕ) → k ≤ m → first ≤ walk k i) → comes_first nexts first steps i ≡ true
    unfolding walk
    first_come first [] i m less e low = absurd (omega (arith, less))
    first_come first (step ∷ steps) i zero less e low =
        ap (λ o. by_order o false true (comes_first nexts first steps (next_of nexts i)))
        (sym (nat_cmp_is i first Equal e))
    first_come first (step ∷ steps) i (suc m) less e low =
        elim (cases_eq i first) [
          | inl same ↦ ap (λ o. by_order o false true (comes_first nexts first steps (next_of nexts i)))
              (sym (nat_cmp_is i first Equal same))
          | inr other ↦
              ap (λ o. by_order o false true (comes_first nexts first steps (next_of nexts i)))
              (sym (nat_cmp_is i first Greater (omega (arith, other, low 0 (omega arith)))))
              ∙ first_come first steps (next_of nexts i) m (omega (arith, less)) (walk_first m i ∙ e)
              (λ k few. subst (λ y. first ≤ y) (sym (walk_first k i)) (low (suc k) (omega (arith, few))))
        ]

    -- each place is in the cycle of a leader
    pub record IsLed (x : ℕ) : Type 0 where
      pub leader : ℕ
      pub below : leader < length nexts
      pub leads : is_leader nexts leader ≡ true
      pub within_cycle : Member (cycle_from nexts leader) x

    pub led : (x : ℕ) → x < length nexts → IsLed x
    unfolding walk is_leader cycle_from
    led x less =
        let r = comes_round x less in
        let a = least r.steps x in
        let f = walk a.0 x in
        let once_more : (k : ℕ) → walk (k + r.steps) x ≡ walk k x = λ k. sym (walk_sum k r.steps x)
        ∙ ap (walk k) r.back in
        let low : (k : ℕ) → k ≤ r.steps → f ≤ walk k f =
        λ k few.
        elim (cases_lt r.steps (k + a.0)) [
          | inl over ↦
              (let rest : k + a.0 ≡ k + a.0 - r.steps + r.steps = omega (arith, over) in
              subst (λ y. f ≤ y)
              (sym (walk_sum k a.0 x ∙ ap (λ j. walk j x) rest ∙ once_more (k + a.0 - r.steps)))
              (a.2 (k + a.0 - r.steps) (omega (arith, few, a.1))))
          | inr inside ↦ subst (λ y. f ≤ y) (sym (walk_sum k a.0 x)) (a.2 (k + a.0) inside)
        ]
        in
        let back : walk r.steps f ≡ f =
        walk_sum r.steps a.0 x ∙ ap (λ j. walk j x) (let e : r.steps + a.0 ≡ a.0 + r.steps = omega arith in e)
        ∙ once_more a.0 in
        let less_one : r.steps ≡ suc (r.steps - 1) = omega (arith, r.some) in
        let leads : comes_first nexts f nexts (next_of nexts f) ≡ true =
        first_come f nexts (next_of nexts f) (r.steps - 1) (omega (arith, r.few, r.some))
        (walk_first (r.steps - 1) f ∙ ap (λ j. walk j f) (sym less_one) ∙ back)
        (λ k few. subst (λ y. f ≤ y) (sym (walk_first k f)) (low (suc k) (omega (arith, few, r.some)))) in
        let home : walk (r.steps - a.0) f ≡ x =
        walk_sum (r.steps - a.0) a.0 x
        ∙ ap (λ j. walk j x) (let e : r.steps - a.0 + a.0 ≡ r.steps = omega (arith, a.1) in e) ∙ r.back in
        record {
          leader = f;
          below = within a.0 x less;
          leads = leads;
          within_cycle = subst (λ y. Member (cycle_from nexts f) y) home
              (walk_in f (rest_of f) (leader_leads f leads) (r.steps - a.0) f (inl refl));
        }

  -- a leader is listed
  leader_member : (i : ℕ) (rest : List ℕ) (x : ℕ) → i ≤ x → x < i + length rest → is_leader nexts x ≡ true
      → Member (leaders_from nexts i rest) x
  leader_member i [] x low high e = absurd (omega (arith, low, high))
  leader_member i (next ∷ rest) x low high e =
      elim (cases_eq i x) [
        | inl same ↦
            cond_both (is_leader nexts i) (i ∷ leaders_from nexts (i + 1) rest)
            (leaders_from nexts (i + 1) rest) (λ ls. Member ls x)
            (λ d. inl same) (λ d. absurd (both_ways (is_leader nexts i) d (ap (is_leader nexts) same ∙ e)))
        | inr other ↦
            (let later = leader_member (i + 1) rest x (omega (arith, low, other)) (omega (arith, high)) e in
            cond_both (is_leader nexts i) (i ∷ leaders_from nexts (i + 1) rest)
            (leaders_from nexts (i + 1) rest) (λ ls. Member ls x)
            (λ d. inr later) (λ d. later))
      ]

  pub listed : (x : ℕ) → x < length nexts → is_leader nexts x ≡ true → Member (leaders_from nexts 0 nexts) x
  listed x less e = leader_member 0 nexts x (omega arith) (omega (arith, less)) e
