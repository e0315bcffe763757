-- Facts that hold exactly where others do, and how they grow along a loop.
use Rattle.std.proofs.Common.{◌≡◌, ◌↔◌, ℕ, ◌+◌, ◌<◌, ◌≤◌, Bool, true, false, Option, Some, None, IfSome, inl, inr, sym, subst, ◌∙◌, arith}
use Rattle.std.proofs.lemmas.Bool.{false≢true, cases_lt}

-- a test that is false
pub not_told : {P : Type 0} (b : Bool) → b ≡ false → (b ≡ true) ↔ P → ¬ P
not_told b e h p = false≢true (sym e ∙ h.1 p)

pub iff_trans : {A B C : Type 0} → A ↔ B → B ↔ C → A ↔ C
iff_trans f g = (λ a. g.0 (f.0 a), λ c. f.1 (g.1 c))

pub and_iff : {A B C D : Type 0} → A ↔ (B × C) → C ↔ D → A ↔ (B × D)
and_iff f g = (λ a. ((f.0 a).0, g.0 (f.0 a).1), λ h. f.1 (h.0, g.1 h.1))

-- a fact that holds anyway
pub and_held : {A : Type 0} {P : ℕ → Type 0} → A ↔ (A × ((j : ℕ) → j < 0 → P j))
and_held = (λ a. (a, λ j few. absurd (omega arith)), λ h. h.0)

-- one more place
pub next_place : {A B C : Type 0} (P : ℕ → Type 0) (k : ℕ) → A ↔ (B × ((j : ℕ) → j < k → P j)) → C ↔ (A × P k)
    → C ↔ (B × ((j : ℕ) → j < k + 1 → P j))
next_place {A} {B} {C} P k f g = (to, from)
  where
    to : C → B × ((j : ℕ) → j < k + 1 → P j)
    to c =
        let a = (g.0 c).0 in
        let here = (g.0 c).1 in (
          (f.0 a).0,
          λ j few. elim
              (cases_lt j k) [
                | inl less ↦ (f.0 a).1 j less
                | inr more ↦
                    (let e : k ≡ j = omega arith in subst P e here)
              ],
        )

    from : B × ((j : ℕ) → j < k + 1 → P j) → C
    from h = g.1 (f.1 (h.0, λ j few. h.1 j (omega arith)), h.1 k (omega arith))

-- a fact under a condition that holds
pub and_given : {A B Q R : Type 0} → Q → A ↔ (B × R) → A ↔ (B × (Q → R))
and_given q f = (λ a. ((f.0 a).0, λ _. (f.0 a).1), λ h. f.1 (h.0, h.1 q))

-- all of them
pub all_places : {A B : Type 0} (P : ℕ → Type 0) (k n : ℕ) → k ≡ n → A ↔ (B × ((j : ℕ) → j < k → P j))
    → A ↔ (B × ((j : ℕ) → j < n → P j))
all_places {A} {B} P k n e f = subst (λ m. A ↔ (B × ((j : ℕ) → j < m → P j))) e f

-- none from 1 on
pub and_empty : {A : Type 0} {P : ℕ → Type 0} → A ↔ (A × ((j : ℕ) → j < 1 → 1 ≤ j → P j))
and_empty = (λ a. (a, λ j few many. absurd (omega arith)), λ h. h.0)

pub and_empty_from : {A B : Type 0} {P : ℕ → Type 0} → A ↔ B → A ↔ (B × ((j : ℕ) → j < 1 → 1 ≤ j → P j))
and_empty_from f = (λ a. (f.0 a, λ j few many. absurd (omega arith)), λ h. f.1 h.0)

-- the same with nothing beside
pub next_alone : {A C : Type 0} (P : ℕ → Type 0) (k : ℕ) → A ↔ ((j : ℕ) → j < k → P j) → C ↔ (A × P k)
    → C ↔ ((j : ℕ) → j < k + 1 → P j)
next_alone P k f g =
    let h = next_place {B = Unit {0}} P k ((λ a. (tt, f.0 a)), λ w. f.1 w.1) g in
    ((λ c. (h.0 c).1), λ w. h.1 (tt, w))

-- of an absent value nothing is said
pub some_iff : {X : Type 0} (P Q : X → Type 0) (o : Option X) → ((x : X) → P x ↔ Q x) → IfSome o P
    → IfSome o Q
some_iff P Q None h g = tt
some_iff P Q (Some x) h g = (h x).0 g
