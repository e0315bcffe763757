-- Words parted at their first `=`.
use Rattle.std.proofs.Common.{◌≡◌, ◌≢◌, ℕ, Bool, true, true≢false, cond, is_some, unwrap_or, suc, ◌<◌, ◌==◌, false, List, [], ◌∷◌, ◌++◌, length, get_or, Option, None, Some, option_map, refl, sym, ap, ◌∙◌, arith, Bor, MatchOption}
use Rattle.std.proofs.lemmas.Bool.{false_from_ne_true}
use Rattle.std.proofs.lemmas.Bool.Decides.{Decides-eqb}
use Rattle.program_words.specs.ProgramWords.{parted}

pub none_is_some : {X P : Type 0} (x : X) → None ≡ Some x → P
none_is_some x e = absurd (true≢false (sym (ap is_some e)))

pub some_is : {X : Type 0} (x y : X) → Some x ≡ Some y → x ≡ y
some_is x y e = ap (λ o. unwrap_or o y) e

lacks_first : (x : ℕ) → x ≢ 61 → (x == 61) ≡ false
lacks_first x differs = false_from_ne_true (x == 61) (λ e. differs ((Decides-eqb x 61).0 e))

abbrev Lacks : List ℕ → Type 0
Lacks xs = (i : ℕ) → i < length xs → get_or xs i 0 ≢ 61

rest_lacks : (x : ℕ) (xs : List ℕ) → Lacks (x ∷ xs) → Lacks xs
rest_lacks x xs lacks i less = lacks (suc i) (omega (arith, less))

parted_at : (xs ys : List ℕ) → Lacks xs → parted (xs ++ 61 ∷ ys) ≡ Some (xs, ys)
parted_at [] ys lacks = refl
parted_at (x ∷ xs) ys lacks =
    rw (lacks_first x (lacks 0 (omega arith)))
    (ap (option_map (λ p. (x ∷ p.0, p.1))) (parted_at xs ys (rest_lacks x xs lacks)))

parted_nowhere : (xs : List ℕ) → Lacks xs → parted xs ≡ None
parted_nowhere [] lacks = refl
parted_nowhere (x ∷ xs) lacks =
    rw (lacks_first x (lacks 0 (omega arith)))
    (ap (option_map (λ p. (x ∷ p.0, p.1))) (parted_nowhere xs (rest_lacks x xs lacks)))

-- and a word is its two parts round an `=`
pub parted_is : (word : List ℕ) (p : List ℕ × List ℕ) → parted word ≡ Some p → word ≡ p.0 ++ 61 ∷ p.1
parted_is [] p e = none_is_some p e
parted_is (b ∷ bs) p e = go (b == 61) refl (parted_is bs) e
  where
    rest : (found : Option (List ℕ × List ℕ)) → ((q : List ℕ × List ℕ) → found ≡ Some q → bs ≡ q.0 ++ 61 ∷ q.1)
        → option_map {U = List ℕ × List ℕ} (λ q. (b ∷ q.0, q.1)) found ≡ Some p → b ∷ bs ≡ p.0 ++ 61 ∷ p.1
    rest None before e = none_is_some p e
    rest (Some q) before e =
        let is : (b ∷ q.0, q.1) ≡ p = some_is {X = List ℕ × List ℕ} (b ∷ q.0, q.1) p e in
        ap (λ t. b ∷ t) (before q refl) ∙ ap (λ (r : List ℕ × List ℕ). r.0 ++ 61 ∷ r.1) is

    go : (t : Bool) → (b == 61) ≡ t → ((q : List ℕ × List ℕ) → parted bs ≡ Some q → bs ≡ q.0 ++ 61 ∷ q.1)
        → cond t (Some ([], bs)) (option_map (λ q. (b ∷ q.0, q.1)) (parted bs)) ≡ Some p → b ∷ bs ≡ p.0 ++ 61 ∷ p.1
    go true t before e =
        let is : ([], bs) ≡ p = some_is {X = List ℕ × List ℕ} ([], bs) p e in
        ap (λ c. c ∷ bs) ((Decides-eqb b 61).0 t) ∙ ap (λ (r : List ℕ × List ℕ). r.0 ++ 61 ∷ r.1) is
    go false t before e = rest (parted bs) before e

-- what a word was parted into is that
pub parts_are : (word : List ℕ) (found : Option (Bor (List ℕ) × Bor (List ℕ)))
    → MatchOption found (Lacks word) (λ x. (word ≡ x.0.now ++ 61 ∷ x.1.now) × Lacks x.0.now)
    → option_map (λ p. (p.0.now, p.1.now)) found ≡ parted word
parts_are word None lacks = sym (parted_nowhere word lacks)
parts_are word (Some x) parts = sym (ap parted parts.0 ∙ parted_at x.0.now x.1.now parts.1)
