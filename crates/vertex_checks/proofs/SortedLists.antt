-- What is in joined lists, and lists in which each element stands before all later ones.
use Rattle.std.proofs.Common.{◌≡◌, ℕ, suc, zero, ◌+◌, ◌-◌, ◌<◌, ◌≤◌, inl, inr, Bool, false, ◌||◌, List, [], ◌∷◌, ◌++◌, map, flat_map, refl, sym, ap, subst, ◌∙◌, arith}
use Rattle.std.proofs.lemmas.Bool.{cases_lt}
use Rattle.std.proofs.lemmas.List.{append_assoc, map-append}
use Rattle.std.specs.Prelude.{⊤}
use Rattle.std.specs.List.{list_any, range_with_len}
use Rattle.std.specs.List.Sorted.{IsStrictlySortedBy}
use Rattle.std.specs.Cmp.{nat_cmp_is}
use Rattle.std.specs.Ordering.{nat_cmp}
use Rattle.std.specs.declared.cmp.Ordering.{Ordering}
use Rattle.std.specs.declared.cmp.Ordering.TheVariants.{Less, Equal}
use Rattle.line_split.specs.MemberLaws.{Member, member_left, member_right, member_either}
use Rattle.line_split.specs.SortedLaws.{sorted_none, sorted_joined}

-- ---- members of joined and mapped lists

module _ {A X : Type 0} (f : A → X) where
  pub member_map : (items : List A) (a : A) → Member items a → Member (map f items) (f a)
  member_map [] a m = absurd m
  member_map (b ∷ bs) a (inl e) = inl (ap f e)
  member_map (b ∷ bs) a (inr m) = inr (member_map bs a m)

  pub map_member : (items : List A) (x : X) → Member (map f items) x → (a : A) × Member items a × (f a ≡ x)
  map_member [] x m = absurd m
  map_member (b ∷ bs) x (inl e) = (b, inl refl, e)
  map_member (b ∷ bs) x (inr m) = let h = map_member bs x m in (h.0, inr h.1, h.2)

module _ {A X : Type 0} (f : A → List X) where
  pub member_flat : (items : List A) (a : A) (x : X) → Member items a → Member (f a) x
      → Member (flat_map f items) x
  member_flat [] a x m n = absurd m
  member_flat (b ∷ bs) a x (inl e) n =
      member_left (f b) (flat_map f bs) x (subst (λ (t : A). Member (f t) x) (sym e) n)
  member_flat (b ∷ bs) a x (inr m) n = member_right (f b) (flat_map f bs) x (member_flat bs a x m n)

  pub flat_member : (items : List A) (x : X) → Member (flat_map f items) x
      → (a : A) × Member items a × Member (f a) x
  flat_member [] x m = absurd m
  flat_member (b ∷ bs) x m =
      elim (member_either (f b) (flat_map f bs) x m) [
        | inl n ↦ (b, inl refl, n)
        | inr n ↦ (let h = flat_member bs x n in (h.0, inr h.1, h.2))
      ]

-- ---- ascending lists

-- lists that ascend one by one, joined
module _ {A X : Type 0} (compare : X → X → Ordering) (f : A → List X) (Before : A → A → Type 0) where
  abbrev pub AscendBy : List A → Type 0
  AscendBy [] = ⊤
  AscendBy (a ∷ items) = ((b : A) → Member items b → Before a b) × AscendBy items

  pub sorted_flat : (items : List A) → AscendBy items
      → ((a : A) → Member items a → IsStrictlySortedBy compare (f a))
      → ((a b : A) (x y : X) → Before a b → Member (f a) x → Member (f b) y → compare x y ≡ Less)
      → IsStrictlySortedBy compare (flat_map f items)
  sorted_flat [] up each between = sorted_none compare
  sorted_flat (a ∷ items) up each between =
      sorted_joined compare (f a) (flat_map f items) (each a (inl refl))
      (sorted_flat items up.1 (λ b m. each b (inr m)) between)
      (λ x y m n. let h = flat_member f items y n in between a h.0 x y (up.0 h.0 h.1) m h.2)

-- ---- numbers

pub range_member : (a n i : ℕ) → Member (range_with_len a n) i → (a ≤ i) × (i < a + n)
range_member a zero i m = absurd m
range_member a (suc n) i (inl e) = (omega (arith, e), omega (arith, e))
range_member a (suc n) i (inr m) =
    let h = range_member (a + 1) n i m in (omega (arith, h.0), omega (arith, h.1))

pub member_range : (a n i : ℕ) → a ≤ i → i < a + n → Member (range_with_len a n) i
member_range a zero i low high = absurd (omega arith)
member_range a (suc n) i low high =
    elim (cases_lt a i) [
      | inl less ↦ inr (member_range (a + 1) n i (omega (arith, less)) (omega (arith, high)))
      | inr more ↦ inl (omega (arith, low, more))
    ]

pub cmp_less : (i j : ℕ) → i < j → nat_cmp i j ≡ Less
cmp_less i j less = sym (nat_cmp_is i j Less less)

pub cmp_same : (i j : ℕ) → i ≡ j → nat_cmp i j ≡ Equal
cmp_same i j same = sym (nat_cmp_is i j Equal same)

-- the numbers from k on pass a test where those behind k do, if k does not
pub any_later : (test : ℕ → Bool) (k n : ℕ) → k < n → test k ≡ false
    → list_any test (range_with_len k (n - k)) ≡ list_any test (range_with_len (k + 1) (n - (k + 1)))
any_later test k n less e =
    let more : n - k ≡ suc (n - (k + 1)) = omega arith in
    ap (λ (m : ℕ). list_any test (range_with_len k m)) more
    ∙ ap (λ (b : Bool). b || list_any test (range_with_len (k + 1) (n - (k + 1)))) e

-- ---- a list that is made number by number

module _ {A X : Type 0} (f : A → X) (g : ℕ → List A) where
  range_step : (k n : ℕ) → k < n
      → flat_map g (range_with_len k (n - k)) ≡ g k ++ flat_map g (range_with_len (k + 1) (n - (k + 1)))
  range_step k n less =
      let more : n - k ≡ suc (n - (k + 1)) = omega arith in
      ap (λ (m : ℕ). flat_map g (range_with_len k m)) more

  pub one_more : (k n : ℕ) (old new whole : List X) → k < n → new ≡ old ++ map f (g k)
      → old ++ map f (flat_map g (range_with_len k (n - k))) ≡ whole
      → new ++ map f (flat_map g (range_with_len (k + 1) (n - (k + 1)))) ≡ whole
  one_more k n old new whole less e h =
      let rest = flat_map g (range_with_len (k + 1) (n - (k + 1))) in
      ap (λ (t : List X). t ++ map f rest) e
      ∙ append_assoc old (map f (g k)) (map f rest)
      ∙ ap (λ (t : List X). old ++ t) (sym (map-append f (g k) rest) ∙ ap (map f) (sym (range_step k n less)))
      ∙ h
