-- Where a pair stands in a list in order.
use Rattle.std.proofs.Common.{◌≡◌, ℕ, inl, inr, Bool, true, false, List, Some, sym, ap, subst, ◌∙◌, arith}
use Rattle.std.specs.Prelude.{◌&&◌, ◌||◌, ◌==◌, nat_lt, slice_index_or}
use Rattle.std.specs.List.{AllPairs, Contains, slice_get}
use Rattle.std.specs.List.Sorted.{IsPartitionedBy, IsPartitionPoint}
use Rattle.std.proofs.lemmas.Bool.{cases_lt, true≢false}
use Rattle.std.proofs.lemmas.Bool.Decides.{nat_tests}
use Rattle.layer_rules.specs.declared.face_pairs.FacePair.{FacePair}
use Rattle.layer_rules.specs.FacePairs.{Precedes}
use Rattle.layer_rules.proofs.SignPlaces.{pair_of, read_get}

abbrev pub comes_before : ℕ → ℕ → FacePair → Bool
comes_before i j pair = nat_lt pair.i i || (pair.i == i && nat_lt pair.j j)

before_is : (i j : ℕ) (p : FacePair) → Precedes p (pair_of i j) → comes_before i j p ≡ true
before_is i j p before =
    elim before [ inl less ↦ grind (arith, nat_tests, less) | inr same ↦ grind (arith, nat_tests, same.0, same.1) ]

is_before : (i j : ℕ) (p : FacePair) → comes_before i j p ≡ true → Precedes p (pair_of i j)
is_before i j p e = grind (arith, nat_tests)

through : (p q r : FacePair) → Precedes p q → Precedes q r → Precedes p r
through p q r a b =
    elim a [
      | inl a' ↦ elim b [ inl b' ↦ inl (omega arith) | inr b' ↦ inl (omega (arith, a', b'.0)) ]
      | inr a' ↦
          elim b [
            | inl b' ↦ inl (omega (arith, a'.0, b'))
            | inr b' ↦ inr (a'.0 ∙ b'.0, omega (arith, a'.1, b'.1))
          ]
    ]

pub partitioned : (i j : ℕ) (pairs : List FacePair) → AllPairs Precedes pairs
    → IsPartitionedBy (comes_before i j) pairs
partitioned i j pairs up m n d order below e =
    elim (cases_lt m n) [
      | inl less ↦
          before_is i j (slice_index_or pairs m d)
          (through (slice_index_or pairs m d) (slice_index_or pairs n d) (pair_of i j) (up m n d less below)
          (is_before i j (slice_index_or pairs n d) e))
      | inr more ↦
          (let one : n ≡ m = omega (arith, order, more) in
          subst (λ (k : ℕ). comes_before i j (slice_index_or pairs k d) ≡ true) one e)
    ]

not_before_itself : (i j : ℕ) → comes_before i j (pair_of i j) ≡ false
not_before_itself i j = grind (arith, nat_tests)

abbrev pub Parts : ℕ → ℕ → List FacePair → ℕ → Type 0
Parts i j pairs n =
    IsPartitionPoint (λ pair. comes_before i j pair ≡ true) (λ pair. comes_before i j pair ≡ false) pairs n

-- a pair that is there stands right behind those that come before it
pub stands_there : (i j : ℕ) (pairs : List FacePair) (n : ℕ) → AllPairs Precedes pairs → Parts i j pairs n
    → Contains pairs (pair_of i j) → slice_get pairs n ≡ Some (pair_of i j)
stands_there i j pairs n up parts m =
    elim (cases_lt m.0 n) [
      | inl less ↦
          absurd
          (true≢false
          (sym (parts.0 m.0 (pair_of i j) (omega arith) less) ∙ ap (comes_before i j) m.2 ∙ not_before_itself i j))
      | inr more ↦
          elim (cases_lt n m.0) [
            | inl less ↦
                (let behind : Precedes (slice_index_or pairs n (pair_of i j)) (pair_of i j) =
                subst (λ (t : FacePair). Precedes (slice_index_or pairs n (pair_of i j)) t) m.2
                (up n m.0 (pair_of i j) less m.1) in
                absurd
                (true≢false
                (sym (before_is i j (slice_index_or pairs n (pair_of i j)) behind)
                ∙ parts.1 n (pair_of i j) (omega arith) (omega (arith, less, m.1)))))
            | inr same ↦
                (let one : m.0 ≡ n = omega (arith, more, same) in
                subst (λ (k : ℕ). slice_get pairs k ≡ Some (pair_of i j)) one
                (read_get pairs m.0 (pair_of i j) m.1 ∙ ap Some m.2))
          ]
    ]
