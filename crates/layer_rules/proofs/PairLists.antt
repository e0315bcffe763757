-- Lists of all pairs as they grow, and that a shape has one list of pairs.
use Rattle.std.proofs.Common.{◌≡◌, ℕ, ◌+◌, ◌^◌, ◌<◌, ◌≤◌, inl, inr, Bool, List, [], ◌∷◌, ◌++◌, length, refl, sym, ap₂, subst, arith}
use Rattle.std.specs.Prelude.{◌↔◌}
use Rattle.std.specs.Bool.{IsTrue}
use Rattle.std.specs.List.{AllZip, Contains}
use Rattle.std.proofs.lemmas.Bool.{cases_lt}
use Rattle.std.proofs.lemmas.List.Elements.{All-nil, All-push, All-weaker, All-contains, Contains-append_left, Contains-push}
use Rattle.std.proofs.lemmas.List.Quantifiers.{all_pairs_push}
use Rattle.isometry_map.specs.Folded.{FoldedView}
use Rattle.rayon.specs.Lists.{filter_by_mask}
use Rattle.layer_rules.specs.declared.face_pairs.FacePair.{FacePair}
use Rattle.layer_rules.specs.FacePairs.{Precedes, IsFacePair, IsPairList}
use Rattle.layer_rules.specs.Candidates.{ArePreceding, AreBefore, AreCandidates}
use Rattle.layer_rules.proofs.Ordered.{ascends_masked, kept_holds, holds_kept, one_list}

abbrev pair_of : ℕ → ℕ → FacePair
pair_of i j = record { i = i; j = j }

-- ---- all pairs, as they grow

pub no_pairs : (n : ℕ) → AreBefore n 1 []
no_pairs n = record {
  ascending = λ i j d less below. absurd (omega arith);
  below = All-nil _;
  complete = λ pair first ascending last before.
      absurd (elim before [ inl less ↦ omega arith | inr same ↦ omega arith ]);
}

-- a first face is put before its first partner
pub row_begins : (n i : ℕ) (pairs : List FacePair) → AreBefore n i pairs
    → ArePreceding n (pair_of i (i + 1)) pairs
row_begins n i pairs h = record {
  ascending = h.ascending;
  below = All-weaker (λ p. Precedes p (pair_of i 0)) (λ p. Precedes p (pair_of i (i + 1)))
      (λ p before. elim before [ inl less ↦ inl less | inr same ↦ absurd (omega arith) ]) pairs h.below;
  complete = λ pair first ascending last before.
      h.complete pair first ascending last
      (elim before [ inl less ↦ inl less | inr same ↦ absurd (omega arith) ]);
}

same_pair : (p : FacePair) (i j : ℕ) → p.i ≡ i → p.j ≡ j → pair_of i j ≡ p
same_pair p i j e f = ap₂ pair_of (sym e) (sym f)

pub row_grows : (n i j : ℕ) (pairs : List FacePair) → ArePreceding n (pair_of i j) pairs
    → ArePreceding n (pair_of i (j + 1)) (pairs ++ pair_of i j ∷ [])
row_grows n i j pairs h = record {
  ascending = all_pairs_push Precedes pairs (pair_of i j) h.ascending (λ k d below. h.below k d below);
  below = All-push (λ p. Precedes p (pair_of i (j + 1))) pairs (pair_of i j)
      (All-weaker (λ p. Precedes p (pair_of i j)) (λ p. Precedes p (pair_of i (j + 1)))
      (λ p before. elim before [ inl less ↦ inl less | inr same ↦ inr (same.0, omega arith) ]) pairs h.below)
      (inr (refl, omega arith));
  complete = λ pair first ascending last before.
      elim before [
        | inl less ↦
            Contains-append_left pairs (pair_of i j ∷ []) pair (h.complete pair first ascending last (inl less))
        | inr same ↦
            elim (cases_lt pair.j j) [
              | inl less ↦
                  Contains-append_left pairs (pair_of i j ∷ []) pair
                  (h.complete pair first ascending last (inr (same.0, less)))
              | inr more ↦
                  subst (λ t. Contains (pairs ++ pair_of i j ∷ []) t)
                  (same_pair pair i j same.0 (omega arith))
                  (Contains-push pairs (pair_of i j))
            ]
      ];
}

pub row_ends : (n i j : ℕ) (pairs : List FacePair) → n < j → ArePreceding n (pair_of i j) pairs
    → AreBefore n (i + 1) pairs
row_ends n i j pairs beyond h = record {
  ascending = h.ascending;
  below = All-weaker (λ p. Precedes p (pair_of i j)) (λ p. Precedes p (pair_of (i + 1) 0))
      (λ p before. elim before [ inl less ↦ inl (omega arith) | inr same ↦ inl (omega arith) ]) pairs h.below;
  complete = λ pair first ascending last before.
      h.complete pair first ascending last
      (elim before [
        | inl less ↦
            elim (cases_lt pair.i i) [ inl lower ↦ inl lower | inr more ↦ inr (omega arith, omega arith) ]
        | inr same ↦ absurd (omega arith)
      ]);
}

pub all_pairs : (n i : ℕ) (pairs : List FacePair) → n ≤ i → AreBefore n i pairs → length pairs < 2 ^ 32
    → AreCandidates n pairs
all_pairs n i pairs beyond h few = record {
  few = few;
  ascending = h.ascending;
  complete = λ pair first ascending last. h.complete pair first ascending last (inl (omega arith));
}

-- ---- the pairs of a shape

pub kept_pairs : (shape : FoldedView) (candidates : List FacePair) (answers : List Bool)
    → AreCandidates (length shape.faces) candidates
    → AllZip (λ pair b. IsTrue b ↔ IsFacePair shape pair) candidates answers
    → IsPairList shape (filter_by_mask candidates answers)
kept_pairs shape candidates answers all tells = record {
  ascending = ascends_masked Precedes candidates answers all.ascending;
  complete = λ pair. (
    All-contains (IsFacePair shape) (filter_by_mask candidates answers) pair
        (kept_holds (IsFacePair shape) candidates answers tells),
    λ is. holds_kept (IsFacePair shape) candidates answers tells pair
        (all.complete pair is.first is.ascending is.last) is,
  );
}

not_itself : (p : FacePair) → Precedes p p → ⊥
not_itself p h = elim h [ inl less ↦ omega arith | inr same ↦ omega arith ]

not_both : (p q : FacePair) → Precedes p q → Precedes q p → ⊥
not_both p q h k =
    elim h [
      | inl less ↦ elim k [ inl less' ↦ omega arith | inr same' ↦ omega arith ]
      | inr same ↦ elim k [ inl less' ↦ omega arith | inr same' ↦ omega arith ]
    ]

-- a shape has one list of pairs
pub one_pair_list : (shape : FoldedView) (ps qs : List FacePair) → IsPairList shape ps → IsPairList shape qs
    → ps ≡ qs
one_pair_list shape ps qs h k =
    one_list Precedes not_itself not_both ps qs h.ascending k.ascending
    (λ p m. (k.complete p).1 ((h.complete p).0 m)) (λ p m. (h.complete p).1 ((k.complete p).0 m))
