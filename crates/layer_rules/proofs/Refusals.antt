-- When too many pairs are refused.
use Rattle.std.proofs.Common.{◌≡◌, ℕ, ◌<◌, ◌≤◌, List, length, Ok, Err, sym, ap, ◌∙◌, arith}
use Rattle.std.specs.Prelude.{◌↔◌}
use Rattle.std.specs.Result.{IsErrOf}
use Rattle.isometry_map.specs.Folded.{FoldedView}
use Rattle.layer_rules.specs.declared.face_pairs.FacePair.{FacePair}
use Rattle.layer_rules.specs.declared.face_pairs.PairsFault.TheVariants.{TooManyPairs, Memory}
use Rattle.layer_rules.specs.FacePairs.{IsPairList, HasPairCount, most_pairs}
use Rattle.layer_rules.specs.Answer.{HasMemory}
use Rattle.layer_rules.proofs.PairLists.{one_pair_list}

err_is : {T E : Type 0} (x y : E) → IsErrOf {T = T} (Err x) y → x ≡ y
err_is x y e = cc

number_is : (m n : ℕ) → TooManyPairs m ≡ TooManyPairs n → m ≡ n
number_is m n e = cc

not_memory : {T : Type 0} (m : ℕ) → HasMemory {T = T} (Err (TooManyPairs m))
not_memory {T} m e = let same : TooManyPairs m ≡ Memory = err_is {T = T} (TooManyPairs m) Memory e in cc

pub counted : (shape : FoldedView) (pairs : List FacePair) (n : ℕ) → IsPairList shape pairs → HasPairCount shape n
    → length pairs ≡ n
counted shape pairs n h k = ap length (one_pair_list shape pairs k.0 h k.1) ∙ k.2

pub refused_where : {T : Type 0} (shape : FoldedView) (pairs : List FacePair) (m n : ℕ)
    → IsPairList shape pairs → m ≡ length pairs → most_pairs < m
    → IsErrOf {T = T} (Err (TooManyPairs m)) (TooManyPairs n)
    ↔ (HasMemory {T = T} (Err (TooManyPairs m)) × (most_pairs < n) × HasPairCount shape n)
refused_where {T} shape pairs m n h e more = (
  λ same.
      let is = number_is m n (err_is {T = T} (TooManyPairs m) (TooManyPairs n) same) in
      (not_memory m, omega (arith, is, more), (pairs, h, sym e ∙ is)),
  λ cause. ap (λ (k : ℕ). Err (TooManyPairs k)) (e ∙ counted shape pairs n h cause.2),
)

ok_is_no_error : {T E : Type 0} (x : T) (y : E) → Ok x ≡ Err y → ⊥
ok_is_no_error x y e = cc

pub accepted_where : {T : Type 0} (shape : FoldedView) (pairs : List FacePair) (answer : T) (n : ℕ)
    → IsPairList shape pairs → length pairs ≤ most_pairs
    → IsErrOf (Ok answer) (TooManyPairs n)
    ↔ (HasMemory (Ok answer) × (most_pairs < n) × HasPairCount shape n)
accepted_where shape pairs answer n h few = (
  λ same. absurd (ok_is_no_error answer (TooManyPairs n) same),
  λ cause. absurd (omega (arith, few, cause.1, counted shape pairs n h cause.2)),
)
