use Rattle.std.proofs.Common.{◌≡◌, arith, sym, subst}
use Rattle.std.specs.Prelude.{Result, Err, MatchResult, ◌↔◌, ◌<◌}
use Rattle.std.proofs.lemmas.Grind.{common_steps}
use Rattle.isometry_map.specs.Folded.{FoldedView}
use Rattle.layer_rules.specs.declared.layering.InstanceFault.{InstanceFault}
use Rattle.layer_rules.specs.Layering.{LayeringView, IsLayering, IsShapeOf, IsInstanceFault, HasMemory, fault_of_pairs}
use Rattle.layer_rules.specs.FacePairs.{IsPairList, HasPairCount, most_pairs}
use Rattle.layer_rules.specs.declared.layering.InstanceFault.TheVariants.{TooManyPairs}
use Rattle.layer_rules.proofs.Layerings.{no_pairs, pairs_refused, pairs_accepted}
use Rattle.layer_rules.proofs.layering.layering_of.Goals as goal

pub returns-in_err-pairs-clause-exact : goal.returns-in_err-pairs-clause-exact
returns-in_err-pairs-clause-exact g c =
    let p = c.args.pattern.now in
    let P : Result LayeringView InstanceFault → Type 0 = λ r. MatchResult r (IsLayering p) (IsInstanceFault p) in
    let gave : c.from_residual-in_err-pairs.result ≡ Err (fault_of_pairs c.in_err-pairs.field-0.0) =
    grind (arith, common_steps) in
    let is = subst (IsShapeOf p) (sym c.in_ok-shape.ensures) c.requires.shape in
    subst P (sym gave)
    (no_pairs p c.in_ok-shape.shape c.pairs.result c.in_err-pairs.field-0.0 is c.pairs.ensures.too_many
    c.in_err-pairs.was)

pub returns-in_err-pairs-clause-too_many_pairs : goal.returns-in_err-pairs-clause-too_many_pairs
returns-in_err-pairs-clause-too_many_pairs g c = λ n.
    let P : Result LayeringView InstanceFault → Type 0 =
    λ r. (r ≡ Err (TooManyPairs n)) ↔ (HasMemory r × (most_pairs < n) × HasPairCount c.args.folded n) in
    let gave : c.from_residual-in_err-pairs.result ≡ Err (fault_of_pairs c.in_err-pairs.field-0.0) =
    grind (arith, common_steps) in
    subst P (sym gave)
    (subst (λ (s : FoldedView). (◌≡◌ {A = Result LayeringView InstanceFault}
    (Err (fault_of_pairs c.in_err-pairs.field-0.0)) (Err (TooManyPairs n)))
    ↔ (HasMemory {T = LayeringView} (Err (fault_of_pairs c.in_err-pairs.field-0.0)) × (most_pairs < n) × HasPairCount s n))
    c.in_ok-shape.ensures
    (pairs_refused c.in_ok-shape.shape c.in_err-pairs.field-0.0 n c.in_err-pairs.ensures.too_many))

pub returns-clause-too_many_pairs : goal.returns-clause-too_many_pairs
returns-clause-too_many_pairs g c = λ n.
    pairs_accepted c.args.folded c.in_ok-pairs.pairs.items c.in_ok-layering.layering n
    (subst (λ (s : FoldedView). IsPairList s c.in_ok-pairs.pairs.items) c.in_ok-shape.ensures
    c.in_ok-pairs.ensures.pairs)
    c.in_ok-pairs.ensures.few
