use Rattle.std.proofs.Common.{◌≡◌, arith, sym, subst}
use Rattle.std.specs.Prelude.{Result, Err, ◌↔◌}
use Rattle.std.proofs.lemmas.Grind.{common_steps}
use Rattle.layer_rules.specs.declared.layering.InstanceFault.{InstanceFault}
use Rattle.layer_rules.specs.declared.layering.InstanceFault.TheVariants.{TooManyPairs}
use Rattle.layer_rules.specs.Layering.{LayeringView, HasMemory, AreTooManyPairs}
use Rattle.layer_rules.proofs.Layerings.{many_before_pairs, many_of_shape, insides_of_layers}
use Rattle.layer_rules.proofs.layering.instance.Goals as goal

pub returns-in_err-folded-clause-too_many_pairs : goal.returns-in_err-folded-clause-too_many_pairs
returns-in_err-folded-clause-too_many_pairs g c = λ n.
    let P : Result LayeringView InstanceFault → Type 0 =
    λ r. (r ≡ Err (TooManyPairs n)) ↔ (HasMemory r × AreTooManyPairs c.args.pattern.now n) in
    let gave : c.from_residual.result ≡ Err c.in_err-folded.field-0.0 = grind (arith, common_steps) in
    subst P (sym gave)
    (many_before_pairs c.args.pattern.now c.in_err-folded.field-0.0 n c.in_err-folded.ensures.exact
    c.in_err-folded.ensures.shape)

pub returns-clause-too_many_pairs : goal.returns-clause-too_many_pairs
returns-clause-too_many_pairs g c = λ n.
    many_of_shape c.args.pattern.now c.in_ok-folded.folded c.layering_of.result n c.in_ok-folded.ensures.exact
    c.in_ok-folded.ensures.shape (c.layering_of.ensures.too_many_pairs n)

pub returns-clause-inside : goal.returns-clause-inside
returns-clause-inside g c =
    insides_of_layers c.args.pattern.now c.in_ok-folded.folded c.layering_of.result c.in_ok-folded.ensures.inside
    c.layering_of.ensures.shape
