use Rattle.std.proofs.Common.{subst}
use Rattle.surd_number.specs.declared.Wide.{Wide}
use Rattle.surd_number.specs.Number.{IsSame}
use Rattle.surd_number.specs.NumberLaws.{IsSame-refl}
use Rattle.surd_number.specs.SurdLaws.{wide_is, compare_wides-equal}
use Rattle.surd_number.specs.Value.{wide_number_of}
use Rattle.surd_number.proofs.laws.wides_are_their_values.Goals as goal

pub returns-clause-equal : goal.returns-clause-equal
returns-clause-equal c =
    λ v w. (
      (λ e. subst (λ (z : Wide). IsSame (wide_number_of v) (wide_number_of z)) e
          (IsSame-refl (wide_number_of v))),
      λ same. wide_is v w same,
    )

pub returns-clause-tied : goal.returns-clause-tied
returns-clause-tied c = compare_wides-equal
