use Rattle.std.proofs.Common.{subst}
use Rattle.surd_number.specs.declared.Surd.{Surd}
use Rattle.surd_number.specs.Number.{IsSame}
use Rattle.surd_number.specs.NumberLaws.{IsSame-refl}
use Rattle.surd_number.specs.SignLaws.{compare_of-equal}
use Rattle.surd_number.specs.SurdLaws.{surd_is}
use Rattle.surd_number.specs.Value.{number_of}
use Rattle.surd_number.proofs.laws.surds_are_their_values.Goals as goal

pub returns-clause-equal : goal.returns-clause-equal
returns-clause-equal c =
    λ x y. (
      (λ e. subst (λ (z : Surd). IsSame (number_of x) (number_of z)) e (IsSame-refl (number_of x))),
      λ same. surd_is x y same,
    )

pub returns-clause-tied : goal.returns-clause-tied
returns-clause-tied c = λ x y. compare_of-equal (number_of x) (number_of y)
