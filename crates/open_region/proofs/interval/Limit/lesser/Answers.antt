use Rattle.surd_number.specs.SignLaws.{IsLess-trans, IsLess-not_less_trans}
use Rattle.open_region.specs.EdgeView.{limit_of}
use Rattle.open_region.proofs.Steps.{not_told}
use Rattle.open_region.proofs.interval.Limit.lesser.Goals as goal

pub returns-then-is_below : goal.returns-then-is_below
returns-then-is_below c =
    λ y. let m = limit_of c.args.self in let n = limit_of c.args.other
    in ((λ h. (h, IsLess-trans y m n h (c.is_below.ensures.0 c.if-is_below.true))), λ h. h.0)

pub returns-else-is_below : goal.returns-else-is_below
returns-else-is_below c =
    λ y. let m = limit_of c.args.self in let n = limit_of c.args.other
    in (
      (λ h. (
        IsLess-not_less_trans y n m h
            (not_told c.is_below.result c.if-is_below.false c.is_below.ensures),
        h,
      )),
      λ h. h.1,
    )
