use Rattle.std.proofs.Common.{refl}
use Rattle.open_region.proofs.Between.{number_between_limits, both_limits}
use Rattle.open_region.proofs.interval.Interval.has_number.Goals as goal

pub returns-in-None : goal.returns-in-None
returns-in-None c =
    let i = c.args.self.now in
    let w = number_between_limits i.lower i.upper (λ l u e f. absurd (cc (c.in-None.is)))
    in ((λ _. (w.0, (w.1, w.2, c.if-self.false))), λ _. refl)

pub returns-in-None-upper : goal.returns-in-None-upper
returns-in-None-upper c =
    let i = c.args.self.now in
    let w = number_between_limits i.lower i.upper (λ l u e f. absurd (cc (c.in-None-upper.is)))
    in ((λ _. (w.0, (w.1, w.2, c.if-self.false))), λ _. refl)

pub returns-in-Some-upper : goal.returns-in-Some-upper
returns-in-Some-upper c =
    let i = c.args.self.now in
    both_limits i.lower i.upper c.in-Some.lower c.in-Some-upper.upper i.closed c.is_below.result c.in-Some.is
    c.in-Some-upper.is c.if-self.false c.is_below.ensures
