use Rattle.std.proofs.Common.{arith}
use Rattle.plane_geometry.proofs.Meets.{point_on_both, no_point, where_no_point, no_point_turned, on_turned}
use Rattle.plane_geometry.proofs.meeting.meet.Goals as goal

pub returns-then-l-m-clause-point : goal.returns-then-l-m-clause-point
returns-then-l-m-clause-point c =
    point_on_both c.args.l.now c.args.m.now c.if-l-m.true c.meet_later.result c.meet_later.ensures

pub returns-then-l-m-clause-out_of_range : goal.returns-then-l-m-clause-out_of_range
returns-then-l-m-clause-out_of_range c =
    let l = c.args.l.now in
    let m = c.args.m.now in
    let less = c.if-l-m.true in
    let r = c.meet_later.result in (
      (λ e. ((λ same. omega arith), no_point l m less r c.meet_later.ensures e)),
      λ w. where_no_point l m less r c.meet_later.ensures w.1,
    )

pub returns-then-m-l-clause-point : goal.returns-then-m-l-clause-point
returns-then-m-l-clause-point c =
    let l = c.args.l.now in
    let m = c.args.m.now in
    on_turned m l c.meet_later-then-m-l.result
    (point_on_both m l c.if-m-l.true c.meet_later-then-m-l.result c.meet_later-then-m-l.ensures)

pub returns-then-m-l-clause-out_of_range : goal.returns-then-m-l-clause-out_of_range
returns-then-m-l-clause-out_of_range c =
    let l = c.args.l.now in
    let m = c.args.m.now in
    let less = c.if-m-l.true in
    let r = c.meet_later-then-m-l.result in
    let h = c.meet_later-then-m-l.ensures in (
      (λ e. ((λ same. omega arith), no_point_turned m l (no_point m l less r h e))),
      λ w. where_no_point m l less r h (no_point_turned l m w.1),
    )
