use Rattle.std.proofs.Common.{sym, ◌∙◌}
use Rattle.plane_geometry.specs.OrderLaws.{tied_points}
use Rattle.crease_model.specs.PartLaws.{no_segment}
use Rattle.line_split.proofs.Between.{before_turned}
use Rattle.line_split.proofs.parting.part_between.Goals as goal

pub part-requires-in-Greater-clause-order : goal.part-requires-in-Greater-clause-order
part-requires-in-Greater-clause-order c =
    before_turned c.args.p.now c.args.q.now (sym c.cmp.ensures ∙ c.in-Greater.is)

pub returns-in-Equal : goal.returns-in-Equal
returns-in-Equal c =
    let p = c.args.p.now in
    let q = c.args.q.now in
    sym (no_segment p q (tied_points p q (sym c.cmp.ensures ∙ c.in-Equal.is)))
