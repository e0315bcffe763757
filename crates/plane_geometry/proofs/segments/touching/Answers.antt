use Rattle.std.proofs.Common.{sym}
use Rattle.plane_geometry.specs.SegmentView.{stretch_of}
use Rattle.plane_geometry.specs.CommonPointLaws.{apart_untouched}
use Rattle.plane_geometry.proofs.segments.touching.Goals as goal

pub returns-then-apart : goal.returns-then-apart
returns-then-apart c =
    sym (apart_untouched (stretch_of c.args.s.now)
    (stretch_of c.args.u.now) c.args.s.now.stretch c.args.u.now.stretch (sym c.if-apart.ensures))
