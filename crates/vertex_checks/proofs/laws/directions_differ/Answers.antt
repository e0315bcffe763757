use Rattle.vertex_checks.proofs.FanLaws.{directions_differ}
use Rattle.vertex_checks.proofs.laws.directions_differ.Goals as goal

pub returns : goal.returns
returns c = directions_differ
