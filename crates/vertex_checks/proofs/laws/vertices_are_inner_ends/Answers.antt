use Rattle.vertex_checks.proofs.VertexLaws.{vertices_are_inner_ends}
use Rattle.vertex_checks.proofs.laws.vertices_are_inner_ends.Goals as goal

pub returns : goal.returns
returns c = vertices_are_inner_ends
