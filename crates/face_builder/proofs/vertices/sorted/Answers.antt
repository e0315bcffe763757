use Rattle.face_builder.proofs.Ordered.{sorted_points}
use Rattle.face_builder.proofs.vertices.sorted.Goals as goal

pub returns : goal.returns
returns c = sorted_points _ _ c.sort_unstable.ensures.permutation c.sort_unstable.ensures.sorted
