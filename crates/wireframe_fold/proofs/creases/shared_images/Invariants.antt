use Rattle.std.proofs.Common.{take}
use Rattle.wireframe_fold.specs.Crease.{AreSharedImages}
use Rattle.wireframe_fold.specs.Folding.{motions_of}
use Rattle.wireframe_fold.proofs.creases.shared_images.Given as goal

abbrev pub invariant-loop-piece : goal.invariant-loop-piece
invariant-loop-piece l = AreSharedImages (motions_of l.motions) (take l.piece-index l.shared) l.images.items
