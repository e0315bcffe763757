use Rattle.std.proofs.Common.{sym, subst}
use Rattle.face_builder.specs.declared.shared.SharedPiece.{SharedPiece}
use Rattle.wireframe_fold.specs.Crease.{HasSharedEnds}
use Rattle.wireframe_fold.specs.Folding.{motions_of, IsClosedAt}
use Rattle.wireframe_fold.proofs.CreaseImages.{shared_more}
use Rattle.wireframe_fold.proofs.creases.shared_images.Goals as goal

pub shared_image-requires-clause-closed : goal.shared_image-requires-clause-closed
shared_image-requires-clause-closed c =
    let P : SharedPiece → Type 0 = IsClosedAt (motions_of c.args.motions.now) in
    subst P (sym c.piece-item.is)
    (c.requires.closed c.loop-piece.piece-index c.piece-item.result c.loop-piece-test.true)

pub shared_image-requires-clause-images : goal.shared_image-requires-clause-images
shared_image-requires-clause-images c =
    let P : SharedPiece → Type 0 = HasSharedEnds (motions_of c.args.motions.now) in
    subst P (sym c.piece-item.is)
    (c.requires.images c.loop-piece.piece-index c.piece-item.result c.loop-piece-test.true)

pub loop-piece-preserved : goal.loop-piece-preserved
loop-piece-preserved c =
    shared_more (motions_of c.args.motions.now) c.args.shared.now c.loop-piece.piece-index c.piece-item.result
    c.shared_image.result c.loop-piece.images.items c.push.new.self.items c.loop-piece-test.true c.piece-item.is
    c.loop-piece.invariant c.shared_image.ensures c.in_ok-push.ensures.items
