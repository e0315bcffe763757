use Rattle.std.proofs.Common.{subst}
use Rattle.isometry_map.specs.Motion.{Motion, IsComposition}
use Rattle.isometry_map.specs.IsometryView.{motion_of}
use Rattle.wireframe_fold.specs.Folding.{mirror_in}
use Rattle.wireframe_fold.proofs.motions.step_motion.Goals as goal

pub returns-clause-value : goal.returns-clause-value
returns-clause-value c =
    let piece = c.piece_at-piece.result.now in
    let P : Motion → Type 0 = λ t. IsComposition (motion_of c.across.result) t (mirror_in piece.segment) in
    record {
      piece = piece;
      there = c.piece_at-piece.ensures;
      across = record { composed = subst P c.face_motion.ensures.value c.across.ensures.across };
    }

pub returns-clause-within : goal.returns-clause-within
returns-clause-within c = λ most few. c.across.ensures.within most (c.face_motion.ensures.within most few)
