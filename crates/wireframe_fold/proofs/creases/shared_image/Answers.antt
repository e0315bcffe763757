use Rattle.std.proofs.Common.{◌^◌, lit≤, refl, sym, subst}
use Rattle.isometry_map.specs.IsometryView.{motion_of}
use Rattle.isometry_map.specs.Motion.{Motion}
use Rattle.isometry_map.specs.MotionLaws.{shift_more}
use Rattle.wireframe_fold.specs.Crease.{HasEndImages, IsCreaseImage}
use Rattle.wireframe_fold.specs.Folding.{motions_of}
use Rattle.wireframe_fold.proofs.CreaseImages.{by_other_face}
use Rattle.wireframe_fold.proofs.creases.shared_image.Goals as goal

pub folded_crease-requires-clause-within : goal.folded_crease-requires-clause-within
folded_crease-requires-clause-within c =
    shift_more (2 ^ 65) (2 ^ 72) (motion_of c.face_motion.result.now) (lit≤ tt)
    (c.face_motion.ensures.within (2 ^ 65) c.requires.within)

pub folded_crease-requires-clause-images : goal.folded_crease-requires-clause-images
folded_crease-requires-clause-images c =
    let P : Motion → Type 0 = λ t. HasEndImages t c.args.shared.now.segment in
    subst P (sym c.face_motion.ensures.value) c.requires.images

pub returns : goal.returns
returns c =
    let ts = motions_of c.args.motions.now in
    let s = c.args.shared.now in
    let image = c.folded_crease.result in
    let P : Motion → Type 0 = λ t. IsCreaseImage t s.segment image in
    let by_a = subst P c.face_motion.ensures.value c.folded_crease.ensures in
    record {
      piece = refl;
      a = refl;
      b = refl;
      by_a = by_a;
      by_b = by_other_face ts s image c.requires.closed by_a;
    }
