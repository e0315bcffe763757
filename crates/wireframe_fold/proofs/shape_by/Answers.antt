use Rattle.std.proofs.Common.{List, length, sym, ap, subst, arith}
use Rattle.std.specs.List.{All}
use Rattle.face_builder.specs.declared.shared.SharedPiece.{SharedPiece}
use Rattle.wireframe_fold.specs.Crease.{HasSharedEnds}
use Rattle.wireframe_fold.specs.Folding.{motions_of, IsClosedAt}
use Rattle.isometry_map.specs.declared.folded.FoldedFace.{FoldedFace}
use Rattle.wireframe_fold.specs.Lines.{HasFewCorners}
use Rattle.wireframe_fold.proofs.ConvexFaces.{folded_convex}
use Rattle.wireframe_fold.proofs.FoldedShapes.{corners_few, folded_each}
use Rattle.wireframe_fold.proofs.CreaseImages.{all_ends}
use Rattle.wireframe_fold.proofs.shape_by.Goals as goal

pub shared_images-requires-clause-images : goal.shared_images-requires-clause-images
shared_images-requires-clause-images c =
    let ts = motions_of c.args.motions.now in
    let P : List SharedPiece → Type 0 = λ ss. All (HasSharedEnds ts) ss in
    subst P (sym c.shared.ensures.value)
    (all_ends c.args.faces.now ts c.in_ok-folded.folded.items c.tell_places.ensures.rules c.in_ok-folded.ensures)

pub new-requires : goal.new-requires
new-requires c =
    folded_convex (motions_of c.args.motions.now) c.args.faces.now.faces c.in_ok-folded.folded.items
    c.in_ok-folded.ensures c.requires.folding.linear c.tell_places.ensures.rules.convex

pub count_lines-requires : goal.count_lines-requires
count_lines-requires c =
    let P : List FoldedFace → Type 0 = λ fs. All HasFewCorners fs in
    subst P (sym c.as_slice.ensures.value)
    (corners_few (motions_of c.args.motions.now) c.args.faces.now.faces c.in_ok-folded.folded.items
    c.in_ok-folded.ensures c.tell_places.ensures.rules.corners)

pub overflow_cast-result : goal.overflow_cast-result
overflow_cast-result c =
    omega (
      arith,
      c.in_ok-lines.ensures.few,
      ap (λ (fs : List FoldedFace). length fs) c.as_slice.ensures.value,
      folded_each (motions_of c.args.motions.now) c.args.faces.now.faces c.in_ok-folded.folded.items
          c.in_ok-folded.ensures,
      c.tell_places.ensures.rules.few,
    )

pub shared_images-requires-clause-closed : goal.shared_images-requires-clause-closed
shared_images-requires-clause-closed c =
    let P : List SharedPiece → Type 0 = λ ss. All (IsClosedAt (motions_of c.args.motions.now)) ss in
    subst P (sym c.shared.ensures.value) c.requires.folding.closed
