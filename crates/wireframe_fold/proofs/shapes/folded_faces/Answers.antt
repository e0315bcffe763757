use Rattle.std.proofs.Common.{arith}
use Rattle.std.proofs.lemmas.Option.{MatchOption-at_none, MatchOption-at_some}
use Rattle.isometry_map.specs.declared.folded.FoldedFace.{FoldedFace}
use Rattle.isometry_map.specs.IsometryView.{motion_of}
use Rattle.wireframe_fold.specs.Shape.{HasPointOut, IsFoldedFace}
use Rattle.wireframe_fold.proofs.FaceLists.{faces_more, least_out}
use Rattle.wireframe_fold.proofs.shapes.folded_faces.Goals as goal

pub returns-in-None : goal.returns-in-None
returns-in-None c =
    let m = c.index-motions-i.result in
    let ps = c.corners_of.result.now in
    least_out c.args.motions.now c.args.faces.now.faces c.loop-i.i m ps c.loop-i.folded.items
    c.loop-i-test.true (omega (arith, c.requires.count))
    c.index-motions-i.is c.corners_of.ensures c.loop-i.invariant
    (MatchOption-at_none (HasPointOut (motion_of m) ps) (λ (f : FoldedFace). IsFoldedFace (motion_of m) ps f)
    c.in-None.is c.in_ok-shape.ensures)

pub loop-i-preserved : goal.loop-i-preserved
loop-i-preserved c =
    let m = c.index-motions-i.result in
    let ps = c.corners_of.result.now in
    faces_more c.args.motions.now c.args.faces.now.faces c.loop-i.i m ps c.in-Some.shape c.loop-i.folded.items
    c.push_face.new.folded.items
    c.loop-i-test.true (omega (arith, c.requires.count)) c.index-motions-i.is c.corners_of.ensures
    c.loop-i.invariant
    (MatchOption-at_some (HasPointOut (motion_of m) ps) (λ (f : FoldedFace). IsFoldedFace (motion_of m) ps f)
    c.in-Some.shape c.in-Some.is c.in_ok-shape.ensures)
    c.in_ok-push_face-in-Some.ensures
