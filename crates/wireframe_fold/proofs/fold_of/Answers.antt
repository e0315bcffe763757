use Rattle.std.proofs.Common.{List, subst}
use Rattle.isometry_map.specs.declared.isometries.Isometry.{Isometry}
use Rattle.face_builder.specs.declared.shared.SharedPiece.{SharedPiece}
use Rattle.wireframe_fold.specs.Folding.{motions_of, IsLeastOpen}
use Rattle.wireframe_fold.proofs.FoldedShapes.{folding_found, shape_answer}
use Rattle.wireframe_fold.proofs.fold_of.Goals as goal

pub returns-in-Some : goal.returns-in-Some
returns-in-Some c =
    let ms = c.in_ok-motions.motions.items in
    let P : List Isometry
    → Type 0 = λ ns. IsLeastOpen (motions_of ns) c.args.faces.now.shared c.in-Some.piece in
    let Q : List SharedPiece
    → Type 0 = λ ss. IsLeastOpen (motions_of c.as_slice.result.now) ss c.in-Some.piece in (
      motions_of ms,
      c.in_ok-motions.ensures.along,
      subst P c.as_slice.ensures.value (subst Q c.shared.ensures.value c.in-Some.ensures),
    )

pub shape_by-requires-clause-folding : goal.shape_by-requires-clause-folding
shape_by-requires-clause-folding c =
    folding_found c.args.faces.now c.in_ok-motions.motions.items c.as_slice-in-None.result.now c.as_slice.result.now
    c.shared.result.now c.as_slice-in-None.ensures.value c.as_slice.ensures.value c.shared.ensures.value
    c.in_ok-motions.ensures.along c.in-None.ensures

pub returns : goal.returns
returns c =
    shape_answer c.args.faces.now (motions_of c.as_slice-in-None.result.now) c.shape_by.result
    (folding_found c.args.faces.now c.in_ok-motions.motions.items c.as_slice-in-None.result.now c.as_slice.result.now
    c.shared.result.now c.as_slice-in-None.ensures.value c.as_slice.ensures.value c.shared.ensures.value
    c.in_ok-motions.ensures.along c.in-None.ensures) c.shape_by.ensures
