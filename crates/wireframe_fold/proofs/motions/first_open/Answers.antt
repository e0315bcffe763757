use Rattle.std.proofs.Common.{◌∙◌, List, sym, ap, subst, Some, refl}
use Rattle.std.specs.List.{All}
use Rattle.std.proofs.lemmas.Bool.{false≢true}
use Rattle.std.proofs.lemmas.List.{take_all}
use Rattle.std.proofs.lemmas.List.Elements.{All-more}
use Rattle.std.proofs.lemmas.Option.{slice_get-get_or}
use Rattle.face_builder.specs.declared.shared.SharedPiece.{SharedPiece}
use Rattle.wireframe_fold.specs.Folding.{motions_of, IsClosedAt}
use Rattle.wireframe_fold.proofs.motions.first_open.Goals as goal

pub returns-then-not-is_closed : goal.returns-then-not-is_closed
returns-then-not-is_closed c =
    let shared = c.args.shared.now in
    let i = c.loop-piece.piece-index in
    let s = c.piece-item.result in (
      i,
      s,
      slice_get-get_or shared i s c.loop-piece-test.true ∙ ap Some (sym c.piece-item.is),
      (λ closed. false≢true (sym c.if-not-is_closed.true ∙ c.is_closed.ensures.1 closed)),
      refl,
      c.loop-piece.invariant,
    )

pub loop-piece-preserved : goal.loop-piece-preserved
loop-piece-preserved c =
    let P : SharedPiece → Type 0 = IsClosedAt (motions_of c.args.motions.now) in
    let s = c.piece-item.result in
    All-more P c.args.shared.now c.loop-piece.piece-index s c.loop-piece-test.true c.loop-piece.invariant
    (subst P c.piece-item.is (c.is_closed.ensures.0 c.if-not-is_closed.false))

pub returns : goal.returns
returns c =
    let P : List SharedPiece → Type 0 = All (IsClosedAt (motions_of c.args.motions.now)) in
    subst P (take_all c.loop-piece.piece-index c.args.shared.now c.loop-piece-test.false)
    c.loop-piece.invariant
