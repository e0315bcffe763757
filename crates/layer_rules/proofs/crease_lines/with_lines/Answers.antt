use Rattle.std.proofs.Common.{List, take, ◌+◌, ◌++◌, ◌∷◌, [], ap, subst, sym, ◌∙◌}
use Rattle.std.specs.List.{AllZip}
use Rattle.std.proofs.lemmas.List.{take_more}
use Rattle.std.proofs.lemmas.Slice.Zip.{all_zipped_more}
use Rattle.isometry_map.specs.declared.folded.CreaseImage.{CreaseImage}
use Rattle.layer_rules.specs.declared.crease_lines.LinedCrease.{LinedCrease}
use Rattle.layer_rules.specs.CreaseLines.{IsWithLine}
use Rattle.layer_rules.proofs.crease_lines.with_lines.Goals as goal

pub loop-crease-preserved : goal.loop-crease-preserved
loop-crease-preserved c =
    let creases = c.args.creases.now in
    let i = c.loop-crease.crease-index in
    let crease = c.crease-item.result in
    let one_more = take_more creases i crease c.loop-crease-test.true
    ∙ ap (λ (d : CreaseImage). take i creases ++ d ∷ []) (sym c.crease-item.is) in
    let grown = all_zipped_more IsWithLine (take i creases) c.loop-crease.lined.items crease c.with_line.result
    c.loop-crease.invariant c.with_line.ensures in
    subst (λ (l : List LinedCrease). AllZip IsWithLine (take (i + 1) creases) l) (sym c.in_ok-push.ensures.items)
    (subst (λ (l : List CreaseImage). AllZip IsWithLine l (c.loop-crease.lined.items ++ c.with_line.result ∷ []))
    (sym one_more) grown)
