use Rattle.std.proofs.Common.{List, take, ◌+◌, ◌++◌, ◌∷◌, [], ap, subst, sym, ◌∙◌}
use Rattle.std.proofs.Common.{arith}
use Rattle.std.proofs.lemmas.Grind.{common_steps}
use Rattle.std.proofs.lemmas.List.{take_more}
use Rattle.std.proofs.lemmas.Slice.Zip.{all_zipped_more}
use Rattle.open_region.specs.declared.Region.{Region}
use Rattle.isometry_map.specs.declared.folded.FoldedFace.{FoldedFace}
use Rattle.layer_rules.specs.Insides.{IsInsideOf, AreInsides}
use Rattle.layer_rules.proofs.regions.regions_of.Goals as goal

pub loop-face-preserved : goal.loop-face-preserved
loop-face-preserved c =
    let faces = c.args.faces.now in
    let i = c.loop-face.face-index in
    let face = c.face-item.result in
    let one_more = take_more faces i face c.loop-face-test.true
    ∙ ap (λ (f : FoldedFace). take i faces ++ f ∷ []) (sym c.face-item.is) in
    let grown = all_zipped_more IsInsideOf (take i faces) c.loop-face.regions.items face c.in_ok-inside.field-0
    c.loop-face.invariant.found c.in_ok-inside.ensures in
    record {
      found = subst (λ (l : List Region). AreInsides (take (i + 1) faces) l) (sym c.in_ok-push.ensures.items)
          (subst (λ (l : List FoldedFace). AreInsides l (c.loop-face.regions.items ++ c.in_ok-inside.field-0 ∷ []))
          (sym one_more) grown);
      left = grind (arith, common_steps);
    }
