use Rattle.std.proofs.Common.{List, length, sym, ap, subst, arith}
use Rattle.std.specs.Prelude.{◌↔◌}
use Rattle.std.proofs.lemmas.Slice.Zip.{AllZip-long}
use Rattle.open_region.specs.declared.Region.{Region}
use Rattle.open_region.specs.Region.{IsInRegion}
use Rattle.isometry_map.specs.Folded.{FoldedView}
use Rattle.layer_rules.specs.Faces.{IsInside}
use Rattle.layer_rules.specs.Insides.{IsInsideOf, AreInsides}
use Rattle.layer_rules.proofs.InsideRegions.{inside_at}
use Rattle.layer_rules.proofs.regions.Insides.region.Goals as goal

pub region_of-requires-clause-last : goal.region_of-requires-clause-last
region_of-requires-clause-last c =
    omega (
      arith,
      c.requires.last,
      AllZip-long IsInsideOf c.self.inside.folded.faces c.self.inside.regions.items c.self.invariant,
      ap (λ (s : FoldedView). length s.faces) c.self.view_is,
      ap (λ (l : List Region). length l) c.as_slice.ensures.value,
    )

pub returns : goal.returns
returns c = λ p.
    let same =
    inside_at c.self.inside.folded c.as_slice.result.now c.args.face c.region_of.result.now
    (subst (λ (l : List Region). AreInsides c.self.inside.folded.faces l) (sym c.as_slice.ensures.value)
    c.self.invariant)
    c.requires.first c.region_of.ensures p in
    subst (λ (s : FoldedView). IsInRegion p c.region_of.result.now ↔ IsInside s c.args.face p) c.self.view_is same
