use Rattle.std.proofs.Common.{take, drop}
use Rattle.std.specs.Bool.{IsTrue}
use Rattle.std.specs.List.{list_all}
use Rattle.isometry_map.specs.Folded.{is_convex_face}
use Rattle.layer_rules.specs.Insides.{AreInsides}
use Rattle.layer_rules.proofs.regions.regions_of.Given as goal

abbrev pub invariant-loop-face : goal.invariant-loop-face
invariant-loop-face l = record {
  found : AreInsides (take l.face-index l.faces) l.regions.items;
  left : IsTrue (list_all is_convex_face (drop l.face-index l.faces));
}
