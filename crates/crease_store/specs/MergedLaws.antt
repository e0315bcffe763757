-- What loose vertices and merged patterns are.
use Rattle.std.specs.Prelude.{◌≡◌, ◌↔◌, IsTrue}
use Rattle.plane_geometry.specs.declared.Point.{Point}
use Rattle.crease_model.specs.Rules.{IsPattern}
use Rattle.crease_model.specs.View.{PatternView}
use Rattle.crease_store.specs.Merged.{is_loose, IsLoose, IsMerged}

-- exactly two pieces end at a loose vertex, in opposite directions and of one kind
abbrev pub LooseIsTwo : Type 0
LooseIsTwo =
    (pattern : PatternView) (v : Point)
    → IsPattern pattern
    → IsTrue (is_loose pattern.pieces v) ↔ IsLoose pattern.pieces v

-- there is one pattern at most that is another merged
abbrev pub MergedIsOne : Type 0
MergedIsOne = (old new other : PatternView) → IsMerged old new → IsMerged old other → new ≡ other
