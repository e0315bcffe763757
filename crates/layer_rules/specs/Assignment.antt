-- Assignments: each unassigned crease becomes a mountain or a valley, and the others stay what they are.
use Rattle.std.specs.Prelude.{◌≡◌, ◌⊎◌, List}
use Rattle.std.specs.List.{AllZip}
use Rattle.crease_model.specs.declared.Kind.{Kind}
use Rattle.crease_model.specs.declared.Kind.TheVariants.{Edge, Mountain, Valley, Aux, Unassigned}

-- what a crease of the first kind may become
abbrev pub IsAssigned : Kind → Kind → Type 0
IsAssigned Edge kind = kind ≡ Edge
IsAssigned Mountain kind = kind ≡ Mountain
IsAssigned Valley kind = kind ≡ Valley
IsAssigned Aux kind = kind ≡ Aux
IsAssigned Unassigned kind = (kind ≡ Mountain) ⊎ (kind ≡ Valley)

-- piece by piece
abbrev pub IsAssignment : List Kind → List Kind → Type 0
IsAssignment kinds assigned = AllZip IsAssigned kinds assigned
