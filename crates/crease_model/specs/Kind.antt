-- Kinds of lines.
use Rattle.std.specs.Prelude.{Bool, true, false}
use Rattle.crease_model.specs.declared.Kind.{Kind}
use Rattle.crease_model.specs.declared.Kind.TheVariants.{Edge, Mountain, Valley, Aux, Unassigned}

abbrev pub is_same_kind : Kind → Kind → Bool
is_same_kind Edge Edge = true
is_same_kind Mountain Mountain = true
is_same_kind Valley Valley = true
is_same_kind Aux Aux = true
is_same_kind Unassigned Unassigned = true
is_same_kind _ _ = false
