-- The parity of a taco-taco rule.
use Rattle.std.specs.Prelude.{Bool, not, nat_lt}
use Rattle.isometry_map.specs.declared.folded.CreaseImage.{CreaseImage}
use Rattle.sign_rules.specs.Rule.{is_same}

-- whether of an odd number of the four pairs the second crease's face is the lesser one
abbrev pub is_turned_oddly : CreaseImage → CreaseImage → Bool
is_turned_oddly c d =
    not (is_same (is_same (nat_lt c.a d.a) (nat_lt c.b d.a)) (is_same (nat_lt c.a d.b) (nat_lt c.b d.b)))
