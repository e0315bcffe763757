-- The number that a stored triple stands for. Imported inside `impl` blocks, since it names the types.
use Rattle.surd_number.specs.declared.Surd.{Surd}
use Rattle.surd_number.specs.declared.Wide.{Wide}
use Rattle.surd_number.specs.declared.triple.Triple.{Triple}
use Rattle.surd_number.specs.Number.{Number}

abbrev pub number_of : Surd → Number
number_of s = record { a = s.a; b = s.b; k = s.k }

abbrev pub wide_number_of : Wide → Number
wide_number_of w = record { a = w.a; b = w.b; k = w.k }

abbrev pub triple_number_of : Triple → Number
triple_number_of x = record { a = x.a; b = x.b; k = x.k }
