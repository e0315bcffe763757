-- The orders of stored numbers: Surds by their values, Wides by their triples.
use Rattle.std.specs.declared.cmp.Ordering.{Ordering}
use Rattle.std.specs.Ordering.{ordering_then, int_cmp, nat_cmp}
use Rattle.surd_number.specs.declared.Surd.{Surd}
use Rattle.surd_number.specs.declared.Wide.{Wide}
use Rattle.surd_number.specs.Number.{Number, compare_of}
use Rattle.surd_number.specs.Value.{number_of, wide_number_of}

abbrev pub compare_surds : Surd → Surd → Ordering
compare_surds x y = compare_of (number_of x) (number_of y)

-- by a, then by b, then by k
abbrev pub compare_triples : Number → Number → Ordering
compare_triples x y = ordering_then (int_cmp x.a y.a) (ordering_then (int_cmp x.b y.b) (nat_cmp x.k y.k))

abbrev pub compare_wides : Wide → Wide → Ordering
compare_wides v w = compare_triples (wide_number_of v) (wide_number_of w)
