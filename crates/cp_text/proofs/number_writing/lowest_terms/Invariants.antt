use Rattle.std.proofs.Common.{◌≡◌, ◌^◌, ◌<◌, ◌≤◌}
use Rattle.cp_text.specs.NumberText.{fraction_digits}
use Rattle.cp_text.proofs.number_writing.lowest_terms.Given as goal

abbrev pub invariant-loop-places : goal.invariant-loop-places
invariant-loop-places l = record {
  digits : fraction_digits l.places l.part ≡ fraction_digits l.fn.places l.fn.part;
  below : l.part < 2 ^ l.places;
  few : l.places ≤ l.fn.places;
}

abbrev pub decreases-loop-places : goal.decreases-loop-places
decreases-loop-places l = l.places
