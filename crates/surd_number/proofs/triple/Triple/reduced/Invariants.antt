use Rattle.surd_number.specs.Number.{IsSame}
use Rattle.surd_number.proofs.triple.Triple.reduced.Given as goal

-- the number is the one that the loop began with
abbrev pub invariant-loop-k : goal.invariant-loop-k
invariant-loop-k l =
    IsSame (record { a = l.a; b = l.b; k = l.k })
    (record { a = l.initial.a; b = l.initial.b; k = l.initial.k })

abbrev pub decreases-loop-k : goal.decreases-loop-k
decreases-loop-k l = l.k
