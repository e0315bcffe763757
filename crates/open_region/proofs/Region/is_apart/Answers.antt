use Rattle.std.proofs.Common.{inl, inr, ◌⊎◌, arith}
use Rattle.open_region.specs.Region.{LeaveNothing}
use Rattle.open_region.proofs.Apart.{no_common_point}
use Rattle.open_region.proofs.Region.is_apart.Goals as goal
use Rattle.open_region.proofs.Region.is_apart.Goals.{then-leaves_nothing-via-then-leaves_nothing, then-leaves_nothing-via-else-leaves_nothing+then-leaves_nothing-2}

pub returns-then-leaves_nothing-clause-apart : goal.returns-then-leaves_nothing-clause-apart
returns-then-leaves_nothing-clause-apart c =
    let r = c.args.self.now in
    let s = c.args.other.now in
    let n = c.loop-n.n in
    let lines : LeaveNothing r s n ⊎ LeaveNothing s r n =
    elim c.then-leaves_nothing.branch [
      | then-leaves_nothing-via-then-leaves_nothing w ↦ inl (c.leaves_nothing.ensures.0 w.if-leaves_nothing.true)
      | then-leaves_nothing-via-else-leaves_nothing+then-leaves_nothing-2 w ↦
          inr (w.leaves_nothing-else-leaves_nothing.ensures.0 w.if-leaves_nothing-2.true)
    ] in
    λ yes q inside within. no_common_point r s q (n, omega arith, lines) inside within
