use Rattle.std.proofs.Common.{◌+◌, ◌≤◌, length, ◌++◌, take, arith, Result, Ok, Err}
use Rattle.std.specs.Prelude.{OnErr}
use Rattle.std.proofs.lemmas.Grind.{common_steps}
use Rattle.std.proofs.KnownBytes.{Consumes-trans}
use Rattle.oriedita_io.proofs.reading.read_all.Goals as goal

OnErr-always : {T E P : Type 0} (r : Result T E) → P → OnErr r P
OnErr-always (Ok _) p = tt
OnErr-always (Err _) p = p

-- without memory, what came before and what came in this turn are lost
pub returns-in_err-extend_from_slice-in-Ok-clause-lost :
    goal.returns-in_err-extend_from_slice-in-Ok-clause-lost
returns-in_err-extend_from_slice-in-Ok-clause-lost g c =
    let read = c.in-Ok.ensures in
    let before = c.loop-chunk.invariant in
    let came = take c.in-Ok.count c.read.new.into in
    let lost = Consumes-trans _ _ _ _ _ before.bytes read.bytes.0 in
    let few : length (c.loop-chunk.bytes.items ++ came) ≤ c.args.most + 1 = grind (arith, common_steps) in
    OnErr-always c.from_residual.result (c.loop-chunk.bytes.items ++ came, few, lost)
