use Rattle.std.proofs.Common.{◌≡◌, rules, to_z, of_z, w64}
use Rattle.cp_text.specs.Sample.{strip_end}
use Rattle.cp_text.proofs.Strips.{never_refused}
use Rattle.cp_text.proofs.samples.strip_end.Goals as goal

pub returns-in-Err : goal.returns-in-Err
returns-in-Err c =
    let over : to_z w64 (of_z w64 c.strip_end_over.result) ≡ (strip_end c.args.n c.args.k).a = search rules in
    absurd (never_refused c.args.n c.args.k (to_z w64 (of_z w64 c.strip_end_over.result)) c.requires.few c.requires.within over c.in-Err.ensures)
