use Rattle.std.proofs.Common.{arith, rules}
use Rattle.std.proofs.lemmas.Nat.{pow_pos}
use Rattle.cp_text.proofs.Strips.{line_more, all_lines, line_count, lines_are_at_strip_ends}
use Rattle.cp_text.proofs.samples.sample.Goals as goal

pub loop-k-preserved : goal.loop-k-preserved
loop-k-preserved c =
    line_more c.args.n c.loop-k.k c.loop-k.lines.items c.push.new.self.items c.sample_line.result
    (search rules) c.in_ok-push.ensures.items c.sample_line.ensures c.loop-k.invariant

pub returns-clause-lines : goal.returns-clause-lines
returns-clause-lines c =
    all_lines c.args.n c.loop-k.k c.loop-k.lines.items
    (omega (arith, c.loop-k-test.false, c.loop-k.auto.k, c.strip_count-k-end.ensures.count, pow_pos c.args.n)) c.loop-k.invariant

pub returns-clause-count : goal.returns-clause-count
returns-clause-count c =
    omega (arith, c.loop-k.lines.ok.0, line_count c.args.n c.loop-k.lines.items (returns-clause-lines c))

pub returns-clause-places : goal.returns-clause-places
returns-clause-places c =
    lines_are_at_strip_ends c.args.n c.loop-k.lines.items c.requires.few
    (omega (arith, c.strip_count-k-end.ensures.count, c.strip_count-k-end.ensures.few)) (returns-clause-lines c)
