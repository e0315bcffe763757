use Rattle.cp_text.proofs.Strips.{sample_line_is}
use Rattle.cp_text.proofs.samples.sample_line.Goals as goal

pub returns : goal.returns
returns c =
    sample_line_is c.args.n c.args.k c.kind_at.result c.strip_end.result c.line_across.result c.kind_at.ensures
    c.strip_end.ensures c.line_across.ensures
