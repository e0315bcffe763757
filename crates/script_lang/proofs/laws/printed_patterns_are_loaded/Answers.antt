use Rattle.script_lang.proofs.Printed.{printed_patterns_are_loaded}
use Rattle.script_lang.proofs.laws.printed_patterns_are_loaded.Goals as goal

pub returns : goal.returns
returns c = printed_patterns_are_loaded c.lines_read_back.ensures c.patterns_are_parted_by_lines.ensures
