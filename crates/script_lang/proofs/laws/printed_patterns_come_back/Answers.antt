use Rattle.script_lang.proofs.Returning.{printed_patterns_come_back}
use Rattle.script_lang.proofs.laws.printed_patterns_come_back.Goals as goal

pub returns : goal.returns
returns c = printed_patterns_come_back c.printed_patterns_are_loaded.ensures c.own_lines_are_loaded.ensures
