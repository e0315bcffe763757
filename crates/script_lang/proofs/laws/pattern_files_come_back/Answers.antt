use Rattle.script_lang.proofs.Files.{pattern_files_come_back}
use Rattle.script_lang.proofs.laws.pattern_files_come_back.Goals as goal

pub returns : goal.returns
returns c =
    pattern_files_come_back c.lines_read_back.ensures c.patterns_are_parted_by_lines.ensures
    c.own_lines_are_loaded.ensures
