use Rattle.std.proofs.Common.{◌≡◌, ◌<◌, ◌++◌, false, IsTrue, length}
use Rattle.std.specs.List.{list_all}
use Rattle.cp_text.specs.Words.{bare_lines}
use Rattle.script_lang.specs.Script.{meets_condition, commands_from, commands_of}
use Rattle.script_lang.proofs.script.read_script_behind.Given as goal

-- the commands so far, and those of the lines that are left
abbrev pub invariant-loop-line : goal.invariant-loop-line
invariant-loop-line l = record {
  commands : l.list.items ++ commands_from false (bare_lines l.text) ≡ l.fn.first ++ commands_of l.bytes;
  condition : IsTrue (list_all meets_condition l.list.items);
  lines : length (bare_lines l.text) < 4294967295;
}

abbrev pub decreases-loop-line : goal.decreases-loop-line
decreases-loop-line l = length (bare_lines l.text)
