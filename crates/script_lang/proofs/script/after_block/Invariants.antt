use Rattle.std.proofs.Common.{◌≡◌, ◌≤◌, true, length}
use Rattle.cp_text.specs.Words.{bare_lines}
use Rattle.script_lang.specs.Script.{commands_from}
use Rattle.script_lang.proofs.script.after_block.Given as goal

abbrev pub invariant-loop-passed : goal.invariant-loop-passed
invariant-loop-passed l = record {
  commands : commands_from true (bare_lines l.rest) ≡ commands_from true (bare_lines l.text);
  lines : length (bare_lines l.rest) ≤ length (bare_lines l.text);
}

abbrev pub decreases-loop-passed : goal.decreases-loop-passed
decreases-loop-passed l = length (bare_lines l.rest)
