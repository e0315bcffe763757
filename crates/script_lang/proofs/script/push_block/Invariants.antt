use Rattle.std.proofs.Common.{◌≡◌, ◌+◌, ◌≤◌, true, length}
use Rattle.cp_text.specs.Words.{bare_lines}
use Rattle.script_lang.specs.Script.{block_of, commands_from}
use Rattle.script_lang.proofs.Blocks.{block_after}
use Rattle.script_lang.proofs.script.push_block.Given as goal

abbrev pub invariant-loop-line : goal.invariant-loop-line
invariant-loop-line l = record {
  command : block_after l.lines.items l.number (bare_lines l.rest) ≡ block_of (bare_lines l.text);
  behind : commands_from true (bare_lines l.rest) ≡ commands_from true (bare_lines l.text);
  untouched : l.list.items ≡ l.initial.list.items;
  lines : length (bare_lines l.rest) ≤ length (bare_lines l.text);
  counted : l.number + length (bare_lines l.rest) ≤ 4294967295;
}

abbrev pub decreases-loop-line : goal.decreases-loop-line
decreases-loop-line l = length (bare_lines l.rest)
