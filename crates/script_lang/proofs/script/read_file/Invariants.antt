use Rattle.std.proofs.Common.{◌≡◌, ◌+◌, ◌≤◌, length}
use Rattle.cp_text.specs.Words.{bare_lines}
use Rattle.script_lang.specs.Script.{file_command}
use Rattle.script_lang.proofs.Files.{file_after}
use Rattle.script_lang.proofs.script.read_file.Given as goal

abbrev pub invariant-loop-line : goal.invariant-loop-line
invariant-loop-line l = record {
  command : file_after l.lines.items l.place (bare_lines l.rest) ≡ file_command l.bytes;
  counted : l.place + length (bare_lines l.rest) ≤ 4294967295;
}

abbrev pub decreases-loop-line : goal.decreases-loop-line
decreases-loop-line l = length (bare_lines l.rest)
