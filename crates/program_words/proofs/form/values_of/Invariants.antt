use Rattle.std.proofs.Common.{◌≡◌, None, map, drop, string_bytes}
use Rattle.program_words.specs.ProgramWords.{no_values, values_in}
use Rattle.program_words.specs.Views.{begun_by}
use Rattle.program_words.proofs.form.values_of.Given as goal

abbrev pub invariant-loop-word : goal.invariant-loop-word
invariant-loop-word l =
    values_in (map string_bytes (drop l.word-index l.words)) (begun_by l.state)
    ≡ values_in (map string_bytes l.words) (None, no_values)
