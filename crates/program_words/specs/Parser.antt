-- The command that clap parses the words by.
use Rattle.std.specs.Prelude.{List, Some, codes, true}
use Rattle.clap.specs.Words.{App, Row, Rule, first_of, new_app, new_rule, with_rule}
use Rattle.program_words.specs.ProgramWords.{Text, Values}

-- an option of this name, which takes one value
abbrev pub option_rule : Text → Rule
option_rule name = record (new_rule name) { long = Some name }

-- the program, with no flags of its own
abbrev pub program_app : App
program_app = record (new_app (codes "oriedita")) {
  top = record (new_app (codes "oriedita")).top {
    no_binary_name = true;
    disable_help_flag = true;
    disable_version_flag = true;
  };
}

-- the program with its three options
abbrev pub words_app : App
words_app = with_rule (with_rule (with_rule program_app
    (option_rule (codes "cp"))) (option_rule (codes "workers"))) (option_rule (codes "sample"))

-- the values that matches have of the options
abbrev pub matched_values : List Row → Values
matched_values rows = record {
  cp = first_of (codes "cp") rows;
  workers = first_of (codes "workers") rows;
  sample = first_of (codes "sample") rows;
}
