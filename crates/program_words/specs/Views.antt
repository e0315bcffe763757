-- What the values of the code stand for.
use Rattle.std.specs.Prelude.{Option, option_map}
use Rattle.program_words.specs.declared.form.OptionValues.{OptionValues}
use Rattle.program_words.specs.declared.form.Begun.{Begun}
use Rattle.program_words.specs.declared.meaning.Accepted.{Accepted}
use Rattle.program_words.specs.ProgramWords.{Text, Values, Said}

abbrev pub values_by : OptionValues → Values
values_by v = record {
  cp = option_map (λ s. s.now) v.cp;
  workers = option_map (λ s. s.now) v.workers;
  sample = option_map (λ s. s.now) v.sample;
}

abbrev pub begun_by : Begun → Option Text × Values
begun_by b = (option_map (λ s. s.now) b.name, values_by b.values)

abbrev pub accepted_by : Accepted → Said
accepted_by a = record { cp = option_map (λ s. s.now) a.cp; workers = a.workers; sample = a.sample }
