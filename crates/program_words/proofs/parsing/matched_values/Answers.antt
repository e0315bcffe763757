use Rattle.std.proofs.Common.{rules, ◌≡◌, ◌∙◌, ap, codes, map, Some, string_bytes}
use Rattle.clap.specs.Words.{found_of, kind_of, rows_of}
use Rattle.clap.specs.declared.error.kind.ErrorKind.TheVariants.{OutOfMemory}
use Rattle.clap.proofs.WalkLemmas.{first_value-rows}
use Rattle.program_words.specs.Parser.{matched_values}
use Rattle.program_words.specs.Views.{values_by}
use Rattle.program_words.proofs.Matches.{parse_passes, values_matched}
use Rattle.program_words.proofs.parsing.matched_values.Goals as goal

pub returns-in_err-matches-clause-memory : goal.returns-in_err-matches-clause-memory
returns-in_err-matches-clause-memory c =
    let memory : kind_of c.in_err-matches.field-0.0 ≡ OutOfMemory =
    c.in_err-matches.ensures.passes (parse_passes _ (map string_bytes c.args.words.now) c.in_ok-command.ensures c.requires) in
    search rules

pub returns-clause-values : goal.returns-clause-values
returns-clause-values c =
    let found = found_of c.in_ok-matches.matches in
    let kept : values_by (record { cp = c.get_str.result; workers = c.get_str-2.result; sample = c.get_str-3.result })
    ≡ matched_values (rows_of found) =
    λ i. record {
      cp = (c.get_str.ensures ∙ first_value-rows found (codes "cp")) i;
      workers = (c.get_str-2.ensures ∙ first_value-rows found (codes "workers")) i;
      sample = (c.get_str-3.ensures ∙ first_value-rows found (codes "sample")) i;
    } in
    ap Some kept ∙ values_matched _ (map string_bytes c.args.words.now) c.in_ok-command.ensures c.requires
    c.in_ok-matches.matches c.in_ok-matches.ensures.matches
