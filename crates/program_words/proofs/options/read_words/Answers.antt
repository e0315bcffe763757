use Rattle.std.proofs.Common.{◌≡◌, ◌∙◌, refl, sym, ap, subst, Option, None, Some, option_map, map, string_bytes, IsSomeAnd, arith}
use Rattle.program_words.specs.ProgramWords.{Said, Says, said_of}
use Rattle.program_words.specs.Views.{accepted_by, values_by}
use Rattle.program_words.proofs.Accepted.{accepted_form, said_from}
use Rattle.program_words.proofs.options.read_words.Goals as goal

pub matched_values-requires : goal.matched_values-requires
matched_values-requires c = grind (arith, accepted_form)

pub returns-in_default-clause-refused : goal.returns-in_default-clause-refused
returns-in_default-clause-refused c =
    let refused : said_of (map string_bytes c.args.words.now) ≡ None =
    said_from (map string_bytes c.args.words.now) (values_by c.in_ok-values.values) c.in_ok-values.ensures.values
    ∙ sym c.meaning_of.ensures.exact ∙ ap (option_map accepted_by) c.in_default.is in
    (λ _. refused, λ _. refl)

pub returns-clause-said : goal.returns-clause-said
returns-clause-said c =
    let said : said_of (map string_bytes c.args.words.now) ≡ Some (accepted_by c.in-Some.accepted) =
    said_from (map string_bytes c.args.words.now) (values_by c.in_ok-values.values) c.in_ok-values.ensures.values
    ∙ sym c.meaning_of.ensures.exact ∙ ap (option_map accepted_by) c.in-Some.is in
    subst (λ (s : Option Said). IsSomeAnd s (Says c.in_ok-options.options)) (sym said) c.in_ok-options.ensures
