-- What accepted words say, by their values.
use Rattle.std.proofs.Common.{◌≡◌, true, is_some, refl, sym, ap, List, Option, None, Some, option_and_then}
use Rattle.program_words.specs.ProgramWords.{Text, Values, meaning_of, said_of, values_of}

pub accepted_form : (words : List Text) → is_some (said_of words) ≡ true → is_some (values_of words) ≡ true
unfolding said_of
accepted_form words e = go (values_of words) e
  where
    go : (found : Option Values) → is_some (option_and_then meaning_of found) ≡ true → is_some found ≡ true
    go None e = e
    go (Some v) e = refl

pub said_from : (words : List Text) (v : Values) → Some v ≡ values_of words → said_of words ≡ meaning_of v
unfolding said_of
said_from words v e = ap (option_and_then meaning_of) (sym e)
