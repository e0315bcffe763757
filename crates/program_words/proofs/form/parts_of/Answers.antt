use Rattle.std.proofs.Common.{arith}
use Rattle.std.proofs.lemmas.Str.Pattern.{split_parts}
use Rattle.program_words.proofs.Parting.{parts_are}
use Rattle.program_words.proofs.form.parts_of.Goals as goal

pub returns : goal.returns
returns c =
    parts_are c.args.word.now c.split_once.result
    (split_parts 61 c.args.word.now c.split_once.result c.split_once.ensures.cases (omega arith))
