use Rattle.std.proofs.Common.{IsTrue, sym, subst}
use Rattle.cp_text.specs.Words.{words_of}
use Rattle.script_lang.specs.declared.command.Command.{Command}
use Rattle.script_lang.specs.Script.{meets_condition}
use Rattle.script_lang.proofs.Conditions.{word_meets}
use Rattle.script_lang.proofs.judging.judge_line.Goals as goal

pub returns-clause-condition : goal.returns-clause-condition
returns-clause-condition c =
    let Meets : Command → Type 0 = λ command. IsTrue (meets_condition command) in
    subst Meets (sym c.in_ok-command.ensures) (word_meets c.args.word.now (words_of c.args.words.now))
