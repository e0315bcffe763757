use Rattle.cp_text.proofs.PartedText.{words_are_parted_by_blanks}
use Rattle.cp_text.proofs.laws.words_are_parted_by_blanks.Goals as goal

pub returns : goal.returns
returns c = words_are_parted_by_blanks
