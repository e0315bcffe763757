use Rattle.worked_board.proofs.boards.every_answer_of_the_board.Given as goal

abbrev pub ghosts-answers : goal.ghosts-answers
ghosts-answers _ a = record { name = a.blank.name; parts = a.blank.parts }
