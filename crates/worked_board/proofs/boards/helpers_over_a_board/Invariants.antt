use Rattle.worked_board.proofs.boards.helpers_over_a_board.Given as goal

abbrev pub ghosts-two_seats : goal.ghosts-two_seats
ghosts-two_seats _ a = record { name = a.blank.name; parts = a.blank.parts }
