use Rattle.worked_board.proofs.boards.one_seat_makes_eight_events.Given as goal

abbrev pub ghosts-one_seat : goal.ghosts-one_seat
ghosts-one_seat _ a = record { name = a.blank.name; parts = a.blank.parts }
