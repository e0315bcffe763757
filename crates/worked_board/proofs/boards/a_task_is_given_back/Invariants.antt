use Rattle.worked_board.proofs.boards.a_task_is_given_back.Given as goal

abbrev pub ghosts-given_back : goal.ghosts-given_back
ghosts-given_back _ a = record { name = a.blank.name; parts = a.blank.parts }
