use Rattle.worked_board.proofs.boards.a_worker_in_a_thread.Given as goal

abbrev pub ghosts-owner_and_worker : goal.ghosts-owner_and_worker
ghosts-owner_and_worker _ a = record { name = a.blank.name; parts = a.blank.parts }
