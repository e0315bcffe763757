use Rattle.worked_board.proofs.boards.workers_that_wait_are_woken.Given as goal

abbrev pub ghosts-owner_and_two_workers : goal.ghosts-owner_and_two_workers
ghosts-owner_and_two_workers _ a = record { name = a.blank.name; parts = a.blank.parts }
