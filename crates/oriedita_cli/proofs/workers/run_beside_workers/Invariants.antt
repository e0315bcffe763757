use Rattle.oriedita_cli.proofs.workers.run_beside_workers.Given as goal

abbrev pub ghosts-run_over_board : goal.ghosts-run_over_board
ghosts-run_over_board _ a = record { name = a.blank.name; parts = a.blank.parts }
