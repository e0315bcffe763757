use Rattle.bench_board.proofs.main.Given as goal

abbrev pub ghosts-run : goal.ghosts-run
ghosts-run _ a = record { name = a.blank.name; parts = a.blank.parts }
