use Rattle.ja_cases.proofs.lists.lists.Given as goal

abbrev pub ghosts-forks : goal.ghosts-forks
ghosts-forks g = record { name = g.blank.name; parts = g.blank.parts }

abbrev pub ghosts-long_lists : goal.ghosts-long_lists
ghosts-long_lists g = record { name = g.blank.name; parts = g.blank.parts }
