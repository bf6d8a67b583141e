use Rattle.ja_astate.proofs.state.AState.weakly.Given as goal

abbrev pub ghosts-weakly : goal.ghosts-weakly
ghosts-weakly a = record { name = a.blank.name; parts = a.blank.parts }
