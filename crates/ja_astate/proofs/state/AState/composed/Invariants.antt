use Rattle.ja_astate.proofs.state.AState.composed.Given as goal

abbrev pub ghosts-composed : goal.ghosts-composed
ghosts-composed a = record { name = a.blank.name; parts = a.blank.parts }
