use Rattle.ja_astate.proofs.state.AState.join.Given as goal

abbrev pub ghosts-join : goal.ghosts-join
ghosts-join a = record { name = a.blank.name; parts = a.blank.parts }
