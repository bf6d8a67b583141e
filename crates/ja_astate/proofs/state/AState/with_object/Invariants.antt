use Rattle.ja_astate.proofs.state.AState.with_object.Given as goal

abbrev pub ghosts-make : goal.ghosts-make
ghosts-make a = record { name = a.blank.name; parts = a.blank.parts }
