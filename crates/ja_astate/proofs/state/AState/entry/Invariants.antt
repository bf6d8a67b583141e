use Rattle.ja_astate.proofs.state.AState.entry.Given as goal

abbrev pub ghosts-entry : goal.ghosts-entry
ghosts-entry a = record { name = a.blank.name; parts = a.blank.parts }
