use Rattle.ja_astate.proofs.state.AState.strongly.Given as goal

abbrev pub ghosts-strongly : goal.ghosts-strongly
ghosts-strongly a = record { name = a.blank.name; parts = a.blank.parts }
