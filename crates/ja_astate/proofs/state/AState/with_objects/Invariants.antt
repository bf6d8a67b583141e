use Rattle.ja_astate.proofs.state.AState.with_objects.Given as goal

abbrev pub ghosts-make_two : goal.ghosts-make_two
ghosts-make_two a = record { name = a.blank.name; parts = a.blank.parts }
