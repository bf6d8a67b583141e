use Rattle.ja_cert_read.proofs.objects.write_object.Given as goal

abbrev pub ghosts-replace : goal.ghosts-replace
ghosts-replace a = record { name = a.blank.name; parts = a.blank.parts }
