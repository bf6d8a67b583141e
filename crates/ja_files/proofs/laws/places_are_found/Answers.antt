use Rattle.ja_files.proofs.Found.{place_found}
use Rattle.ja_files.proofs.laws.places_are_found.Goals as goal

pub returns : goal.returns
returns c = λ before behind text n column one few. place_found before text behind n column one few
