use Rattle.ja_files.proofs.Found.{end_found, inside_found, last_found, same_character}
use Rattle.ja_files.proofs.laws.characters_are_found.Goals as goal

pub returns-clause-same : goal.returns-clause-same
returns-clause-same c = same_character

pub returns-clause-found : goal.returns-clause-found
returns-clause-found c = λ before behind text n inside. inside_found before text behind n inside

pub returns-clause-ended : goal.returns-clause-ended
returns-clause-ended c = λ before behind text other. end_found before text behind other

pub returns-clause-last : goal.returns-clause-last
returns-clause-last c = last_found
