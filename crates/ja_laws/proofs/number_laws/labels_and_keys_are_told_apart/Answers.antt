-- By their parts and numbers.
use Rattle.ja_laws.proofs.Numbers.{labels_told, keys_told}
use Rattle.ja_laws.proofs.number_laws.labels_and_keys_are_told_apart.Goals as goal

pub returns-clause-labels : goal.returns-clause-labels
returns-clause-labels c = labels_told

pub returns-clause-keys : goal.returns-clause-keys
returns-clause-keys c = keys_told
