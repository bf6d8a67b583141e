-- A label of the program is one of its labels alone, as proved in LabelledOperators.
use Rattle.ja_meaning.proofs.operator_laws.labels_are_told.Goals as goal
use Rattle.ja_meaning.proofs.LabelledOperators.{equal_labels, told_by_label}

pub returns-clause-equality : goal.returns-clause-equality
returns-clause-equality c = equal_labels

pub returns-clause-one : goal.returns-clause-one
returns-clause-one c = told_by_label
