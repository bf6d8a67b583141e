use Rattle.ja_syntax.proofs.SpellingLemmas.{same_marks, spelt_once, words_once, marks_once}
use Rattle.ja_syntax.proofs.laws.symbols_are_spelt.Goals as goal

pub returns-clause-marks : goal.returns-clause-marks
returns-clause-marks c = same_marks

pub returns-clause-once : goal.returns-clause-once
returns-clause-once c = spelt_once

pub returns-clause-words : goal.returns-clause-words
returns-clause-words c = words_once

pub returns-clause-distinct : goal.returns-clause-distinct
returns-clause-distinct c = marks_once
