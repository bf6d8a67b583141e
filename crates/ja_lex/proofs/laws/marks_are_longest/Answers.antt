use Rattle.ja_lex.proofs.LongestMarks.{mark_taken, mark_none}
use Rattle.ja_lex.proofs.OtherElements.{from_mark}
use Rattle.ja_lex.proofs.laws.marks_are_longest.Goals as goal

pub returns-clause-taken : goal.returns-clause-taken
returns-clause-taken c = λ text m n h. mark_taken text m n (from_mark text m n h)

pub returns-clause-none : goal.returns-clause-none
returns-clause-none c = mark_none
