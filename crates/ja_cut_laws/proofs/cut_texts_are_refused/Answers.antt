-- By the shapes of what the lexer finds.
use Rattle.ja_cut_laws.proofs.Refused.{cut_is_refused, spaces_change_nothing}
use Rattle.ja_cut_laws.proofs.cut_texts_are_refused.Goals as goal

pub returns-clause-cut : goal.returns-clause-cut
returns-clause-cut c = cut_is_refused

pub returns-clause-spaces : goal.returns-clause-spaces
returns-clause-spaces c = spaces_change_nothing
