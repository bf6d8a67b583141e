-- The matches of the words hold one thing.
use Rattle.ja_lint_words.proofs.Whole.{one_thing}
use Rattle.ja_lint_words.proofs.laws.words_ask_for_one_thing.Goals as goal

pub returns : goal.returns
returns c = λ words a b p q. one_thing words a b p q
