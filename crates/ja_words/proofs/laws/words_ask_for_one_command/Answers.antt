-- The matches of the words say one command.
use Rattle.ja_words.proofs.Given.{one_command}
use Rattle.ja_words.proofs.laws.words_ask_for_one_command.Goals as goal

pub returns : goal.returns
returns c = λ words a b p q. one_command words a b p q
