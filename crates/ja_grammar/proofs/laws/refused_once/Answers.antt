use Rattle.ja_grammar.proofs.Theorem.{refused_once as once}
use Rattle.ja_grammar.proofs.laws.refused_once.Goals as goal

pub returns : goal.returns
returns c = λ text f g a b. once text f g a b
