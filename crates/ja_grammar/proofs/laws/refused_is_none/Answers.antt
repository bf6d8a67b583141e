use Rattle.ja_grammar.proofs.Theorem.{refused_none}
use Rattle.ja_grammar.proofs.laws.refused_is_none.Goals as goal

pub returns : goal.returns
returns c = λ text f refused xs spelled. refused_none text f refused xs spelled
