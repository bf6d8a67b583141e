use Rattle.ja_run.proofs.Answering as answering
use Rattle.ja_run.proofs.laws.answers_fit.Goals as goal

pub returns : goal.returns
returns c = λ p good. answering.answers_fit p good
