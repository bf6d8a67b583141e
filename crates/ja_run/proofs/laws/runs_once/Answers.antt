use Rattle.ja_run.proofs.Prefixes as prefixes
use Rattle.ja_run.proofs.laws.runs_once.Goals as goal

pub returns : goal.returns
returns c = λ p. prefixes.runs_once p
