use Rattle.ja_run.proofs.Prefixes as prefixes
use Rattle.ja_run.proofs.laws.runs_are_prefixes.Goals as goal

pub returns : goal.returns
returns c = λ p. prefixes.are_prefixes p
