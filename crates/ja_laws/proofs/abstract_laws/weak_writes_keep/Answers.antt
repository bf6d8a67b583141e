-- Each write joins.
use Rattle.ja_laws.proofs.abstract_laws.weak_writes_keep.Goals as goal
use Rattle.ja_laws.proofs.PinnedStates.{definitions_keep, puts_keep}

pub returns : goal.returns
returns c = record {
  puts = λ w target keys v e. puts_keep w target keys v e;
  definitions = λ w target k q e. definitions_keep w target k q e;
}
