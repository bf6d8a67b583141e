use Rattle.ja_value.proofs.AscendingLemmas.{sorted-nil}
use Rattle.ja_value.proofs.ascending.Ascending.new.Goals as goal

pub invariant_of-result : goal.invariant_of-result
invariant_of-result c = sorted-nil _ c.new.ensures.items
