use Rattle.ja_abstract.specs.AbstractState.{labels_of}
use Rattle.ja_value.specs.Value.{labels_in}
use Rattle.ja_astate.specs.code.Walks.{met_of}
use Rattle.ja_astate.proofs.Walking.{Walking, open_count}
use Rattle.ja_astate.proofs.reader.Reader.walk.Given as goal

abbrev pub invariant-rounds : goal.invariant-rounds
invariant-rounds g l =
    Walking (g.A.Asks.meets l.asker) (labels_of l.self.program.now) (labels_in l.start)
    (met_of l.met) l.members.items

abbrev pub decreases-rounds : goal.decreases-rounds
decreases-rounds g l =
    open_count (labels_in l.met.labels) l.members.items (labels_of l.self.program.now)
