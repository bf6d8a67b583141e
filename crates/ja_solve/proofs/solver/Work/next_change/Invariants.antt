-- No visit was added so far, and there are fewer items to be visited.
use Rattle.std.specs.BTreeMap.{btree_map_len}
use Rattle.ja_solve.specs.code.Sweeps.{GoesOn, HasBuilt, IsUnchanged}
use Rattle.ja_solve.proofs.solver.Work.next_change.Given as goal

abbrev pub invariant-turns : goal.invariant-turns
invariant-turns l = record {
  built : HasBuilt l.self;
  goes_on : GoesOn l.fn.self l.self;
  same : IsUnchanged l.fn.self l.self;
}

abbrev pub decreases-turns : goal.decreases-turns
decreases-turns l = btree_map_len l.self.agenda.queue.items
