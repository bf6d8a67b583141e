-- What the nodes so far give back.
use Rattle.std.proofs.Common.{◌≡◌}
use Rattle.std.specs.List.{flat_map, range_with_len}
use Rattle.ja_transfer.specs.Outcomes.{given_of}
use Rattle.ja_flow.specs.Flow.{AllFit}
use Rattle.ja_rules.specs.code.Exits.{given_at}
use Rattle.ja_rules.proofs.visits.all_given.Given as goal

abbrev pub invariant-loop-node : goal.invariant-loop-node
invariant-loop-node l = record {
  given : given_of l.states
      ≡ flat_map (given_at l.caller l.callee) (range_with_len 0 l.node);
  fit : AllFit l.caller l.states;
}
