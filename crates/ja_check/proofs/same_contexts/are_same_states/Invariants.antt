-- The states of the nodes so far are the same.
use Rattle.std.proofs.Common.{◌≡◌, ◌<◌, ℕ}
use Rattle.ja_table.specs.Tables.{states_in}
use Rattle.ja_check.proofs.same_contexts.are_same_states.Given as goal

abbrev pub invariant-loop-node : goal.invariant-loop-node
invariant-loop-node l = (k : ℕ) → k < l.node
    → states_in l.own.nodes.items k ≡ states_in l.other.nodes.items k
