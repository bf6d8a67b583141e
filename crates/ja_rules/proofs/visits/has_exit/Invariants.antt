-- No node so far is an exit with a state.
use Rattle.std.proofs.Common.{◌≡◌, ◌<◌, ℕ, false}
use Rattle.ja_rules.specs.code.Exits.{is_left}
use Rattle.ja_rules.proofs.visits.has_exit.Given as goal

abbrev pub invariant-loop-node : goal.invariant-loop-node
invariant-loop-node l = (k : ℕ) → k < l.node → is_left l.program l.callee k ≡ false
