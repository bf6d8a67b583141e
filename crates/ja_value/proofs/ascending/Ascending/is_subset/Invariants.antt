use Rattle.std.proofs.Common.{ℕ, IsTrue, drop}
use Rattle.ja_value.specs.Labels.{has}
use Rattle.ja_value.proofs.ascending.Ascending.is_subset.Given as goal

-- what is still to come decides
abbrev pub invariant-loop-number : goal.invariant-loop-number
invariant-loop-number l =
    ((q : ℕ) → IsTrue (has (drop l.number-index l.self) q) → IsTrue (has l.other q))
    → (q : ℕ) → IsTrue (has l.self q) → IsTrue (has l.other q)
