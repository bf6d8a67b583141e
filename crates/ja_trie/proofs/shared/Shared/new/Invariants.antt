use Rattle.std.proofs.Common.{◌≡◌, ℕ, ◌+◌, ◌*◌, ◌^◌, ◌<◌, ◌≤◌, ◌⊎◌, replicate, ◌-◌}
use Rattle.ja_trie.proofs.shared.Shared.new.Given as goal

-- a root of some depth has the value at each place, made by a node a level, and with less depth it
-- had no room
abbrev pub invariant-loop-root : goal.invariant-loop-root
invariant-loop-root g l =
    (d : ℕ) × (l.width ≡ 8 ^ d) × (l.root.value ≡ replicate (8 * l.width) l.value.value)
    × ((d ≡ 0) ⊎ (l.width < l.length)) × (l.steps ≤ l.fn.steps + d + 1)

abbrev pub decreases-loop-root : goal.decreases-loop-root
decreases-loop-root g l = l.length - l.width
