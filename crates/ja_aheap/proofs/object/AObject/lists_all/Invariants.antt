use Rattle.std.proofs.Common.{◌≡◌, ℕ, ◌<◌, None}
use Rattle.std.specs.Ordering.{nat_cmp}
use Rattle.std.specs.BTreeMap.{get}
use Rattle.ja_aheap.proofs.object.AObject.lists_all.Given as goal

-- one of the two lists each number so far
abbrev pub invariant-loop-number : goal.invariant-loop-number
invariant-loop-number l =
    (q : ℕ) → get nat_cmp l.self.listed q ≡ None → get nat_cmp l.other.listed q ≡ None
    → q < l.number-counter → ⊥
