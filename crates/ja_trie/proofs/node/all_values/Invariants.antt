use Rattle.std.proofs.Common.{ℕ, ◌<◌, true, get_or, map}
use Rattle.ja_trie.specs.Test.{MaySay}
use Rattle.ja_trie.proofs.node.all_values.Given as goal

-- the places before `i` passed
abbrev pub invariant-loop-i : goal.invariant-loop-i
invariant-loop-i g l = (k : ℕ) → k < l.i → (d : _)
    → MaySay g.F.Fn l.test (get_or (map (λ x. x.value) l.values) k d)
    (get_or (map (λ x. x.value) l.others) k d) true
