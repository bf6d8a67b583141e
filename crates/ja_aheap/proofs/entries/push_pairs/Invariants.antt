use Rattle.std.proofs.Common.{◌≡◌, ◌++◌, map, take}
use Rattle.ja_abstract.specs.declared.abstraction.Key.{Key}
use Rattle.ja_aheap.proofs.entries.push_pairs.Given as goal

abbrev pub invariant-loop-key : goal.invariant-loop-key
invariant-loop-key l =
    l.pairs.items ≡ l.initial.pairs.items ++ map (λ (k : Key). (l.label, k))
    (take l.key-index l.keys)
