use Rattle.std.proofs.Common.{◌≡◌, map, filter, drop, ◌++◌}
use Rattle.ja_value.specs.Labels.{label_at}
use Rattle.ja_value.proofs.LabelLemmas.{below}
use Rattle.ja_value.proofs.label_set.LabelSet.list.Given as goal

-- what is listed, and what is still to come, are all
abbrev pub invariant-loop-number : goal.invariant-loop-number
invariant-loop-number l =
    l.labels.items ++ map label_at (filter (below l.end) (drop l.number-index l.self.numbers))
    ≡ map label_at (filter (below l.end) l.self.numbers)
