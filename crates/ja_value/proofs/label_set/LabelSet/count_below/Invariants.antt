use Rattle.std.proofs.Common.{◌≡◌, ◌+◌, ◌≤◌, filter, length, drop}
use Rattle.ja_value.proofs.LabelLemmas.{below}
use Rattle.ja_value.proofs.label_set.LabelSet.count_below.Given as goal

-- what is counted, and what is still to come, are all
abbrev pub invariant-loop-number : goal.invariant-loop-number
invariant-loop-number l =
    record {
      counted : l.count + length (filter (below l.end) (drop l.number-index l.self.numbers))
          ≡ length (filter (below l.end) l.self.numbers);
      few : l.count ≤ l.number-index;
    }
