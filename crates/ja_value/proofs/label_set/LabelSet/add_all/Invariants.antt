use Rattle.std.proofs.Common.{drop}
use Rattle.ja_value.proofs.LabelLemmas.{Joining}
use Rattle.ja_value.proofs.label_set.LabelSet.add_all.Given as goal

abbrev pub invariant-loop-number : goal.invariant-loop-number
invariant-loop-number l =
    Joining l.initial.self.numbers l.other.numbers l.self.numbers (drop l.number-index l.other.numbers)
    l.changed
