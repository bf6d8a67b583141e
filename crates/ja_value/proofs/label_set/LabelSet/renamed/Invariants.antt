use Rattle.std.proofs.Common.{drop}
use Rattle.ja_value.specs.Labels.{mask_in}
use Rattle.ja_value.proofs.RenamingLemmas.{Renaming}
use Rattle.ja_value.proofs.label_set.LabelSet.renamed.Given as goal

abbrev pub invariant-loop-number : goal.invariant-loop-number
invariant-loop-number l =
    Renaming (mask_in l.masks) l.self.numbers (drop l.number-index l.self.numbers) l.numbers
