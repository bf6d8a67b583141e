use Rattle.std.proofs.Common.{◌≡◌, take}
use Rattle.ja_abstract.specs.Keys.{text_keys}
use Rattle.ja_abstract.specs.Reading.{both, demands_of_own}
use Rattle.ja_aheap.specs.Objects.{demands_in}
use Rattle.ja_astate.specs.Looks.{view_of}
use Rattle.ja_astate.specs.code.Pairs.{demands_over}
use Rattle.ja_astate.proofs.reader.Reader.demand_texts.Given as goal

abbrev pub invariant-loop-label : goal.invariant-loop-label
invariant-loop-label l =
    demands_in l.demands ≡ both (demands_in l.initial.demands) (demands_over
    (take l.label-index l.labels)
    (λ m. demands_of_own (view_of l.self) m (text_keys l.self.program.now)))
