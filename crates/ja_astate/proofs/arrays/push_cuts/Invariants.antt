use Rattle.std.proofs.Common.{◌≡◌, ◌++◌, filter, map, take}
use Rattle.ja_abstract.specs.declared.abstraction.Key.{Key}
use Rattle.ja_abstract.specs.AbstractValue.{absent_property}
use Rattle.ja_abstract.specs.Keys.{index_of_key}
use Rattle.ja_abstract.specs.Writes.{joins_at, may_be_cut}
use Rattle.ja_aheap.specs.Objects.{writes_of}
use Rattle.ja_astate.proofs.arrays.push_cuts.Given as goal

abbrev pub invariant-loop-key : goal.invariant-loop-key
invariant-loop-key l =
    writes_of l.writes ≡ writes_of l.initial.writes
    ++ map (λ (k : Key). joins_at k absent_property)
    (filter (λ (k : Key). may_be_cut l.number (index_of_key l.reader.program.now k))
    (take l.key-index l.keys))
