use Rattle.std.proofs.Common.{◌≡◌, map, take}
use Rattle.ja_abstract.specs.Composed.{renamed_value}
use Rattle.ja_value.specs.declared.value.AValue.{AValue}
use Rattle.ja_value.specs.Value.{value_of}
use Rattle.ja_aheap.specs.Heap.{heap_of}
use Rattle.ja_astate.proofs.registers.renamed_values.Given as goal

abbrev pub invariant-loop-value : goal.invariant-loop-value
invariant-loop-value l =
    map value_of l.renamed.items
    ≡ map (λ (x : AValue). renamed_value (heap_of l.heap).mask (value_of x))
    (take l.value-index l.values)
