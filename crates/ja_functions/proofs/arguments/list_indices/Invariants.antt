use Rattle.std.proofs.Common.{◌≡◌, ◌++◌, Some, map, take}
use Rattle.ja_abstract.specs.Keys.{index_keys}
use Rattle.ja_aheap.specs.Objects.{listed_of}
use Rattle.ja_transfer.specs.Outcomes.{at_view}
use Rattle.ja_functions.specs.code.Aged.{aged_at, index_properties}
use Rattle.ja_functions.proofs.arguments.list_indices.Given as goal

abbrev pub invariant-loop-key : goal.invariant-loop-key
invariant-loop-key l =
    let p = l.stepper.reader.program.now in
    map listed_of l.listed.items ≡ map listed_of l.initial.listed.items ++ index_properties p
    l.stepper.context.function (aged_at (at_view l.stepper).state l.site (Some l.list))
    (take l.key-index (index_keys p))
