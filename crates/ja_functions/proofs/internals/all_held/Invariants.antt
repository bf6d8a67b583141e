use Rattle.std.proofs.Common.{◌≡◌}
use Rattle.ja_abstract.specs.AbstractValue.{no_value}
use Rattle.ja_astate.specs.Looks.{view_of}
use Rattle.ja_value.specs.Value.{value_of}
use Rattle.ja_functions.specs.code.Told.{held}
use Rattle.ja_functions.proofs.Labels.{values_onto}
use Rattle.ja_functions.proofs.internals.all_held.Given as goal

abbrev pub invariant-loop-label : goal.invariant-loop-label
invariant-loop-label l =
    let of_label = held (view_of l.reader) in
    values_onto of_label (value_of l.sum) l.label-iterator.iter.rest.now
    ≡ values_onto of_label no_value l.members
