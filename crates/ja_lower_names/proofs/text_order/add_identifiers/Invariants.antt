use Rattle.std.proofs.Common.{◌≡◌, ◌++◌, drop}
use Rattle.std.specs.List.{flat_map}
use Rattle.ja_lower_names.specs.TextOrder.{in_name}
use Rattle.ja_lower_names.proofs.text_order.add_identifiers.Given as goal

abbrev pub invariant-loop-name : goal.invariant-loop-name
invariant-loop-name l =
    l.parts ++ flat_map in_name (drop l.name-index l.names) ≡ l.initial.parts
    ++ flat_map in_name l.names
