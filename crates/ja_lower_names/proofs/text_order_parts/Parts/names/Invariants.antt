use Rattle.std.proofs.Common.{◌≡◌, ◌++◌, map, drop}
use Rattle.std.specs.List.{flat_map}
use Rattle.ja_lower_names.specs.TextOrder.{if_name}
use Rattle.ja_lower_names.specs.code.TextParts.{named_of, part_of}
use Rattle.ja_lower_names.proofs.text_order_parts.Parts.names.Given as goal

abbrev pub invariant-loop-part : goal.invariant-loop-part
invariant-loop-part l =
    map named_of l.names.items ++ flat_map if_name (map part_of (drop l.part-index l.part-items))
    ≡ flat_map if_name (map part_of l.part-items)
