use Rattle.std.proofs.Common.{◌≡◌, ◌++◌, map, drop}
use Rattle.std.specs.List.{flat_map}
use Rattle.ja_lower_names.specs.TextOrder.{if_function}
use Rattle.ja_lower_names.specs.code.TextParts.{part_of}
use Rattle.ja_lower_names.proofs.text_order_parts.Parts.functions.Given as goal

abbrev pub invariant-loop-part : goal.invariant-loop-part
invariant-loop-part l =
    map (λ f. f.now) l.functions.items ++ flat_map if_function
    (map part_of (drop l.part-index l.part-items)) ≡ flat_map if_function (map part_of l.part-items)
