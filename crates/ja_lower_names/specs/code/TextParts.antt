-- What the code keeps for a part of a text.
use Rattle.ja_lower_names.specs.declared.text_order_parts.Named.{Named}
use Rattle.ja_lower_names.specs.declared.text_order_parts.Part.{Part}
use Rattle.ja_lower_names.specs.declared.text_order_parts.Part.TheVariants as part
use Rattle.ja_lower_names.specs.TextOrder as spec

abbrev pub named_of : Named → spec.Named
named_of n = record { text = n.text.now; variable = n.variable }

abbrev pub part_of : Part → spec.Part
part_of (part.Function function) = spec.a_function function.now
part_of (part.Name n) = spec.a_name (named_of n)
