-- What is made of one atom.
use Rattle.std.specs.Prelude.{Result, Ok, Err}
use Rattle.ja_prim.specs.declared.primitive.Num.{Num}
use Rattle.ja_prim.specs.declared.primitive.Primitive.TheVariants as primitive
use Rattle.ja_prim.specs.declared.stop.Stop.{Stop}
use Rattle.ja_prim.specs.Conversions.{to_number}
use Rattle.ja_prim.specs.Comparison.{to_primitive}
use Rattle.ja_prim.specs.Arithmetic as numbers
use Rattle.ja_prim.specs.Bits as bits
use Rattle.ja_abstract.specs.AbstractValue.{AbstractValue}
use Rattle.ja_abstract.specs.Primitives.{Atom, exactly, other_text, any_text, Abstracted, gives, gives_or_stops, exact, whole_value, to_bool_atom, to_num_atom, to_text_atom, index_or_whole, on_operand, of_operand}
use Rattle.ja_absprim.specs.declared.convert.Conversion.{Conversion}
use Rattle.ja_absprim.specs.declared.convert.Conversion.TheVariants as conversion

abbrev pub converted_by : Conversion → Atom → Abstracted
converted_by conversion.ToBool = to_bool_atom
converted_by conversion.ToNum = to_num_atom
converted_by conversion.ToText = to_text_atom
converted_by conversion.ToUint32 = index_or_whole
converted_by conversion.Neg = on_operand (of_operand numbers.neg)
converted_by conversion.Not = on_operand (of_operand bits.not)

abbrev pub turned : (Num → Num) → Result Num Stop → Result Num Stop
turned f (Ok n) = Ok (f n)
turned f (Err stop) = Err stop

-- an operation on the number of an atom, without its list of numbers: `texts` is what is given of a
-- text of which nothing is known
abbrev pub turned_by : (Num → Num) → AbstractValue → Atom → Abstracted
turned_by f texts (exactly q) = exact (to_primitive primitive.Number (turned f (to_number q)))
turned_by f texts other_text = gives_or_stops texts
turned_by f texts any_text = gives_or_stops texts
turned_by f texts a = gives whole_value
