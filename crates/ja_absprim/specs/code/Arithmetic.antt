-- The operations on two numbers, and what they give of two classes.
use Rattle.std.specs.Prelude.{Result}
use Rattle.ja_prim.specs.declared.primitive.Num.{Num}
use Rattle.ja_prim.specs.declared.stop.Stop.{Stop}
use Rattle.ja_prim.specs.Arithmetic as numbers
use Rattle.ja_prim.specs.Bits as bits
use Rattle.ja_abstract.specs.AbstractValue.{join}
use Rattle.ja_abstract.specs.Primitives.{Abstracted, gives, gives_or_stops, whole_value, nan_value}
use Rattle.ja_absprim.specs.declared.arithmetic.Arithmetic.{Arithmetic}
use Rattle.ja_absprim.specs.declared.arithmetic.Arithmetic.TheVariants as op
use Rattle.ja_absprim.specs.declared.arithmetic.Bits.{Bits}
use Rattle.ja_absprim.specs.declared.arithmetic.Bits.TheVariants as bit

abbrev pub numbers_of : Arithmetic → Num → Num → Result Num Stop
numbers_of op.Add = numbers.add
numbers_of op.Sub = numbers.sub
numbers_of op.Mul = numbers.mul
numbers_of op.Div = numbers.div
numbers_of op.Rem = numbers.rem

abbrev pub class_of : Arithmetic → Abstracted
class_of op.Add = gives_or_stops whole_value
class_of op.Sub = gives_or_stops whole_value
class_of op.Mul = gives_or_stops whole_value
class_of op.Div = gives_or_stops (join nan_value whole_value)
class_of op.Rem = gives (join nan_value whole_value)

abbrev pub bits_of : Bits → Num → Num → Num
bits_of bit.Shl = bits.shl
bits_of bit.Shr = bits.shr
bits_of bit.Ushr = bits.ushr
bits_of bit.And = bits.and
bits_of bit.Or = bits.or
bits_of bit.Xor = bits.xor
