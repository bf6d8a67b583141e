-- The operations on two numbers.
use Rattle.std.specs.Prelude.{Bool, true, false, Result, Ok}
use Rattle.ja_graph.specs.declared.node.BinaryOp.{BinaryOp}
use Rattle.ja_graph.specs.declared.node.BinaryOp.TheVariants.{Sub, Mul, Div, Rem, Shl, Shr, Ushr, And, Or, Xor, LooseEq, LooseNe, StrictEq, StrictNe}
use Rattle.ja_prim.specs.declared.primitive.Num.{Num}
use Rattle.ja_prim.specs.declared.stop.Stop.{Stop}
use Rattle.ja_prim.specs.Arithmetic as arithmetic
use Rattle.ja_prim.specs.Bits as bits

-- those that take objects too
abbrev pub is_equality : BinaryOp → Bool
is_equality LooseEq = true
is_equality LooseNe = true
is_equality StrictEq = true
is_equality StrictNe = true
is_equality op = false

-- what an operation gives of the numbers of its operands: a sum, where it is none of these
abbrev pub number_operation : BinaryOp → Num → Num → Result Num Stop
number_operation Sub m n = arithmetic.sub m n
number_operation Mul m n = arithmetic.mul m n
number_operation Div m n = arithmetic.div m n
number_operation Rem m n = arithmetic.rem m n
number_operation Shl m n = Ok (bits.shl m n)
number_operation Shr m n = Ok (bits.shr m n)
number_operation Ushr m n = Ok (bits.ushr m n)
number_operation And m n = Ok (bits.and m n)
number_operation Or m n = Ok (bits.or m n)
number_operation Xor m n = Ok (bits.xor m n)
number_operation op m n = arithmetic.add m n
