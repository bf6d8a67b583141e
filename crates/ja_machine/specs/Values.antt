-- Operations on values (ES3 9, 11.4 to 11.10): those on primitives, and what they come to on
-- objects.
use Rattle.std.specs.Prelude.{ℕ, Bool, true, false, not, if◌then◌else◌, nat_le, unsigned_abs, List, Option, Some, None, Result, Ok}
use lib.Chars.{codes}
use Rattle.ja_base.specs.declared.ids.ScopeKind.{ScopeKind}
use Rattle.ja_base.specs.declared.ids.ScopeKind.TheVariants as scope_kind
use Rattle.ja_graph.specs.declared.program.Class.{Class}
use Rattle.ja_graph.specs.declared.program.Class.TheVariants as class
use Rattle.ja_graph.specs.declared.node.UnaryOp.{UnaryOp}
use Rattle.ja_graph.specs.declared.node.UnaryOp.TheVariants as unary_op
use Rattle.ja_graph.specs.declared.node.BinaryOp.{BinaryOp}
use Rattle.ja_graph.specs.declared.node.BinaryOp.TheVariants as binary_op
use Rattle.ja_prim.specs.declared.primitive.Num.{Num}
use Rattle.ja_prim.specs.declared.primitive.Num.TheVariants.{NaN, Whole}
use Rattle.ja_prim.specs.declared.primitive.Primitive.{Primitive}
use Rattle.ja_prim.specs.declared.primitive.Primitive.TheVariants as primitive
use Rattle.ja_prim.specs.declared.stop.Stop.{Stop}
use Rattle.ja_prim.specs.declared.stop.Stop.TheVariants as stops
use Rattle.ja_prim.specs.Arithmetic as arithmetic
use Rattle.ja_prim.specs.Bits as bits
use Rattle.ja_prim.specs.Comparison.{add, less, loose_equal, strict_equal, of_both, to_primitive}
use Rattle.ja_prim.specs.Conversions.{to_bool, to_number, to_text}
use Rattle.ja_prim.specs.Judged.{max_magnitude}
use Rattle.ja_machine.specs.declared.machine.Value.{Value}
use Rattle.ja_machine.specs.declared.machine.Value.TheVariants as value
use Rattle.ja_machine.specs.declared.machine.Heap.{Heap}
use Rattle.ja_machine.specs.Heap.{class_at, same_address}

-- why a run leaves the profile, where an operation does
abbrev pub kind_of : Stop → ScopeKind
kind_of stops.Fraction = scope_kind.Fraction
kind_of stops.Range = scope_kind.Range
kind_of stops.TextLength = scope_kind.TextLength

-- what an operation gives: nothing, where it doesn't take these values
abbrev pub OperatorOutcome : Type 0
OperatorOutcome = Option (Result Primitive Stop)

abbrev pub gives : Primitive → OperatorOutcome
gives q = Some (Ok q)

abbrev pub truth : Bool → Primitive
truth b = primitive.Bool b

-- ---- of one value

abbrev pub is_object : Value → Bool
is_object (value.Object a) = true
is_object (value.Primitive q) = false

-- ToBoolean (9.2): an object is true
abbrev pub truth_of : Value → Bool
truth_of (value.Primitive q) = to_bool q
truth_of (value.Object a) = true

-- `typeof` (11.4.3)
abbrev pub type_of_class : Option Class → List ℕ
type_of_class (Some class.Function) = codes "function"
type_of_class class = codes "object"

abbrev pub type_of : Heap → Value → List ℕ
type_of h (value.Primitive primitive.Undefined) = codes "undefined"
type_of h (value.Primitive primitive.Null) = codes "object"
type_of h (value.Primitive (primitive.Bool b)) = codes "boolean"
type_of h (value.Primitive (primitive.Number n)) = codes "number"
type_of h (value.Primitive (primitive.Text units)) = codes "string"
type_of h (value.Object a) = type_of_class (class_at h a)

-- an operation on a primitive value, which takes no object
abbrev pub on_primitive : (Primitive → Result Primitive Stop) → Value → OperatorOutcome
on_primitive f (value.Primitive q) = Some (f q)
on_primitive f (value.Object a) = None

abbrev pub of_number : (Num → Num) → Primitive → Result Primitive Stop
of_number f q = to_primitive (λ n. primitive.Number (f n)) (to_number q)

abbrev pub unary : Heap → UnaryOp → Value → OperatorOutcome
unary h unary_op.ToNum v = on_primitive (of_number (λ n. n)) v
unary h unary_op.ToText v = on_primitive (λ q. Ok (primitive.Text (to_text q))) v
unary h unary_op.Neg v = on_primitive (of_number arithmetic.neg) v
unary h unary_op.BitNot v = on_primitive (of_number bits.not) v
unary h unary_op.ToBool v = gives (truth (truth_of v))
unary h unary_op.Not v = gives (truth (not (truth_of v)))
unary h unary_op.TypeOf v = gives (primitive.Text (type_of h v))

-- ---- of two values

abbrev pub on_primitives : (Primitive → Primitive → Result Primitive Stop) → Value → Value
    → OperatorOutcome
on_primitives f (value.Primitive a) (value.Primitive b) = Some (f a b)
on_primitives f (value.Primitive a) (value.Object b) = None
on_primitives f (value.Object a) v = None

-- an operation on the numbers of two values
abbrev pub of_numbers : (Num → Num → Result Num Stop) → Primitive → Primitive
    → Result Primitive Stop
of_numbers f a b = to_primitive primitive.Number (of_both f (to_number a) (to_number b))

abbrev pub of_bits : (Num → Num → Num) → Primitive → Primitive → Result Primitive Stop
of_bits f = of_numbers (λ m n. Ok (f m n))

-- `<` and `>` are true where the comparison gives true, `<=` and `>=` where it gives false: not
-- where it gives undefined (11.8)
abbrev pub is_true : Option Bool → Bool
is_true None = false
is_true (Some b) = b

abbrev pub is_false : Option Bool → Bool
is_false None = false
is_false (Some b) = not b

abbrev pub compared : (Option Bool → Bool) → Result (Option Bool) Stop → Result Primitive Stop
compared holds = to_primitive (λ less. truth (holds less))

-- equality (11.9.3, 11.9.6): an object is equal to itself alone
abbrev pub loose_equal_values : Value → Value → Result Bool Stop
loose_equal_values (value.Primitive a) (value.Primitive b) = loose_equal a b
loose_equal_values (value.Primitive a) (value.Object b) = Ok false
loose_equal_values (value.Object a) (value.Primitive b) = Ok false
loose_equal_values (value.Object a) (value.Object b) = Ok (same_address a b)

abbrev pub strict_equal_values : Value → Value → Bool
strict_equal_values (value.Primitive a) (value.Primitive b) = strict_equal a b
strict_equal_values (value.Primitive a) (value.Object b) = false
strict_equal_values (value.Object a) (value.Primitive b) = false
strict_equal_values (value.Object a) (value.Object b) = same_address a b

abbrev pub binary : BinaryOp → Value → Value → OperatorOutcome
binary binary_op.Add a b = on_primitives add a b
binary binary_op.Sub a b = on_primitives (of_numbers arithmetic.sub) a b
binary binary_op.Mul a b = on_primitives (of_numbers arithmetic.mul) a b
binary binary_op.Div a b = on_primitives (of_numbers arithmetic.div) a b
binary binary_op.Rem a b = on_primitives (of_numbers arithmetic.rem) a b
binary binary_op.Shl a b = on_primitives (of_bits bits.shl) a b
binary binary_op.Shr a b = on_primitives (of_bits bits.shr) a b
binary binary_op.Ushr a b = on_primitives (of_bits bits.ushr) a b
binary binary_op.And a b = on_primitives (of_bits bits.and) a b
binary binary_op.Or a b = on_primitives (of_bits bits.or) a b
binary binary_op.Xor a b = on_primitives (of_bits bits.xor) a b
binary binary_op.Lt a b = on_primitives (λ m n. compared is_true (less m n)) a b
binary binary_op.Gt a b = on_primitives (λ m n. compared is_true (less n m)) a b
binary binary_op.Le a b = on_primitives (λ m n. compared is_false (less n m)) a b
binary binary_op.Ge a b = on_primitives (λ m n. compared is_false (less m n)) a b
binary binary_op.LooseEq a b = Some (to_primitive truth (loose_equal_values a b))
binary binary_op.LooseNe a b =
    Some (to_primitive (λ equal. truth (not equal)) (loose_equal_values a b))
binary binary_op.StrictEq a b = gives (truth (strict_equal_values a b))
binary binary_op.StrictNe a b = gives (truth (not (strict_equal_values a b)))

-- ---- keys

-- whether the profile has a number
abbrev pub is_in_profile : Num → Bool
is_in_profile NaN = true
is_in_profile (Whole n) = nat_le (unsigned_abs n) max_magnitude

-- The text of a number. One past the profile is no key: it never comes to be one, since operations
-- that would give such a number leave the profile.
abbrev pub key_of_number : Num → Option (List ℕ)
key_of_number n = if is_in_profile n then Some (to_text (primitive.Number n)) else None

-- the text that a key register has: a text itself, or the text of a number
abbrev pub key_of : Value → Option (List ℕ)
key_of (value.Primitive (primitive.Text units)) = Some units
key_of (value.Primitive (primitive.Number n)) = key_of_number n
key_of v = None
