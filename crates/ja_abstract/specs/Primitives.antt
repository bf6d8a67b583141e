-- The abstract operators on primitives (ES3 9, 11): what an operation gives of the primitives that
-- a value may be. An exact part gives what the machine gives, and a class all that it says (SAS
-- 2009, the lattice of values).
use Rattle.std.specs.Prelude.{pos, Bool, true, false, ◌&&◌, ◌||◌, if◌then◌else◌, List, [], ◌∷◌, ◌++◌, Option, Some, None, Result, Ok, Err}
use Rattle.std.specs.List.{flat_map}
use Rattle.ja_prim.specs.declared.primitive.Num.{Num}
use Rattle.ja_prim.specs.declared.primitive.Num.TheVariants.{NaN, Whole}
use Rattle.ja_prim.specs.declared.primitive.Primitive.{Primitive}
use Rattle.ja_prim.specs.declared.primitive.Primitive.TheVariants as primitive
use Rattle.ja_prim.specs.declared.stop.Stop.{Stop}
use Rattle.ja_prim.specs.Conversions.{to_bool, to_number, to_text}
use Rattle.ja_prim.specs.Comparison.{less, strict_equal, loose_equal, add, to_primitive, is_text, is_nothing}
use Rattle.ja_prim.specs.Arithmetic as numbers
use Rattle.ja_prim.specs.Bits as bits
use Rattle.ja_graph.specs.declared.node.BinaryOp.{BinaryOp}
use Rattle.ja_graph.specs.declared.node.BinaryOp.TheVariants as binary_op
use Rattle.ja_abstract.specs.declared.abstraction.NumberPart.{NumberPart}
use Rattle.ja_abstract.specs.declared.abstraction.NumberPart.TheVariants as number_part
use Rattle.ja_abstract.specs.declared.abstraction.TextPart.{TextPart}
use Rattle.ja_abstract.specs.declared.abstraction.TextPart.TheVariants as text_part
use Rattle.ja_abstract.specs.AbstractValue.{AbstractValue, no_flags, of_flags, no_value, join, of_primitive, undefined_value, number_class, text_class}

-- ---- atoms

-- one primitive, or all of a class
pub data Atom : Type 0 where
  exactly : Primitive → Atom
  index : Atom
  other_whole : Atom
  whole : Atom
  index_text : Atom
  other_text : Atom
  any_text : Atom

abbrev pub number_atoms : NumberPart → List Atom
number_atoms number_part.Nothing = []
number_atoms (number_part.One z) = exactly (primitive.Number (Whole z)) ∷ []
number_atoms number_part.Index = index ∷ []
number_atoms number_part.OtherWhole = other_whole ∷ []
number_atoms number_part.Whole = whole ∷ []

abbrev pub text_atoms : TextPart → List Atom
text_atoms text_part.Nothing = []
text_atoms (text_part.One t) = exactly (primitive.Text t) ∷ []
text_atoms text_part.IndexText = index_text ∷ []
text_atoms text_part.OtherText = other_text ∷ []
text_atoms text_part.Text = any_text ∷ []

-- the atoms of some flags with their primitives
abbrev pub flag_atoms : List (Bool × Primitive) → List Atom
flag_atoms [] = []
flag_atoms (f ∷ fs) = if f.0 then exactly f.1 ∷ flag_atoms fs else flag_atoms fs

abbrev pub flags_of : AbstractValue → List (Bool × Primitive)
flags_of v =
    (v.flags.undefined, primitive.Undefined)
    ∷ (v.flags.null, primitive.Null)
    ∷ (v.flags.is_true, primitive.Bool true)
    ∷ (v.flags.is_false, primitive.Bool false)
    ∷ (v.flags.nan, primitive.Number NaN) ∷ []

abbrev pub part_atoms : AbstractValue → List Atom
part_atoms v = number_atoms v.number ++ text_atoms v.text

-- the atoms of a value: its flags but absent, entry and row, its number part and its text part
abbrev pub atoms : AbstractValue → List Atom
atoms v = flag_atoms (flags_of v) ++ part_atoms v

abbrev pub of_number_part : NumberPart → AbstractValue
of_number_part n = record no_value { number = n }

abbrev pub of_text_part : TextPart → AbstractValue
of_text_part t = record no_value { text = t }

abbrev pub of_atom : Atom → AbstractValue
of_atom (exactly q) = of_primitive q
of_atom index = of_number_part number_part.Index
of_atom other_whole = of_number_part number_part.OtherWhole
of_atom whole = of_number_part number_part.Whole
of_atom index_text = of_text_part text_part.IndexText
of_atom other_text = of_text_part text_part.OtherText
of_atom any_text = of_text_part text_part.Text

-- ---- results

-- what an operation gives, and whether it may leave the profile
pub record Abstracted : Type 0 where
  pub value : AbstractValue
  pub may_stop : Bool

abbrev pub gives : AbstractValue → Abstracted
gives v = record { value = v; may_stop = false }

abbrev pub gives_or_stops : AbstractValue → Abstracted
gives_or_stops v = record { value = v; may_stop = true }

abbrev pub stops_if : Bool → Abstracted
stops_if b = record { value = no_value; may_stop = b }

abbrev pub no_result : Abstracted
no_result = gives no_value

abbrev pub either : Abstracted → Abstracted → Abstracted
either a b = record { value = join a.value b.value; may_stop = a.may_stop || b.may_stop }

abbrev pub over : {A : Type 0} → (A → Abstracted) → List A → Abstracted
over f [] = no_result
over f (x ∷ xs) = either (f x) (over f xs)

abbrev pub over_pairs : {A : Type 0} → (A → A → Abstracted) → List A → List A → Abstracted
over_pairs f xs ys = over (λ x. over (f x) ys) xs

abbrev pub exact : Result Primitive Stop → Abstracted
exact (Ok q) = gives (of_primitive q)
exact (Err stop) = gives_or_stops no_value

abbrev pub nan_value : AbstractValue
nan_value = of_primitive (primitive.Number NaN)

abbrev pub whole_value : AbstractValue
whole_value = of_number_part number_part.Whole

abbrev pub of_bools : Bool → Bool → AbstractValue
of_bools t f = of_flags (record no_flags { is_true = t; is_false = f })

abbrev pub both_bools : Abstracted
both_bools = gives (of_bools true true)

-- ---- conversions

abbrev pub to_bool_atom : Atom → Abstracted
to_bool_atom (exactly q) = gives (of_primitive (primitive.Bool (to_bool q)))
to_bool_atom other_whole = gives (of_bools true false)
to_bool_atom index_text = gives (of_bools true false)
to_bool_atom a = both_bools

abbrev pub to_num_atom : Atom → Abstracted
to_num_atom (exactly q) = exact (to_primitive primitive.Number (to_number q))
to_num_atom index_text = gives (of_number_part number_part.Index)
to_num_atom other_text = gives_or_stops (join nan_value whole_value)
to_num_atom any_text = gives_or_stops (join nan_value whole_value)
to_num_atom a = gives (of_atom a)

abbrev pub to_text_atom : Atom → Abstracted
to_text_atom (exactly q) = gives (of_primitive (primitive.Text (to_text q)))
to_text_atom index = gives (of_text_part text_part.IndexText)
to_text_atom other_whole = gives (of_text_part text_part.OtherText)
to_text_atom whole = gives (of_text_part text_part.Text)
to_text_atom a = gives (of_atom a)

-- ---- operations on numbers

-- a number that an operation takes: just one, or any whole one
abbrev pub Operand : Type 0
Operand = Option Num

abbrev pub operand : Atom → List Operand
operand (exactly (primitive.Number n)) = Some n ∷ []
operand index = None ∷ []
operand other_whole = None ∷ []
operand whole = None ∷ []
operand a = []

-- the numbers of an atom, converted
abbrev pub operands : Atom → List Operand
operands a = flat_map operand (atoms (to_num_atom a).value)

abbrev pub is_nan : Operand → Bool
is_nan (Some NaN) = true
is_nan x = false

-- by the machine's operation on two numbers, and else NaN with NaN and what is given of two classes
abbrev pub combine : (Num → Num → Result Num Stop) → Abstracted → Operand → Operand → Abstracted
combine f class (Some m) (Some n) = exact (to_primitive primitive.Number (f m n))
combine f class x y = if is_nan x || is_nan y then gives nan_value else class

abbrev pub on_operands : (Operand → Operand → Abstracted) → Atom → Atom → Abstracted
on_operands f a b =
    either (stops_if ((to_num_atom a).may_stop || (to_num_atom b).may_stop))
    (over_pairs f (operands a) (operands b))

abbrev pub arithmetic : (Num → Num → Result Num Stop) → Abstracted → Atom → Atom → Abstracted
arithmetic f class = on_operands (combine f class)

-- on bits NaN counts as 0, so a class has whole numbers alone
abbrev pub combine_bits : (Num → Num → Num) → Operand → Operand → Abstracted
combine_bits f (Some m) (Some n) = gives (of_primitive (primitive.Number (f m n)))
combine_bits f x y = gives whole_value

abbrev pub of_operand : (Num → Num) → Operand → Abstracted
of_operand f (Some n) = gives (of_primitive (primitive.Number (f n)))
of_operand f None = gives whole_value

abbrev pub on_operand : (Operand → Abstracted) → Atom → Abstracted
on_operand f a = either (stops_if (to_num_atom a).may_stop) (over f (operands a))

-- ---- sums, comparisons

abbrev pub is_text_atom : Atom → Bool
is_text_atom (exactly q) = is_text q
is_text_atom index_text = true
is_text_atom other_text = true
is_text_atom any_text = true
is_text_atom a = false

-- both atoms, where both are exact
abbrev pub both_exact : {A : Type 0} → (Primitive → Primitive → A) → A → Atom → Atom → A
both_exact f otherwise (exactly q) (exactly r) = f q r
both_exact f otherwise a b = otherwise

abbrev pub add_atoms : Atom → Atom → Abstracted
add_atoms a b =
    let sum = arithmetic numbers.add (gives_or_stops whole_value) a b in
    let text = gives_or_stops (of_text_part text_part.Text) in
    both_exact (λ q r. exact (add q r)) (if is_text_atom a || is_text_atom b then text else sum) a b

-- undefined stands for a comparison with NaN
abbrev pub compared : Result (Option Bool) Stop → Result Primitive Stop
compared (Ok (Some b)) = Ok (primitive.Bool b)
compared (Ok None) = Ok primitive.Undefined
compared (Err stop) = Err stop

abbrev pub compare_operands : Operand → Operand → Abstracted
compare_operands (Some m) (Some n) =
    exact (compared (less (primitive.Number m) (primitive.Number n)))
compare_operands x y = if is_nan x || is_nan y then gives undefined_value else both_bools

abbrev pub compare_atoms : Atom → Atom → Abstracted
compare_atoms a b =
    let numbers = on_operands compare_operands a b in
    let otherwise = if is_text_atom a && is_text_atom b then both_bools else numbers in
    both_exact (λ q r. exact (compared (less q r))) otherwise a b

-- ---- equality

pub data Kind : Type 0 where
  undefined_kind : Kind
  null_kind : Kind
  boolean : Kind
  number : Kind
  text : Kind

abbrev pub kind_of_primitive : Primitive → Kind
kind_of_primitive primitive.Undefined = undefined_kind
kind_of_primitive primitive.Null = null_kind
kind_of_primitive (primitive.Bool b) = boolean
kind_of_primitive (primitive.Number n) = number
kind_of_primitive (primitive.Text t) = text

abbrev pub kind_of : Atom → Kind
kind_of (exactly q) = kind_of_primitive q
kind_of index = number
kind_of other_whole = number
kind_of whole = number
kind_of index_text = text
kind_of other_text = text
kind_of any_text = text

abbrev pub same_kind : Kind → Kind → Bool
same_kind undefined_kind undefined_kind = true
same_kind null_kind null_kind = true
same_kind boolean boolean = true
same_kind number number = true
same_kind text text = true
same_kind a b = false

-- two number parts have a number in common, two text parts a text; constants are met by classes
-- alone here
abbrev pub numbers_meet : NumberPart → NumberPart → Bool
numbers_meet number_part.Nothing b = false
numbers_meet a number_part.Nothing = false
numbers_meet number_part.Whole b = true
numbers_meet a number_part.Whole = true
numbers_meet number_part.Index number_part.Index = true
numbers_meet number_part.OtherWhole number_part.OtherWhole = true
numbers_meet a b = false

abbrev pub texts_meet : TextPart → TextPart → Bool
texts_meet text_part.Nothing b = false
texts_meet a text_part.Nothing = false
texts_meet text_part.Text b = true
texts_meet a text_part.Text = true
texts_meet text_part.IndexText text_part.IndexText = true
texts_meet text_part.OtherText text_part.OtherText = true
texts_meet a b = false

-- an atom that isn't exact and another one may be equal where their classes meet
abbrev pub may_meet : Atom → Atom → Bool
may_meet a b =
    numbers_meet (number_class (of_atom a).number) (number_class (of_atom b).number)
    || texts_meet (text_class (of_atom a).text) (text_class (of_atom b).text)

abbrev pub strict_atoms : Atom → Atom → Abstracted
strict_atoms a b =
    let otherwise = if may_meet a b then both_bools else gives (of_bools false true) in
    both_exact (λ q r. gives (of_primitive (primitive.Bool (strict_equal q r)))) otherwise a b

abbrev pub is_nothing_atom : Atom → Bool
is_nothing_atom (exactly q) = is_nothing q
is_nothing_atom a = false

-- the atoms of a converted atom
abbrev pub on_converted : (Atom → Atom → Abstracted) → Atom → Atom → Abstracted
on_converted f a b =
    either (stops_if ((to_num_atom a).may_stop || (to_num_atom b).may_stop))
    (over_pairs f (atoms (to_num_atom a).value) (atoms (to_num_atom b).value))

abbrev pub loose_inexact : Atom → Atom → Abstracted
loose_inexact a b =
    if is_nothing_atom a || is_nothing_atom b then gives (of_bools false true)
    else if same_kind (kind_of a) (kind_of b) then strict_atoms a b
    else on_converted strict_atoms a b

abbrev pub loose_atoms : Atom → Atom → Abstracted
loose_atoms a b =
    both_exact (λ q r. exact (to_primitive primitive.Bool (loose_equal q r)))
    (loose_inexact a b) a b

-- ---- the operators

abbrev pub abstract_unary : (Atom → Abstracted) → AbstractValue → Abstracted
abstract_unary f v = over f (atoms v)

abbrev pub abstract_binary : (Atom → Atom → Abstracted) → AbstractValue → AbstractValue → Abstracted
abstract_binary f v w = over_pairs f (atoms v) (atoms w)

abbrev pub to_num : AbstractValue → Abstracted
to_num = abstract_unary to_num_atom

abbrev pub index_or_whole : Atom → Abstracted
index_or_whole (exactly (primitive.Number n)) =
    gives (of_primitive (primitive.Number (Whole (pos (bits.to_uint32 n)))))
index_or_whole index = gives (of_number_part number_part.Index)
index_or_whole a = gives whole_value

-- of a value of numbers alone
abbrev pub to_uint32 : AbstractValue → Abstracted
to_uint32 = abstract_unary index_or_whole

abbrev pub bit_op : (Num → Num → Num) → Atom → Atom → Abstracted
bit_op f = on_operands (combine_bits f)

-- what an operator gives of two atoms: a number, a text or a truth value, and undefined where a
-- comparison meets NaN
abbrev pub operator : BinaryOp → Atom → Atom → Abstracted
operator binary_op.Add = add_atoms
operator binary_op.Sub = arithmetic numbers.sub (gives_or_stops whole_value)
operator binary_op.Mul = arithmetic numbers.mul (gives_or_stops whole_value)
operator binary_op.Div = arithmetic numbers.div (gives_or_stops (join nan_value whole_value))
operator binary_op.Rem = arithmetic numbers.rem (gives (join nan_value whole_value))
operator binary_op.Shl = bit_op bits.shl
operator binary_op.Shr = bit_op bits.shr
operator binary_op.Ushr = bit_op bits.ushr
operator binary_op.And = bit_op bits.and
operator binary_op.Or = bit_op bits.or
operator binary_op.Xor = bit_op bits.xor
operator binary_op.Lt = compare_atoms
operator binary_op.Ge = compare_atoms
operator binary_op.Gt = λ a b. compare_atoms b a
operator binary_op.Le = λ a b. compare_atoms b a
operator binary_op.LooseEq = loose_atoms
operator binary_op.LooseNe = loose_atoms
operator binary_op.StrictEq = strict_atoms
operator binary_op.StrictNe = strict_atoms

-- `<` and `>` are true where the comparison is, `<=` and `>=` where it is false; the others of the
-- pair are what is left (11.8.1 to 11.8.4)
abbrev pub where_true : AbstractValue → AbstractValue
where_true v = of_bools v.flags.is_true (v.flags.is_false || v.flags.undefined)

abbrev pub where_false : AbstractValue → AbstractValue
where_false v = of_bools v.flags.is_false (v.flags.is_true || v.flags.undefined)

-- what is made of an operator's result on primitives
abbrev pub finished : BinaryOp → AbstractValue → AbstractValue
finished binary_op.Lt v = where_true v
finished binary_op.Gt v = where_true v
finished binary_op.Le v = where_false v
finished binary_op.Ge v = where_false v
finished binary_op.LooseNe v = of_bools v.flags.is_false v.flags.is_true
finished binary_op.StrictNe v = of_bools v.flags.is_false v.flags.is_true
finished op v = v
