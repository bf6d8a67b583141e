-- What the definitions of abstract primitives give, computed.
use Rattle.std.specs.Prelude.{◌≡◌, ℕ, pos, negsuc, Bool, true, false, List, [], ◌∷◌, map}
use Rattle.std.specs.Fmt.{digits as decimal_digits}
use Rattle.std.proofs.Common.{refl}
use lib.Chars.{codes}
use Rattle.ja_prim.specs.declared.primitive.Num.TheVariants.{Whole}
use Rattle.ja_prim.specs.declared.primitive.Primitive.TheVariants as primitive
use Rattle.ja_prim.specs.Blanks.{behind_blanks, before_blanks}
use Rattle.ja_prim.specs.Characters.{is_white, is_terminator}
use Rattle.ja_prim.specs.Arithmetic as numbers
use Rattle.ja_prim.specs.Bits as bits
use Rattle.ja_prim.specs.Numerals as numerals
use Rattle.ja_prim.specs.TextToNumber as spec
use Rattle.ja_graph.specs.declared.node.BinaryOp.{BinaryOp}
use Rattle.ja_graph.specs.declared.node.BinaryOp.TheVariants as op
use Rattle.ja_abstract.specs.declared.abstraction.NumberPart.{NumberPart}
use Rattle.ja_abstract.specs.declared.abstraction.NumberPart.TheVariants as number_part
use Rattle.ja_abstract.specs.declared.abstraction.TextPart.TheVariants as text_part
use Rattle.ja_abstract.specs.AbstractValue.{AbstractValue, of_primitive, join, null_value, undefined_value, no_value}
use Rattle.ja_abstract.specs.Keys.{is_whole_text, number_text_has}
use Rattle.ja_machine.specs.declared.machine.TextOperation.TheVariants as operation
use Rattle.ja_abstract.specs.PrimitiveOperations.{text_operation}
use Rattle.ja_abstract.specs.Primitives.{Abstracted, abstract_unary, to_bool_atom, to_text_atom, on_operand, of_operand, gives, gives_or_stops, abstract_binary, operator, finished, of_number_part, of_text_part, of_bools, to_num, to_uint32, whole_value, nan_value}

abbrev one : AbstractValue
one = of_primitive (primitive.Number (Whole (pos 1)))

abbrev two : AbstractValue
two = of_primitive (primitive.Number (Whole (pos 2)))

abbrev minus : AbstractValue
minus = of_primitive (primitive.Number (Whole (negsuc 0)))

abbrev index : AbstractValue
index = of_number_part number_part.Index

abbrev index_text : AbstractValue
index_text = of_text_part text_part.IndexText

abbrev other_text : AbstractValue
other_text = of_text_part text_part.OtherText

abbrev on : BinaryOp → AbstractValue → AbstractValue → AbstractValue
on o a b = finished o (abstract_binary (operator o) a b).value

index_to_num : (to_num index_text).value ≡ index
index_to_num = refl

text_to_num : to_num other_text ≡ gives_or_stops (join nan_value whole_value)
text_to_num = refl

sum_of_class : abstract_binary (operator op.Add) index one ≡ gives_or_stops whole_value
sum_of_class = refl

sum_exact : (abstract_binary (operator op.Add) one two).value.number ≡ number_part.One (pos 3)
sum_exact = refl

less_exact : on op.Lt one two ≡ of_bools true false
less_exact = refl

less_class : on op.Lt index two ≡ of_bools true true
less_class = refl

not_less_with_nan : on op.Ge index nan_value ≡ of_bools false true
not_less_with_nan = refl

null_and_class : on op.LooseEq null_value index ≡ of_bools false true
null_and_class = refl

class_and_constant : on op.StrictEq index minus ≡ of_bools false true
class_and_constant = refl

class_and_index : on op.StrictNe index one ≡ of_bools true true
class_and_index = refl

text_and_number : on op.LooseEq index_text one ≡ of_bools true true
text_and_number = refl

text_and_number_apart : on op.LooseEq index_text minus ≡ of_bools false true
text_and_number_apart = refl

remainder_of_class : abstract_binary (operator op.Rem) index two
    ≡ gives (join nan_value whole_value)
remainder_of_class = refl

unsigned_of_class : (to_uint32 index).value ≡ index
unsigned_of_class = refl

shift_of_nan : (abstract_binary (operator op.Shl) nan_value index).value ≡ whole_value
shift_of_nan = refl

text_sum : abstract_binary (operator op.Add) other_text null_value
    ≡ gives_or_stops (of_text_part text_part.Text)
text_sum = refl

-- ---- classes

abbrev other_whole : AbstractValue
other_whole = of_number_part number_part.OtherWhole

abbrev any_text : AbstractValue
any_text = of_text_part text_part.Text

abbrev true_value : AbstractValue
true_value = of_bools true false

abbrev false_value : AbstractValue
false_value = of_bools false true

abbrev largest : AbstractValue
largest = of_primitive (primitive.Number (Whole (pos 9007199254740991)))

abbrev all_stop : Abstracted
all_stop = gives_or_stops no_value

-- ---- conversions: those of a class, and the join over the parts

truth_of_other_whole : abstract_unary to_bool_atom other_whole ≡ gives true_value
truth_of_other_whole = refl

truth_of_index : abstract_unary to_bool_atom index ≡ gives (of_bools true true)
truth_of_index = refl

truth_of_index_text : abstract_unary to_bool_atom index_text ≡ gives true_value
truth_of_index_text = refl

truth_of_other_text : abstract_unary to_bool_atom other_text ≡ gives (of_bools true true)
truth_of_other_text = refl

truth_of_parts : abstract_unary to_bool_atom (join null_value one) ≡ gives (of_bools true true)
truth_of_parts = refl

number_of_class : to_num other_whole ≡ gives other_whole
number_of_class = refl

number_of_any_text : to_num any_text ≡ gives_or_stops (join nan_value whole_value)
number_of_any_text = refl

number_of_parts : to_num (join undefined_value index_text) ≡ gives (join nan_value index)
number_of_parts = refl

number_of_true : to_num true_value ≡ gives one
number_of_true = refl

text_of_index : abstract_unary to_text_atom index ≡ gives index_text
text_of_index = refl

text_of_other_whole : abstract_unary to_text_atom other_whole ≡ gives other_text
text_of_other_whole = refl

text_of_whole : abstract_unary to_text_atom whole_value ≡ gives any_text
text_of_whole = refl

text_of_text : abstract_unary to_text_atom other_text ≡ gives other_text
text_of_text = refl

text_of_null : abstract_unary to_text_atom null_value
    ≡ gives (of_primitive (primitive.Text (codes "null")))
text_of_null = refl

-- ---- operators on numbers

abbrev negated : AbstractValue → Abstracted
negated = abstract_unary (on_operand (of_operand numbers.neg))

abbrev complement : AbstractValue → Abstracted
complement = abstract_unary (on_operand (of_operand bits.not))

negative_of_class : negated index ≡ gives whole_value
negative_of_class = refl

negative_of_one : negated one ≡ gives minus
negative_of_one = refl

complement_of_class : complement other_whole ≡ gives whole_value
complement_of_class = refl

complement_of_nan : complement nan_value ≡ gives minus
complement_of_nan = refl

abbrev of : BinaryOp → AbstractValue → AbstractValue → Abstracted
of = λ o. abstract_binary (operator o)

sum_with_nan : of op.Add nan_value index ≡ gives nan_value
sum_with_nan = refl

sum_past_the_range : of op.Add largest one ≡ all_stop
sum_past_the_range = refl

text_sum_exact : of op.Add (of_primitive (primitive.Text (codes "a"))) null_value
    ≡ gives (of_primitive (primitive.Text (codes "anull")))
text_sum_exact = refl

text_sum_of_class : of op.Add index other_text ≡ gives_or_stops any_text
text_sum_of_class = refl

difference_of_class : of op.Sub index one ≡ gives_or_stops whole_value
difference_of_class = refl

difference_exact : of op.Sub one two ≡ gives minus
difference_exact = refl

product_with_nan : of op.Mul undefined_value whole_value ≡ gives nan_value
product_with_nan = refl

product_past_the_range : of op.Mul largest two ≡ all_stop
product_past_the_range = refl

quotient_of_class : of op.Div index two ≡ gives_or_stops (join nan_value whole_value)
quotient_of_class = refl

quotient_not_whole : of op.Div one two ≡ all_stop
quotient_not_whole = refl

quotient_with_nan : of op.Div nan_value index ≡ gives nan_value
quotient_with_nan = refl

remainder_with_nan : of op.Rem index nan_value ≡ gives nan_value
remainder_with_nan = refl

remainder_exact : of op.Rem one two ≡ gives one
remainder_exact = refl

and_of_class : of op.And index one ≡ gives whole_value
and_of_class = refl

or_of_nan : of op.Or nan_value two ≡ gives two
or_of_nan = refl

xor_of_text : of op.Xor other_text one ≡ gives_or_stops whole_value
xor_of_text = refl

right_of_class : of op.Shr one other_whole ≡ gives whole_value
right_of_class = refl

unsigned_right : of op.Ushr minus (of_primitive (primitive.Number (Whole (pos 0))))
    ≡ gives (of_primitive (primitive.Number (Whole (pos 4294967295))))
unsigned_right = refl

unsigned_of_other_whole : to_uint32 other_whole ≡ gives whole_value
unsigned_of_other_whole = refl

unsigned_of_minus : to_uint32 minus
    ≡ gives (of_primitive (primitive.Number (Whole (pos 4294967295))))
unsigned_of_minus = refl

unsigned_of_nan : to_uint32 nan_value ≡ gives (of_primitive (primitive.Number (Whole (pos 0))))
unsigned_of_nan = refl

-- ---- comparisons and equalities

less_of_texts : of op.Lt other_text index_text ≡ gives (of_bools true true)
less_of_texts = refl

less_with_nan : of op.Lt nan_value index ≡ gives undefined_value
less_with_nan = refl

less_of_text_class : of op.Lt other_text index
    ≡ gives_or_stops (join undefined_value (of_bools true true))
less_of_text_class = refl

greater_exact : on op.Gt one two ≡ false_value
greater_exact = refl

at_most_exact : on op.Le one two ≡ true_value
at_most_exact = refl

at_most_with_nan : on op.Le nan_value one ≡ false_value
at_most_with_nan = refl

same_class : on op.StrictEq other_whole whole_value ≡ of_bools true true
same_class = refl

classes_apart : on op.StrictEq index other_whole ≡ false_value
classes_apart = refl

kinds_apart : on op.StrictEq index index_text ≡ false_value
kinds_apart = refl

nan_apart : on op.StrictEq nan_value whole_value ≡ false_value
nan_apart = refl

nan_is_not_itself : on op.StrictNe nan_value nan_value ≡ true_value
nan_is_not_itself = refl

texts_apart : on op.StrictEq index_text other_text ≡ false_value
texts_apart = refl

nothings_equal : on op.LooseEq null_value undefined_value ≡ true_value
nothings_equal = refl

nothing_and_text : on op.LooseNe undefined_value any_text ≡ true_value
nothing_and_text = refl

truth_and_class : on op.LooseEq true_value index ≡ of_bools true true
truth_and_class = refl

truth_and_class_apart : on op.LooseEq true_value other_whole ≡ false_value
truth_and_class_apart = refl

text_class_and_number : of op.LooseEq other_text one ≡ gives_or_stops (of_bools true true)
text_class_and_number = refl

parts_of_equality : on op.StrictEq (join one null_value) null_value ≡ of_bools true true
parts_of_equality = refl

-- ---- texts of whole numbers: to 2^53 - 1, without a zero in front, and 0 without a minus

texts : List (List ℕ)
texts =
    codes "9007199254740991" ∷ codes "-12" ∷ codes "0" ∷ codes "9007199254740993" ∷ codes "-0" ∷
    codes "007" ∷ []

whole_texts : map is_whole_text texts ≡ true ∷ true ∷ true ∷ false ∷ false ∷ false ∷ []
unfolding texts spec.text_to_number spec.literal spec.is_hexadecimal spec.signed_literal
    spec.unsigned spec.decimal numerals.digits numerals.behind_digits numerals.fraction
    numerals.behind_fraction numerals.exponent numerals.behind_exponent numerals.behind_decimal
    numerals.decimal_value numerals.placed behind_blanks before_blanks is_white is_terminator
    decimal_digits
whole_texts = refl

-- .. and of which class of numbers each is the text: 4294967294 is the greatest index (15.4)

texts_of_class : NumberPart → List Bool
texts_of_class n =
    map (number_text_has n) (codes "4294967294" ∷ codes "4294967295" ∷ codes "-12" ∷ codes "0" ∷
    codes "-0" ∷ codes "007" ∷ [])

texts_of_index :
    texts_of_class number_part.Index ≡ true ∷ false ∷ false ∷ true ∷ false ∷ false ∷ []
unfolding texts_of_class decimal_digits
texts_of_index = refl

texts_of_classes :
    map texts_of_class (number_part.OtherWhole ∷ number_part.Whole ∷ number_part.Nothing ∷ [])
    ≡ (false ∷ true ∷ true ∷ false ∷ false ∷ false ∷ [])
    ∷ (true ∷ true ∷ true ∷ true ∷ false ∷ false ∷ [])
    ∷ (false ∷ false ∷ false ∷ false ∷ false ∷ false ∷ []) ∷ []
unfolding texts_of_class spec.text_to_number spec.literal spec.is_hexadecimal spec.signed_literal
    spec.unsigned spec.decimal numerals.digits numerals.behind_digits numerals.fraction
    numerals.behind_fraction numerals.exponent numerals.behind_exponent numerals.behind_decimal
    numerals.decimal_value numerals.placed behind_blanks before_blanks is_white is_terminator
    decimal_digits
texts_of_classes = refl

-- ---- digits by a radix: of a class any text, of two constants the machine's or none

digits_by : AbstractValue → AbstractValue → AbstractValue
digits_by v radix = text_operation operation.Digits (v ∷ radix ∷ [])

class_by_one : digits_by index one ≡ of_text_part text_part.Text
unfolding digits_by
class_by_one = refl

two_by_one : digits_by two one ≡ no_value
unfolding digits_by
two_by_one = refl

two_by_two : digits_by two two ≡ of_text_part (text_part.One (codes "10"))
unfolding digits_by decimal_digits
two_by_two = refl
