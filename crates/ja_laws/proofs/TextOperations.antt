-- What the operations on texts and numbers give, computed, with what the standard says of each on
-- the right (ES3 15.1.2, 15.5).
use Rattle.std.specs.Prelude.{◌≡◌, pos, negsuc, [], ◌∷◌, Ok, Err}
use Rattle.std.proofs.Common.{refl}
use lib.Chars.{codes}
use Rattle.ja_base.specs.declared.ids.ScopeKind.TheVariants as scope
use Rattle.ja_prim.specs.declared.primitive.Num.TheVariants.{NaN, Whole}
use Rattle.ja_prim.specs.declared.primitive.Primitive.TheVariants.{Number, Text}
use Rattle.ja_prim.specs.Blanks.{behind_blanks}
use Rattle.ja_prim.specs.Characters.{is_white, is_terminator}
use Rattle.ja_prim.specs.Fronts.{front_integer, integer_by, integer, behind_prefix, front_decimal, decimal_front}
use Rattle.ja_prim.specs.Numerals.{digits, behind_digits, fraction, behind_fraction, exponent, power, decimal_value, placed}
use Rattle.ja_prim.specs.Search.{first_in, last_in}
use Rattle.ja_prim.specs.TextToNumber.{unsigned}
use Rattle.ja_machine.specs.TextOperations.{whole, size, unit, part, character, index_of, last_index_of, changed, small, great, parse_int, parse_float}

size_of_hello : size (codes "hello") ≡ Ok (whole 5)
size_of_hello = refl

unit_1 : unit (codes "hello") (Whole (pos 1)) ≡ whole 101
unit_1 = refl

unit_nan : unit (codes "hello") NaN ≡ whole 104
unit_nan = refl

unit_9 : unit (codes "hello") (Whole (pos 9)) ≡ Number NaN
unit_9 = refl

unit_minus : unit (codes "hello") (Whole (negsuc 0)) ≡ Number NaN
unit_minus = refl

part_1_3 : part (codes "hello") (Whole (pos 1)) (Whole (pos 3)) ≡ Text (codes "el")
part_1_3 = refl

part_back : part (codes "hello") (Whole (pos 3)) (Whole (pos 1)) ≡ Text []
part_back = refl

part_far : part (codes "hello") NaN (Whole (pos 9007199254740991)) ≡ Text (codes "hello")
part_far = refl

character_65601 : character (Whole (pos 65601)) ≡ Text (codes "A")
character_65601 = refl

character_minus : character (Whole (negsuc 65470)) ≡ Text (codes "A")
character_minus = refl

index_2 : index_of (codes "banana") (codes "an") (Whole (pos 2)) ≡ whole 3
unfolding first_in
index_2 = refl

index_none : index_of (codes "banana") (codes "x") NaN ≡ Number (Whole (negsuc 0))
unfolding first_in
index_none = refl

index_empty_far : index_of (codes "ab") [] (Whole (pos 9)) ≡ whole 2
unfolding first_in
index_empty_far = refl

last_nan : last_index_of (codes "banana") (codes "an") NaN ≡ whole 3
unfolding last_in
last_nan = refl

last_2 : last_index_of (codes "banana") (codes "an") (Whole (pos 2)) ≡ whole 1
unfolding last_in
last_2 = refl

last_minus : last_index_of (codes "banana") (codes "b") (Whole (negsuc 4)) ≡ whole 0
unfolding last_in
last_minus = refl

lower : changed small (codes "AbZ[@9") ≡ Ok (Text (codes "abz[@9"))
lower = refl

upper : changed great (codes "aBz{`9") ≡ Ok (Text (codes "ABZ{`9"))
upper = refl

past : changed great (233 ∷ []) ≡ Err scope.CaseChange
past = refl

int_hex : parse_int (codes " -0x1Fz") (Whole (pos 0)) ≡ Ok (Number (Whole (negsuc 30)))
unfolding front_integer integer_by integer behind_prefix behind_blanks unsigned is_white
    is_terminator
int_hex = refl

int_36 : parse_int (codes "z") (Whole (pos 36)) ≡ Ok (whole 35)
unfolding front_integer integer_by integer behind_prefix behind_blanks unsigned is_white
    is_terminator
int_36 = refl

int_1 : parse_int (codes "12") (Whole (pos 1)) ≡ Ok (Number NaN)
unfolding front_integer integer_by integer behind_prefix behind_blanks unsigned is_white
    is_terminator
int_1 = refl

int_0x : parse_int (codes "0x") (Whole (pos 16)) ≡ Ok (Number NaN)
unfolding front_integer integer_by integer behind_prefix behind_blanks unsigned is_white
    is_terminator
int_0x = refl

int_10_0x : parse_int (codes "0x5") (Whole (pos 10)) ≡ Ok (whole 0)
unfolding front_integer integer_by integer behind_prefix behind_blanks unsigned is_white
    is_terminator
int_10_0x = refl

int_range : parse_int (codes "9007199254740992") (Whole (pos 10)) ≡ Err scope.Range
unfolding front_integer integer_by integer behind_prefix behind_blanks unsigned is_white
    is_terminator
int_range = refl

float_e : parse_float (codes "4.0e2z") ≡ Ok (whole 400)
unfolding front_decimal decimal_front behind_blanks unsigned is_white is_terminator digits
    behind_digits fraction behind_fraction exponent power decimal_value placed
float_e = refl

float_e_bare : parse_float (codes "+12e-") ≡ Ok (whole 12)
unfolding front_decimal decimal_front behind_blanks unsigned is_white is_terminator digits
    behind_digits fraction behind_fraction exponent power decimal_value placed
float_e_bare = refl

float_half : parse_float (codes "1.5") ≡ Err scope.Fraction
unfolding front_decimal decimal_front behind_blanks unsigned is_white is_terminator digits
    behind_digits fraction behind_fraction exponent power decimal_value placed
float_half = refl

float_dot : parse_float (codes ".") ≡ Ok (Number NaN)
unfolding front_decimal decimal_front behind_blanks unsigned is_white is_terminator digits
    behind_digits fraction
float_dot = refl

float_infinity : parse_float (codes "-Infinityx") ≡ Err scope.Range
unfolding front_decimal decimal_front behind_blanks unsigned is_white is_terminator
float_infinity = refl
