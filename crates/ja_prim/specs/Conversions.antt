-- What primitive values are converted to (ES3 9.2, 9.3, 9.8), and the index that a text is (15.4).
use Rattle.std.specs.Prelude.{ℕ, ◌==◌, pos, Bool, true, false, not, if◌then◌else◌, List, length, Option, Some, None, Result, Ok, codes}
use Rattle.std.specs.Fmt.{signed_decimal}
use Rattle.std.specs.Ordering.{int_eq}
use Rattle.ja_prim.specs.declared.primitive.Num.{Num}
use Rattle.ja_prim.specs.declared.primitive.Num.TheVariants.{NaN, Whole}
use Rattle.ja_prim.specs.declared.primitive.Primitive.{Primitive}
use Rattle.ja_prim.specs.declared.primitive.Primitive.TheVariants.{Undefined, Null, Number, Text}
use Rattle.ja_prim.specs.declared.primitive.Primitive.TheVariants as kind
use Rattle.ja_prim.specs.declared.stop.Stop.{Stop}
use Rattle.ja_prim.specs.Index.{is_index_text, with_digits}
use Rattle.ja_prim.specs.TextToNumber.{text_to_number}

-- false are undefined, null, false, NaN, 0 and the empty text (9.2)
abbrev pub to_bool : Primitive → Bool
to_bool Undefined = false
to_bool Null = false
to_bool (kind.Bool b) = b
to_bool (Number NaN) = false
to_bool (Number (Whole n)) = not (int_eq n (pos 0))
to_bool (Text units) = not (length units == 0)

-- the number of a value (9.3): of a text as it says, and of any other value one that the profile
-- has
abbrev pub to_number : Primitive → Result Num Stop
to_number Undefined = Ok NaN
to_number Null = Ok (Whole (pos 0))
to_number (kind.Bool true) = Ok (Whole (pos 1))
to_number (kind.Bool false) = Ok (Whole (pos 0))
to_number (Number n) = Ok n
to_number (Text units) = text_to_number units

-- the decimal digits, with a minus before those of a negative number (9.8.1)
abbrev pub number_text : Num → List ℕ
number_text NaN = codes "NaN"
number_text (Whole n) = signed_decimal n

-- the text of a value (9.8)
abbrev pub to_text : Primitive → List ℕ
to_text Undefined = codes "undefined"
to_text Null = codes "null"
to_text (kind.Bool true) = codes "true"
to_text (kind.Bool false) = codes "false"
to_text (Number n) = number_text n
to_text (Text units) = units

-- the array index that a text is, if it is one (15.4)
abbrev pub index_of : List ℕ → Option ℕ
index_of units = if is_index_text units then Some (with_digits 0 units) else None
