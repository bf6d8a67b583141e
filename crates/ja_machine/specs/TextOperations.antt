-- The operations on texts and numbers that the built-in functions are written with (ES3 15.1.2,
-- 15.5, 15.7.4.2): what each gives of the primitive values that it takes.
use Rattle.std.specs.Prelude.{ℕ, suc, ◌+◌, ◌-◌, ◌%◌, ◌&&◌, nat_le, min, pos, negsuc, false, if◌then◌else◌, List, [], ◌∷◌, ◌++◌, map, length, take, drop, Option, Some, None, Result, Ok, Err, slice_get}
use Rattle.std.specs.Fmt.{digits}
use Rattle.std.specs.List.{list_all}
use Rattle.std.specs.Option.{option_and_then, option_map_or}
use lib.Chars.{codes}
use Rattle.ja_base.specs.declared.ids.ScopeKind.{ScopeKind}
use Rattle.ja_base.specs.declared.ids.ScopeKind.TheVariants as scope
use Rattle.ja_prim.specs.declared.primitive.Num.{Num}
use Rattle.ja_prim.specs.declared.primitive.Num.TheVariants.{NaN, Whole}
use Rattle.ja_prim.specs.declared.primitive.Primitive.{Primitive}
use Rattle.ja_prim.specs.declared.primitive.Primitive.TheVariants.{Number, Text}
use Rattle.ja_prim.specs.declared.stop.Stop.{Stop}
use Rattle.ja_prim.specs.declared.stop.Stop.TheVariants as stop
use Rattle.ja_prim.specs.Bits.{to_uint32}
use Rattle.ja_prim.specs.Characters.{is_ascii}
use Rattle.ja_prim.specs.Fronts.{front_integer, front_decimal}
use Rattle.ja_prim.specs.Search.{first_in, last_in}
use Rattle.ja_prim.specs.Texts.{is_short}
use Rattle.ja_machine.specs.declared.machine.TextOperation.{TextOperation}
use Rattle.ja_machine.specs.declared.machine.TextOperation.TheVariants as operation

-- what an operation gives, or why the run leaves the profile
abbrev pub Given : Type 0
Given = Result Primitive ScopeKind

abbrev pub refused : Given
refused = Err scope.Register

abbrev pub PrimitiveRow : Type 0
PrimitiveRow = List Primitive → Given

-- ---- the digits of a number (15.7.4.2)

-- the digits in a radix, with a minus before those of a negative number
abbrev pub radix_text : ℕ → Num → List ℕ
radix_text radix NaN = codes "NaN"
radix_text radix (Whole (pos n)) = digits radix false n
radix_text radix (Whole (negsuc n)) = codes "-" ++ digits radix false (suc n)

-- the least and the greatest radix
abbrev pub min_radix : ℕ
min_radix = 2

abbrev pub max_radix : ℕ
max_radix = 36

abbrev pub digits_of : Num → Num → Given
digits_of n (Whole (pos radix)) =
    if nat_le min_radix radix && nat_le radix max_radix then Ok (Text (radix_text radix n))
    else refused
digits_of n radix = refused

-- ---- places in a text

-- a number brought between 0 and a size; NaN counts as 0 (9.4)
abbrev pub place_within : ℕ → Num → ℕ
place_within size NaN = 0
place_within size (Whole (pos n)) = min n size
place_within size (Whole (negsuc n)) = 0

-- the same, but for NaN, which counts as the size (15.5.4.8)
abbrev pub last_place_within : ℕ → Num → ℕ
last_place_within size NaN = size
last_place_within size (Whole z) = place_within size (Whole z)

-- the place that a number is
abbrev pub place_of : Num → Option ℕ
place_of NaN = Some 0
place_of (Whole (pos n)) = Some n
place_of (Whole (negsuc n)) = None

abbrev pub whole : ℕ → Primitive
whole n = Number (Whole (pos n))

-- a place, or -1
abbrev pub place_or_none : Option ℕ → Primitive
place_or_none place = option_map_or whole place (Number (Whole (negsuc 0)))

-- ---- units

-- how many there are (15.5.5.1); no text of the profile is longer
abbrev pub size : List ℕ → Given
size t = if is_short t then Ok (whole (length t)) else Err scope.TextLength

-- the one at a place, of 16 bits, or NaN (15.5.4.5)
abbrev pub unit_number : ℕ → Primitive
unit_number u = whole (u % 65536)

abbrev pub unit : List ℕ → Num → Primitive
unit t i = option_map_or unit_number (option_and_then (slice_get t) (place_of i)) (Number NaN)

-- those from a place on and before another (15.5.4.13, 15.5.4.15)
abbrev pub part : List ℕ → Num → Num → Primitive
part t i j =
    let from = place_within (length t) i in
    Text (take (place_within (length t) j - from) (drop from t))

-- the text of one, by ToUint16 (9.7, 15.5.3.2)
abbrev pub character : Num → Primitive
character n = Text (to_uint32 n % 65536 ∷ [])

-- ---- where a text stands in another

-- from a place on, the first one (15.5.4.7)
abbrev pub index_of : List ℕ → List ℕ → Num → Primitive
index_of t mark i =
    let from = place_within (length t) i in place_or_none (first_in mark (drop from t) from)

-- not behind a place, the last one (15.5.4.8)
abbrev pub last_index_of : List ℕ → List ℕ → Num → Primitive
last_index_of t mark i = place_or_none (last_in mark t (last_place_within (length t) i))

-- ---- letters (15.5.4.16, 15.5.4.18)

abbrev pub small : ℕ → ℕ
small u = if nat_le 65 u && nat_le u 90 then u + 32 else u

abbrev pub great : ℕ → ℕ
great u = if nat_le 97 u && nat_le u 122 then u - 32 else u

-- a unit past ASCII leaves the profile
abbrev pub changed : (ℕ → ℕ) → List ℕ → Given
changed change t =
    if list_all is_ascii t then Ok (Text (map change t)) else Err scope.CaseChange

-- ---- the number at the front of a text (15.1.2.2, 15.1.2.3)

abbrev pub stop_kind : Stop → ScopeKind
stop_kind stop.Fraction = scope.Fraction
stop_kind stop.Range = scope.Range
stop_kind stop.TextLength = scope.TextLength

abbrev pub of_number : Result Num Stop → Given
of_number (Ok n) = Ok (Number n)
of_number (Err why) = Err (stop_kind why)

-- Result(6) of 15.1.2.2 is a number from 2 to 36, 0, or another one, which gives NaN
abbrev pub parse_int : List ℕ → Num → Given
parse_int t (Whole (pos radix)) = of_number (front_integer radix t)
parse_int t radix = Ok (Number NaN)

abbrev pub parse_float : List ℕ → Given
parse_float t = of_number (front_decimal t)

-- ---- by what they take

abbrev pub take_text : (List ℕ → PrimitiveRow) → PrimitiveRow
take_text f (Text t ∷ qs) = f t qs
take_text f qs = refused

abbrev pub take_number : (Num → PrimitiveRow) → PrimitiveRow
take_number f (Number n ∷ qs) = f n qs
take_number f qs = refused

-- nothing more is taken
abbrev pub give : Given → PrimitiveRow
give g [] = g
give g qs = refused

abbrev pub digits_row : PrimitiveRow
digits_row = take_number (λ n. take_number (λ radix. give (digits_of n radix)))

abbrev pub size_row : PrimitiveRow
size_row = take_text (λ t. give (size t))

abbrev pub unit_row : PrimitiveRow
unit_row = take_text (λ t. take_number (λ i. give (Ok (unit t i))))

abbrev pub part_row : PrimitiveRow
part_row = take_text (λ t. take_number (λ i. take_number (λ j. give (Ok (part t i j)))))

abbrev pub character_row : PrimitiveRow
character_row = take_number (λ n. give (Ok (character n)))

abbrev pub index_of_row : PrimitiveRow
index_of_row = take_text (λ t. take_text (λ m. take_number (λ i. give (Ok (index_of t m i)))))

abbrev pub last_index_of_row : PrimitiveRow
last_index_of_row =
    take_text (λ t. take_text (λ m. take_number (λ i. give (Ok (last_index_of t m i)))))

abbrev pub lower_row : PrimitiveRow
lower_row = take_text (λ t. give (changed small t))

abbrev pub upper_row : PrimitiveRow
upper_row = take_text (λ t. give (changed great t))

abbrev pub parse_int_row : PrimitiveRow
parse_int_row = take_text (λ t. take_number (λ r. give (parse_int t r)))

abbrev pub parse_float_row : PrimitiveRow
parse_float_row = take_text (λ t. give (parse_float t))

abbrev pub row : TextOperation → PrimitiveRow
row operation.Digits = digits_row
row operation.Size = size_row
row operation.Unit = unit_row
row operation.Part = part_row
row operation.Character = character_row
row operation.IndexOf = index_of_row
row operation.LastIndexOf = last_index_of_row
row operation.Lower = lower_row
row operation.Upper = upper_row
row operation.ParseInt = parse_int_row
row operation.ParseFloat = parse_float_row

-- the operations in the order of their numbers, of which the first is that of `$digits`
abbrev pub text_operations : List TextOperation
text_operations =
    operation.Digits
    ∷ operation.Size
    ∷ operation.Unit
    ∷ operation.Part
    ∷ operation.Character
    ∷ operation.IndexOf
    ∷ operation.LastIndexOf
    ∷ operation.Lower
    ∷ operation.Upper
    ∷ operation.ParseInt
    ∷ operation.ParseFloat ∷ []
