-- A key put into a list in the program's order, and the classes behind a value.
use Rattle.std.specs.Prelude.{Bool, true, false, if◌then◌else◌, nat_lt, List, [], ◌∷◌}
use lib.Chars.{codes}
use Rattle.ja_graph.specs.declared.program.Program.{Program}
use Rattle.ja_abstract.specs.declared.abstraction.Key.{Key}
use Rattle.ja_abstract.specs.declared.abstraction.Key.TheVariants as key
use Rattle.ja_abstract.specs.declared.abstraction.NumberPart.{NumberPart}
use Rattle.ja_abstract.specs.declared.abstraction.NumberPart.TheVariants as number_part
use Rattle.ja_abstract.specs.declared.abstraction.TextPart.{TextPart}
use Rattle.ja_abstract.specs.declared.abstraction.TextPart.TheVariants as text_part
use Rattle.ja_abstract.specs.AbstractState.{same_key}
use Rattle.ja_abstract.specs.AbstractValue.{AbstractValue}
use Rattle.ja_abstract.specs.Keys.{text_key, whole_text}
use Rattle.ja_astate.specs.Keys.{of_parts}

-- names by their numbers, behind them the other indices, and then the other names
abbrev pub is_before : Key → Key → Bool
is_before (key.Name m) (key.Name n) = nat_lt m.0 n.0
is_before (key.Name m) k = true
is_before key.OtherIndex key.OtherName = true
is_before j k = false

-- the key is put behind those that are before it, if it isn't there
abbrev pub insert_key : Key → List Key → List Key
insert_key k [] = k ∷ []
insert_key k (x ∷ xs) =
    if is_before x k then x ∷ insert_key k xs else if same_key x k then x ∷ xs else k ∷ x ∷ xs

-- ---- a value's classes, and its one text, one number and NaN

abbrev pub class_of_text : TextPart → TextPart
class_of_text (text_part.One t) = text_part.Nothing
class_of_text part = part

abbrev pub class_of_number : NumberPart → NumberPart
class_of_number (number_part.One z) = number_part.Nothing
class_of_number part = part

abbrev pub classes_of : AbstractValue → AbstractValue
classes_of v = of_parts (class_of_text v.text) (class_of_number v.number)

abbrev pub with_text : Program → TextPart → List Key → List Key
with_text p (text_part.One t) keys = insert_key (text_key p t) keys
with_text p part keys = keys

abbrev pub with_number : Program → NumberPart → List Key → List Key
with_number p (number_part.One z) keys = insert_key (text_key p (whole_text z)) keys
with_number p part keys = keys

abbrev pub with_nan : Program → Bool → List Key → List Key
with_nan p nan keys = if nan then insert_key (text_key p (codes "NaN")) keys else keys
