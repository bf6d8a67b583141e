-- The texts of names, keys, labels, values and attributes.
use Rattle.std.specs.Prelude.{ℕ, ◌-◌, Bool, false, not, ◌&&◌, ◌||◌, if◌then◌else◌, ◌==◌, nat_le, List, [], ◌∷◌, ◌++◌, map, filter, length, Option, None, slice_get, nat_lt}
use Rattle.std.specs.List.{list_all, join_with_byte}
use Rattle.std.specs.Option.{option_map_or, option_and_then}
use Rattle.std.specs.Fmt.{decimal, signed_decimal}
use lib.Chars.{codes}
use Rattle.ja_base.specs.declared.ids.Label.{Label}
use Rattle.ja_base.specs.declared.ids.Site.{Site}
use Rattle.ja_prim.specs.Characters.{is_digit}
use Rattle.ja_prim.specs.declared.signature.Signature.{Signature}
use Rattle.ja_graph.specs.declared.builtins.TheConstants.{BUILTIN_CLASSES}
use Rattle.ja_graph.specs.declared.program.Program.{Program}
use Rattle.ja_graph.specs.declared.program.SiteInfo.{SiteInfo}
use Rattle.ja_graph.specs.declared.registers.TheConstants.{CALLEE_REGISTER, COUNT, REST, SCOPE, THIS, THROWN}
use Rattle.ja_machine.specs.Nodes as machine
use Rattle.ja_abstract.specs.declared.abstraction.Flags.{Flags}
use Rattle.ja_abstract.specs.declared.abstraction.NumberPart.{NumberPart}
use Rattle.ja_abstract.specs.declared.abstraction.NumberPart.TheVariants as number_part
use Rattle.ja_abstract.specs.declared.abstraction.TextPart.{TextPart}
use Rattle.ja_abstract.specs.declared.abstraction.TextPart.TheVariants as text_part
use Rattle.ja_abstract.specs.declared.abstraction.May.{May}
use Rattle.ja_abstract.specs.declared.abstraction.AAttrs.{AAttrs}
use Rattle.ja_abstract.specs.declared.abstraction.Slot.{Slot}
use Rattle.ja_abstract.specs.declared.abstraction.Slot.TheVariants as slot
use Rattle.ja_abstract.specs.declared.abstraction.Key.{Key}
use Rattle.ja_abstract.specs.declared.abstraction.Key.TheVariants as key
use Rattle.ja_abstract.specs.AbstractValue.{AbstractValue}
use Rattle.ja_abstract.specs.AbstractState.{labels_of}
use Rattle.ja_texts.specs.Texts.{plain, units_text, quoted}

-- ---- names and keys

-- letters, digits, `_` and `$`, and no digit first
abbrev pub is_letter : ℕ → Bool
is_letter c = (nat_le 65 c && nat_le c 90) || (nat_le 97 c && nat_le c 122)

abbrev pub is_name_unit : ℕ → Bool
is_name_unit c = is_letter c || is_digit c || (c == 95) || (c == 36)

unfoldable pub is_bare : List ℕ → Bool
is_bare t =
    option_map_or (λ (c : ℕ). not (is_digit c)) (slice_get t 0) false && list_all is_name_unit t

-- such a name stands as it is, any other in quotes
unfoldable pub name_text : List ℕ → List ℕ
name_text t = if is_bare t then t else quoted t

abbrev pub slot_text : Slot → List ℕ
slot_text slot.Prototype = codes "[[Prototype]]"
slot_text slot.Outer = codes "[[Outer]]"
slot_text slot.Scope = codes "[[Scope]]"
slot_text slot.Value = codes "[[Value]]"

unfoldable pub key_text : Program → Key → List ℕ
key_text p (key.Name n) = name_text (machine.name_text p n)
key_text p key.OtherIndex = codes "[index]"
key_text p key.OtherName = codes "[other]"
key_text p (key.Slot s) = slot_text s

-- ---- sites and labels

-- a built-in object has a name
abbrev pub builtin_of : Program → Site → Option (List ℕ)
builtin_of p s = option_and_then (λ (info : SiteInfo). info.builtin) (slice_get p.sites s.0)

-- the device of a site: those of devices stand behind those of the built-in objects
unfoldable pub device_of : Program → Site → Option Signature
device_of p s =
    if nat_le (length BUILTIN_CLASSES) s.0 then slice_get p.signatures
    (s.0 - length BUILTIN_CLASSES) else None

-- a device goes by its name
abbrev pub device_text : Signature → List ℕ
device_text device = codes "device." ++ plain device.name

-- any other site goes by its number
abbrev pub numbered_site : Site → List ℕ
numbered_site s = codes "s" ++ decimal s.0

unfoldable pub site_text : Program → Site → List ℕ
site_text p s =
    option_map_or units_text (builtin_of p s)
    (option_map_or device_text (device_of p s) (numbered_site s))

abbrev pub age_text : Bool → List ℕ
age_text old = if old then codes ".old" else codes ".new"

unfoldable pub label_text : Program → Label → List ℕ
label_text p l = site_text p l.site ++ age_text l.old

-- ---- registers

-- behind those that each function has: the parameters, the rest of the arguments, and temporaries
unfoldable pub later_register_text : ℕ → ℕ → List ℕ
later_register_text parameters n =
    if nat_lt n parameters then codes "a" ++ decimal n
    else if n == parameters then codes "rest" else codes "r" ++ decimal (n - parameters - 1)

-- a register of a function with so many parameters
unfoldable pub register_text : ℕ → ℕ → List ℕ
register_text parameters r =
    if r == THROWN.0 then codes "thrown" else if r == THIS.0 then codes "this"
    else if r == SCOPE.0 then codes "scope" else if r == CALLEE_REGISTER.0 then codes "callee"
    else if r == COUNT.0 then codes "count" else later_register_text parameters (r - REST.0)

-- ---- values

-- a part, where it is there
abbrev pub part : Bool → List ℕ → List (List ℕ)
part there text = if there then text ∷ [] else []

-- what is said of the property that has the value
unfoldable pub property_parts : Flags → List (List ℕ)
property_parts f =
    part f.absent (codes "absent") ++ part f.entry (codes "entry") ++ part f.row (codes "row")

-- the primitive values apart from numbers and texts
unfoldable pub primitive_parts : Flags → List (List ℕ)
primitive_parts f =
    part f.undefined (codes "undefined") ++ part f.null (codes "null")
    ++ part f.is_true (codes "true") ++ part f.is_false (codes "false")
    ++ part f.nan (codes "NaN")

unfoldable pub number_parts : NumberPart → List (List ℕ)
number_parts number_part.Nothing = []
number_parts (number_part.One n) = signed_decimal n ∷ []
number_parts number_part.Index = codes "index" ∷ []
number_parts number_part.OtherWhole = codes "otherwhole" ∷ []
number_parts number_part.Whole = codes "whole" ∷ []

unfoldable pub text_parts : TextPart → List (List ℕ)
text_parts text_part.Nothing = []
text_parts (text_part.One t) = quoted t ∷ []
text_parts text_part.IndexText = codes "indextext" ∷ []
text_parts text_part.OtherText = codes "othertext" ∷ []
text_parts text_part.Text = codes "text" ∷ []

-- the labels of a value, in order
abbrev pub value_labels : Program → AbstractValue → List Label
value_labels p v = filter v.label (labels_of p)

unfoldable pub value_parts : Program → AbstractValue → List (List ℕ)
value_parts p v =
    property_parts v.flags ++ primitive_parts v.flags ++ number_parts v.number ++ text_parts v.text
    ++ map (label_text p) (value_labels p v)

-- parts with bars between them
unfoldable pub joined : List (List ℕ) → List ℕ
joined [] = codes "none"
joined (x ∷ xs) = join_with_byte 124 (x ∷ xs)

unfoldable pub value_text : Program → AbstractValue → List ℕ
value_text p v = joined (value_parts p v)

-- ---- attributes

-- the letter where the attribute is surely set, `-` where it surely is not, `?` where either, `.`
-- where neither is known
abbrev pub attr_text : ℕ → May → ℕ
attr_text letter m =
    if m.set then (if m.unset then 63 else letter) else (if m.unset then 45 else 46)

-- ReadOnly, DontEnum and DontDelete; an internal property has none
unfoldable pub attrs_text : Key → AAttrs → List ℕ
attrs_text (key.Slot s) a = codes "..."
attrs_text k a =
    attr_text 82 a.read_only ∷ attr_text 69 a.dont_enum ∷ attr_text 68 a.dont_delete ∷ []
