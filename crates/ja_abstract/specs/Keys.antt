-- The keys of texts and numbers: a computed key is several of the keys of the program (ES3 11.2.1,
-- 15.4; SAS 2009, properties of unknown names).
use Rattle.std.specs.Prelude.{ℕ, if◌then◌else◌, nat_eq, List, Option, position, ℤ, Bool, true, false, not, ◌&&◌, ◌||◌, filter, None, is_some, Result, Ok}
use Rattle.std.specs.Option.{option_map_or}
use Rattle.std.specs.List.{list_any}
use lib.Pointwise.{pointwise}
use lib.Chars.{codes}
use Rattle.ja_prim.specs.Index.{is_index_text}
use Rattle.ja_prim.specs.declared.primitive.Num.{Num}
use Rattle.ja_prim.specs.declared.primitive.Num.TheVariants.{Whole}
use Rattle.ja_prim.specs.declared.primitive.Primitive.TheVariants.{Number, Text}
use Rattle.ja_prim.specs.declared.stop.Stop.{Stop}
use Rattle.ja_prim.specs.Conversions.{to_number, to_text, index_of}
use Rattle.ja_prim.specs.Texts.{same_text}
use Rattle.ja_graph.specs.declared.program.Program.{Program}
use Rattle.ja_machine.specs.Nodes.{name_text}
use Rattle.ja_abstract.specs.declared.abstraction.Slot.{Slot}
use Rattle.ja_abstract.specs.declared.abstraction.Key.{Key}
use Rattle.ja_abstract.specs.declared.abstraction.Key.TheVariants as key
use Rattle.ja_abstract.specs.AbstractState.{name_key, same_key, keys_of}
use Rattle.ja_abstract.specs.declared.abstraction.NumberPart.{NumberPart}
use Rattle.ja_abstract.specs.declared.abstraction.NumberPart.TheVariants as number_part
use Rattle.ja_abstract.specs.declared.abstraction.TextPart.{TextPart}
use Rattle.ja_abstract.specs.declared.abstraction.TextPart.TheVariants as text_part
use Rattle.ja_abstract.specs.AbstractValue.{AbstractValue}
use Rattle.ja_abstract.specs.Parts.{text_has}

-- ---- what an object has at a text or a slot

pub data Spot : Type 0 where
  named : List ℕ → Spot
  internal : Slot → Spot

-- the key of a text is its name, if the program has that name, else the rest of its kind
abbrev pub name_of : Program → List ℕ → Option ℕ
name_of p t = position (λ name. pointwise nat_eq name t) p.names

abbrev pub rest_key : List ℕ → Key
rest_key t = if is_index_text t then key.OtherIndex else key.OtherName

abbrev pub key_of : Program → Spot → Key
key_of p (named t) = option_map_or name_key (name_of p t) (rest_key t)
key_of p (internal s) = key.Slot s

-- the key of a text, and that of the text of a number
abbrev pub text_key : Program → List ℕ → Key
text_key p t = key_of p (named t)

abbrev pub whole_text : ℤ → List ℕ
whole_text z = to_text (Number (Whole z))

-- ---- what may be the text of a whole number

-- the text says a number of the profile, which is written so
abbrev pub is_written_so : Result Num Stop → List ℕ → Bool
is_written_so (Ok (Whole z)) t = same_text (whole_text z) t
is_written_so result t = false

abbrev pub is_whole_text : List ℕ → Bool
is_whole_text t = is_written_so (to_number (Text t)) t

abbrev pub number_text_has : NumberPart → List ℕ → Bool
number_text_has number_part.Nothing t = false
number_text_has (number_part.One z) t = same_text (whole_text z) t
number_text_has number_part.Index t = is_index_text t
number_text_has number_part.OtherWhole t = is_whole_text t && not (is_index_text t)
number_text_has number_part.Whole t = is_whole_text t

-- ---- the keys of a value

-- a text that the value may have as a key: one of its texts, or the text of one of its numbers
abbrev pub has_key_text : AbstractValue → List ℕ → Bool
has_key_text v t =
    text_has v.text t || (number_text_has v.number t || (v.flags.nan && same_text (codes "NaN") t))

-- whether a rest key may be the key of a text, of the text of a number
abbrev pub text_has_rest : Program → TextPart → Key → Bool
text_has_rest p text_part.Nothing k = false
text_has_rest p (text_part.One t) k = same_key (text_key p t) k
text_has_rest p text_part.IndexText k = same_key key.OtherIndex k
text_has_rest p text_part.OtherText k = same_key key.OtherName k
text_has_rest p text_part.Text k = true

abbrev pub number_has_rest : Program → NumberPart → Key → Bool
number_has_rest p number_part.Nothing k = false
number_has_rest p (number_part.One z) k = same_key (text_key p (whole_text z)) k
number_has_rest p number_part.Index k = same_key key.OtherIndex k
number_has_rest p number_part.OtherWhole k = same_key key.OtherName k
number_has_rest p number_part.Whole k = true

abbrev pub has_rest : Program → AbstractValue → Key → Bool
has_rest p v k =
    text_has_rest p v.text k || (number_has_rest p v.number k
    || (v.flags.nan && same_key (text_key p (codes "NaN")) k))

abbrev pub has_key : Program → AbstractValue → Key → Bool
has_key p v (key.Name n) = has_key_text v (name_text p n)
has_key p v key.OtherIndex = has_rest p v key.OtherIndex
has_key p v key.OtherName = has_rest p v key.OtherName
has_key p v (key.Slot s) = false

-- the keys of a value, in the order of the program's
abbrev pub keys_of_value : Program → AbstractValue → List Key
keys_of_value p v = filter (has_key p v) (keys_of p)

-- ---- the keys of indices

-- the index of a key: of a name that is an index's text, and of no other
abbrev pub index_of_key : Program → Key → Option ℕ
index_of_key p (key.Name n) = index_of (name_text p n)
index_of_key p k = None

-- the key of some index
abbrev pub is_index_key : Program → Key → Bool
is_index_key p key.OtherIndex = true
is_index_key p k = is_some (index_of_key p k)

abbrev pub index_keys : Program → List Key
index_keys p = filter (is_index_key p) (keys_of p)

-- the keys of properties: all but those of slots
abbrev pub is_text_key : Key → Bool
is_text_key (key.Slot s) = false
is_text_key k = true

abbrev pub text_keys : Program → List Key
text_keys p = filter is_text_key (keys_of p)

-- the key is one of the list
abbrev pub is_among_keys : List Key → Key → Bool
is_among_keys keys k = list_any (λ (j : Key). same_key j k) keys
