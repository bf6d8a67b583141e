-- The parts of a value, one after another.
use Rattle.std.specs.Prelude.{◌≡◌, ℕ, suc, ◌+◌, ◌-◌, ◌≤◌, if◌then◌else◌, Bool, ◌&&◌, List, [], ◌∷◌, ◌++◌, map, length, slice_get, Option, Some, is_some, Result}
use Rattle.std.specs.Option.{option_map}
use lib.Chars.{codes}
use Rattle.serde_json.specs.Data.{Data, string}
use Rattle.ja_base.specs.declared.ids.Label.{Label}
use Rattle.ja_graph.specs.declared.program.Program.{Program}
use Rattle.ja_abstract.specs.AbstractState.{label_number}
use Rattle.ja_cert.specs.Certificate.{label_data, number_words, text_words}
use Rattle.ja_cert.specs.Wrong.{flag_words, here_unless, is_behind, is_of_register, is_of_entry, is_of_property, number_classes, part_rank, position, text_classes}
use Rattle.ja_cert_parts.specs.code.Reading.{Reads}
use Rattle.ja_cert_parts.specs.declared.fault.Fault.{Fault}
use Rattle.ja_cert_parts.specs.declared.parts.Flag.{Flag}
use Rattle.ja_cert_parts.specs.declared.parts.Flag.TheVariants as flag
use Rattle.ja_cert_parts.specs.declared.parts.Part.{Part}
use Rattle.ja_cert_parts.specs.declared.parts.Part.TheVariants as part
use Rattle.ja_cert_parts.specs.declared.parts.Role.{Role}
use Rattle.ja_cert_parts.specs.declared.parts.Role.TheVariants as role

-- ---- the parts that a value may have

abbrev pub allowed_of : Role → ℕ → Bool
allowed_of role.Register = is_of_register
allowed_of role.Entry = is_of_entry
allowed_of role.Property = is_of_property

-- ---- ranks

abbrev pub flag_rank : Flag → ℕ
flag_rank flag.Absent = 0
flag_rank flag.Entry = 1
flag_rank flag.Row = 2
flag_rank flag.Undefined = 3
flag_rank flag.Null = 4
flag_rank flag.True = 5
flag_rank flag.False = 6
flag_rank flag.NaN = 7

abbrev pub rank_of : Part → ℕ
rank_of (part.Flag f) = flag_rank f
rank_of (part.Number n) = 8
rank_of (part.Text t) = 9
rank_of (part.Label l) = 10 + label_number l

-- the place of a word that begins with neither `=` nor `'`
unfoldable pub named_rank : List ℕ → Option ℕ
named_rank w =
    if is_some (position number_classes w) then Some 8
    else if is_some (position text_classes w) then Some 9 else position flag_words w

-- ---- how they are written

abbrev pub flag_word : Flag → List ℕ
flag_word flag.Absent = codes "absent"
flag_word flag.Entry = codes "entry"
flag_word flag.Row = codes "row"
flag_word flag.Undefined = codes "undefined"
flag_word flag.Null = codes "null"
flag_word flag.True = codes "true"
flag_word flag.False = codes "false"
flag_word flag.NaN = codes "nan"

-- a number part that is something has one word, and so has a text part
abbrev pub first_word : List (List ℕ) → Data
first_word [] = string []
first_word (w ∷ ws) = string w

abbrev pub part_data : Part → Data
part_data (part.Flag f) = string (flag_word f)
part_data (part.Number n) = first_word (number_words n)
part_data (part.Text t) = first_word (text_words t)
part_data (part.Label l) = label_data l

-- what is answered of data that stand at this place in the order of parts, if they do
abbrev pub ReadsPart : Option ℕ → Data → Result Part Fault → Type 0
ReadsPart place d result =
    Reads (here_unless (is_some place))
    (λ x. (part_data x ≡ d) × (place ≡ Some (rank_of x))) result

-- the labels among some parts
unfoldable pub labels_among : List Part → List Label
labels_among [] = []
labels_among (part.Label l ∷ xs) = l ∷ labels_among xs
labels_among (x ∷ xs) = labels_among xs

-- ---- parts in order

-- a part of a program's values, which stands at the place of its rank
abbrev pub IsPart : Program → Part → Type 0
IsPart p x = part_rank p (part_data x) ≡ Some (rank_of x)

-- parts in ascending order by rank, from a rank on
unfoldable pub AreFrom : Program → ℕ → List Part → Type 0
AreFrom p k [] = Unit {0}
AreFrom p k (x ∷ xs) = (k ≤ rank_of x) × IsPart p x × AreFrom p (suc (rank_of x)) xs

-- the rank of the last one of some
abbrev pub last_rank : List Part → Option (List ℕ)
last_rank xs = option_map (λ (x : Part). rank_of x ∷ []) (slice_get xs (length xs - 1))

-- whether a value that may have parts of some ranks, and begins so, may have this rank next
abbrev pub may_follow : (ℕ → Bool) → List Part → ℕ → Bool
may_follow allowed xs k = allowed k && is_behind (last_rank xs) (k ∷ [])

-- words that are taken off the front of parts, from a rank on, and what is left, from another on
unfoldable pub Takes : ℕ → ℕ → List (List ℕ) → List Part → List Part → Type 0
Takes k j words xs rest =
    (p : Program) → AreFrom p k xs
    → (map part_data xs ≡ map string words ++ map part_data rest) × AreFrom p j rest
