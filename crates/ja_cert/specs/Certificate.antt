-- The certificate of a table: a JSON object (RFC 8259) with the text and the devices of its
-- program, and what a report lists of the table and of its visits, as numbers and words.
use Rattle.std.specs.Prelude.{ℕ, List, [], ◌∷◌, ◌++◌, map}
use Rattle.std.specs.List.{flat_map}
use Rattle.std.specs.Option.{option_map_or}
use Rattle.std.specs.String.{string_bytes}
use lib.Chars.{codes}
use Rattle.serde_json.specs.Data.{Data, null, number, unsigned, string, array, object, member, no_members}
use Rattle.serde_json.specs.View.{items_of}
use Rattle.serde_json.specs.Written.{compact_text}
use Rattle.ja_base.specs.declared.ids.Context.{Context}
use Rattle.ja_base.specs.declared.ids.FnId.{FnId}
use Rattle.ja_base.specs.declared.ids.Label.{Label}
use Rattle.ja_prim.specs.declared.signature.Signature.{Signature}
use Rattle.ja_graph.specs.declared.program.Program.{Program}
use Rattle.ja_texts.specs.Texts.{four_digits}
use Rattle.ja_abstract.specs.declared.abstraction.Flags.{Flags}
use Rattle.ja_abstract.specs.declared.abstraction.Key.{Key}
use Rattle.ja_abstract.specs.declared.abstraction.Key.TheVariants as key
use Rattle.ja_abstract.specs.declared.abstraction.NumberPart.{NumberPart}
use Rattle.ja_abstract.specs.declared.abstraction.NumberPart.TheVariants as number_part
use Rattle.ja_abstract.specs.declared.abstraction.Slot.TheVariants as slot
use Rattle.ja_abstract.specs.declared.abstraction.TextPart.{TextPart}
use Rattle.ja_abstract.specs.declared.abstraction.TextPart.TheVariants as text_part
use Rattle.ja_abstract.specs.AbstractValue.{AbstractValue}
use Rattle.ja_abstract.specs.AbstractState.{AbstractState, label_number}
use Rattle.ja_abstract.specs.Keys.{whole_text}
use Rattle.ja_rows.specs.declared.table.Edge.{Edge}
use Rattle.ja_rows.specs.declared.table.Item.{Item}
use Rattle.ja_rows.specs.declared.table.Item.TheVariants.{Open, Step, Fill, Back}
use Rattle.ja_rows.specs.Listed.{contexts_of, edges_of}
use Rattle.ja_rows.specs.Table.{Table, node_numbers}
use Rattle.ja_report.specs.Lines.{Line, head, entry, point, register, property, alloc, entry_lines, register_lines, property_lines, mask_lines, mask_text}
use Rattle.ja_report.specs.Report.{kind_parts}
use Rattle.ja_report.specs.Texts.{part, property_parts, value_labels, attrs_text}

-- ---- numbers, lists

abbrev pub whole : ℕ → Data
whole n = number (unsigned n)

abbrev pub listed : List Data → Data
listed ds = array (items_of ds)

-- a label is twice its site, and one more where it is old
abbrev pub label_data : Label → Data
label_data l = whole (label_number l)

-- ---- values

abbrev pub flag_words : Flags → List (List ℕ)
flag_words f =
    property_parts f ++ part f.undefined (codes "undefined") ++ part f.null (codes "null")
    ++ part f.is_true (codes "true") ++ part f.is_false (codes "false")
    ++ part f.nan (codes "nan")

-- one number is a `=` and its digits
abbrev pub number_words : NumberPart → List (List ℕ)
number_words number_part.Nothing = []
number_words (number_part.One z) = (codes "=" ++ whole_text z) ∷ []
number_words number_part.Index = codes "index" ∷ []
number_words number_part.OtherWhole = codes "otherwhole" ∷ []
number_words number_part.Whole = codes "whole" ∷ []

-- one text is a `'` and four hexadecimal digits a unit
abbrev pub text_words : TextPart → List (List ℕ)
text_words text_part.Nothing = []
text_words (text_part.One t) = (codes "'" ++ flat_map four_digits t) ∷ []
text_words text_part.IndexText = codes "indextext" ∷ []
text_words text_part.OtherText = codes "othertext" ∷ []
text_words text_part.Text = codes "text" ∷ []

-- a value is its parts, in the order of the report
unfoldable pub value_data : Program → AbstractValue → Data
value_data p v =
    listed (map string (flag_words v.flags ++ number_words v.number ++ text_words v.text)
    ++ map label_data (value_labels p v))

-- ---- what is listed of a context

-- a key is the number of its name, or a word
abbrev pub key_data : Key → Data
key_data (key.Name n) = whole n.0
key_data key.OtherIndex = string (codes "index")
key_data key.OtherName = string (codes "other")
key_data (key.Slot slot.Prototype) = string (codes "prototype")
key_data (key.Slot slot.Outer) = string (codes "outer")
key_data (key.Slot slot.Scope) = string (codes "scope")
key_data (key.Slot slot.Value) = string (codes "value")

-- a line of the report that has a value or a mask: a value at entry that is demanded, or a
-- property, a register, or a site with objects that were made
unfoldable pub line_data : Program → Line → Data
line_data p (head x n) = null
line_data p (entry l k q) =
    listed (label_data l ∷ key_data k ∷ value_data p q.value ∷ string (attrs_text k q.attrs) ∷ [])
line_data p (point n) = null
line_data p (register parameters r v) = listed (whole r ∷ value_data p v ∷ [])
line_data p (property l k q) =
    listed (label_data l ∷ key_data k ∷ value_data p q.value ∷ string (attrs_text k q.attrs) ∷ [])
line_data p (alloc s m) = listed (whole s.0 ∷ string (mask_text m) ∷ [])

abbrev pub lines_data : Program → List Line → Data
lines_data p lines = listed (map (line_data p) lines)

-- a node of a function, with its state
unfoldable pub state_data : Program → FnId → ℕ → AbstractState → Data
state_data p f n a =
    object (member (codes "alloc") (lines_data p (mask_lines p a))
    (member (codes "heap") (lines_data p (property_lines p a))
    (member (codes "node") (whole n)
    (member (codes "registers") (lines_data p (register_lines p f a)) no_members))))

-- the nodes of a function that have a state, in order
abbrev pub node_data : Program → Table → Context → ℕ → List Data
node_data p t x n =
    option_map_or (λ (a : AbstractState). state_data p x.function n a ∷ []) (t.state x n) []

unfoldable pub points_data : Program → Table → Context → Data
points_data p t x = listed (flat_map (node_data p t x) (node_numbers p x.function))

unfoldable pub context_data : Program → Table → Context → Data
context_data p t x =
    object (member (codes "entries") (lines_data p (entry_lines p (t.entry x)))
    (member (codes "function") (whole x.function.0)
    (member (codes "points") (points_data p t x)
    (member (codes "receiver") (label_data x.receiver) no_members))))

-- ---- edges, visits, devices

-- a call edge is the function and the receiver of its caller, its node, and those of its callee
unfoldable pub edge_data : Edge → Data
edge_data e =
    listed (whole e.caller.function.0 ∷ label_data e.caller.receiver ∷ whole e.node.0
    ∷ whole e.callee.function.0 ∷ label_data e.callee.receiver ∷ [])

unfoldable pub item_data : Item → Data
item_data Open = listed (string (codes "open") ∷ [])
item_data (Step x n) =
    listed (string (codes "step") ∷ whole x.function.0 ∷ label_data x.receiver ∷ whole n.0 ∷ [])
item_data (Fill e) = listed (string (codes "fill") ∷ edge_data e ∷ [])
item_data (Back e) = listed (string (codes "back") ∷ edge_data e ∷ [])

-- a device is its name and the kinds of its answers
unfoldable pub device_data : Signature → Data
device_data s = listed (string s.name ∷ listed (map string (kind_parts s.kinds)) ∷ [])

-- ---- the whole

-- version 1, of a program, a table and visits
unfoldable pub certificate_data : Program → Table → List Item → Data
certificate_data p t visits =
    object (member (codes "contexts") (listed (map (context_data p t) (contexts_of p t)))
    (member (codes "devices") (listed (map device_data p.signatures))
    (member (codes "edges") (listed (map edge_data (edges_of p t)))
    (member (codes "text") (string (string_bytes p.text))
    (member (codes "version") (whole 1)
    (member (codes "visits") (listed (map item_data visits)) no_members))))))

-- as it is written: without a space, on one line
abbrev pub certificate_text : Program → Table → List Item → List ℕ
certificate_text p t visits = compact_text (certificate_data p t visits) ++ codes "\n"
