-- A certificate has no float.
use Rattle.std.proofs.Common.{◌≡◌, ℕ, List, [], ◌∷◌, ◌++◌, map, refl, ap, ◌∙◌, false}
use Rattle.serde_json.specs.Data.{Data, string}
use Rattle.serde_json.specs.View.{items_of}
use Rattle.serde_json.specs.Written.{has_float, items_have_float}
use Rattle.ja_base.specs.declared.ids.Label.{Label}
use Rattle.ja_prim.specs.declared.signature.Signature.{Signature}
use Rattle.ja_graph.specs.declared.program.Program.{Program}
use Rattle.ja_abstract.specs.declared.abstraction.Key.{Key}
use Rattle.ja_abstract.specs.declared.abstraction.Key.TheVariants as key
use Rattle.ja_abstract.specs.declared.abstraction.Slot.TheVariants as slot
use Rattle.ja_abstract.specs.AbstractValue.{AbstractValue}
use Rattle.ja_rows.specs.declared.table.Edge.{Edge}
use Rattle.ja_rows.specs.declared.table.Item.{Item}
use Rattle.ja_rows.specs.declared.table.Item.TheVariants.{Open, Step, Fill, Back}
use Rattle.ja_report.specs.Lines.{Line, head, entry, point, register, property, alloc}
use Rattle.ja_report.specs.Report.{kind_parts}
use Rattle.ja_report.specs.Texts.{value_labels}
use Rattle.ja_cert.specs.Certificate.{device_data, edge_data, flag_words, item_data, key_data, label_data, line_data, number_words, text_words, value_data}

strings_before : (words : List (List ℕ)) (ds : List Data) → items_have_float (items_of ds) ≡ false
    → items_have_float (items_of (map string words ++ ds)) ≡ false
strings_before [] ds none = none
strings_before (w ∷ ws) ds none = strings_before ws ds none

labels_none : (ls : List Label) → items_have_float (items_of (map label_data ls)) ≡ false
labels_none [] = refl
labels_none (l ∷ ls) = labels_none ls

strings_none : (words : List (List ℕ)) → items_have_float (items_of (map string words)) ≡ false
strings_none [] = refl
strings_none (w ∷ ws) = strings_none ws

pub value_none : (p : Program) (v : AbstractValue) → has_float (value_data p v) ≡ false
unfolding value_data
value_none p v =
    strings_before (flag_words v.flags ++ number_words v.number ++ text_words v.text)
    (map label_data (value_labels p v)) (labels_none (value_labels p v))

key_none : (k : Key) → has_float (key_data k) ≡ false
key_none (key.Name n) = refl
key_none key.OtherIndex = refl
key_none key.OtherName = refl
key_none (key.Slot slot.Prototype) = refl
key_none (key.Slot slot.Outer) = refl
key_none (key.Slot slot.Scope) = refl
key_none (key.Slot slot.Value) = refl

pub line_none : (p : Program) (x : Line) → has_float (line_data p x) ≡ false
unfolding line_data
line_none p (head x n) = refl
line_none p (entry l k q) = rw (key_none k, value_none p q.value) refl
line_none p (point n) = refl
line_none p (register parameters r v) = rw (value_none p v) refl
line_none p (property l k q) = rw (key_none k, value_none p q.value) refl
line_none p (alloc s m) = refl

pub edge_none : (e : Edge) → has_float (edge_data e) ≡ false
unfolding edge_data
edge_none e = refl

pub item_none : (i : Item) → has_float (item_data i) ≡ false
unfolding item_data
item_none Open = refl
item_none (Step x n) = refl
item_none (Fill e) = rw (edge_none e) refl
item_none (Back e) = rw (edge_none e) refl

pub device_none : (s : Signature) → has_float (device_data s) ≡ false
unfolding device_data
device_none s = rw (strings_none (kind_parts s.kinds)) refl

-- what is known of a value by its data
pub none_of : (d e : Data) → d ≡ e → has_float e ≡ false → has_float d ≡ false
none_of d e is none = ap has_float is ∙ none
