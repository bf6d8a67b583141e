-- The lines of a table: of each context the values at entry that are demanded, and its states. The
-- sites that they name are explained in the report.
use Rattle.std.specs.Prelude.{ℕ, Bool, false, not, ◌&&◌, ◌||◌, if◌then◌else◌, List, [], ◌∷◌, ◌++◌, map, length, Option}
use Rattle.std.specs.List.{flat_map, range_with_len}
use Rattle.std.specs.Option.{option_map_or}
use Rattle.std.specs.Fmt.{decimal}
use lib.Chars.{codes}
use Rattle.ja_base.specs.declared.ids.Context.{Context}
use Rattle.ja_base.specs.declared.ids.FnId.{FnId}
use Rattle.ja_base.specs.declared.ids.Label.{Label}
use Rattle.ja_base.specs.declared.ids.Site.{Site}
use Rattle.ja_graph.specs.declared.program.Program.{Program}
use Rattle.ja_machine.specs.Frames.{parameters_of, registers_of}
use Rattle.ja_abstract.specs.declared.abstraction.May.{May}
use Rattle.ja_abstract.specs.declared.abstraction.AAttrs.{AAttrs}
use Rattle.ja_abstract.specs.declared.abstraction.Mask.{Mask}
use Rattle.ja_abstract.specs.declared.abstraction.Key.{Key}
use Rattle.ja_abstract.specs.AbstractValue.{AbstractValue, AbstractProperty, has_part}
use Rattle.ja_abstract.specs.AbstractState.{AbstractState, sites_below, labels_of, keys_of}
use Rattle.ja_abstract.specs.Resolved.{Entries}
use Rattle.ja_rows.specs.Listed.{contexts_of}
use Rattle.ja_rows.specs.Table.{Table, node_numbers}
use Rattle.ja_report.specs.Texts.{key_text, site_text, label_text, register_text, value_labels, value_text, attrs_text}

-- a context, with the number of values that it demands, a demanded value at entry, a node that has
-- a state, and what that state has besides what it had at entry: of a register also how many
-- parameters its function has
pub data Line : Type 0 where
  head : Context → ℕ → Line
  entry : Label → Key → AbstractProperty → Line
  point : ℕ → Line
  register : ℕ → ℕ → AbstractValue → Line
  property : Label → Key → AbstractProperty → Line
  alloc : Site → Mask → Line

-- the label and the key that have a property, and the property with its value and attributes
unfoldable pub owner_text : Program → Label → Key → List ℕ
owner_text p l k = label_text p l ++ codes " " ++ key_text p k

unfoldable pub property_text : Program → Label → Key → AbstractProperty → List ℕ
property_text p l k q =
    owner_text p l k ++ codes " " ++ value_text p q.value ++ codes " " ++ attrs_text k q.attrs
    ++ codes "\n"

-- objects made at a site since the entry: surely some, maybe some, or neither, which no table has
abbrev pub mask_text : Mask → List ℕ
mask_text m = if m.some then (if m.none then codes "maybe" else codes "some") else codes "none"

-- a context is its function's number and its receiver
unfoldable pub context_text : Program → Context → List ℕ
context_text p x = decimal x.function.0 ++ codes " " ++ label_text p x.receiver

-- the text of a line
unfoldable pub line_text : Program → Line → List ℕ
line_text p (head x n) =
    codes "context " ++ context_text p x ++ codes "\nentries " ++ decimal n ++ codes "\n"
line_text p (entry l k q) = codes "entry " ++ property_text p l k q
line_text p (point n) = codes "point " ++ decimal n ++ codes "\n"
line_text p (register parameters r v) =
    register_text parameters r ++ codes " " ++ value_text p v ++ codes "\n"
line_text p (property l k q) = property_text p l k q
line_text p (alloc s m) = codes "alloc " ++ site_text p s ++ codes " " ++ mask_text m ++ codes "\n"

-- the sites of labels, of a value's labels, of a context, and those that a line names
abbrev pub label_sites : List Label → List ℕ
label_sites labels = map (λ (l : Label). l.site.0) labels

abbrev pub value_sites : Program → AbstractValue → List ℕ
value_sites p v = label_sites (value_labels p v)

abbrev pub context_sites : Context → List ℕ
context_sites x = x.receiver.site.0 ∷ []

unfoldable pub line_sites : Program → Line → List ℕ
line_sites p (head x n) = context_sites x
line_sites p (entry l k q) = l.site.0 ∷ value_sites p q.value
line_sites p (point n) = []
line_sites p (register parameters r v) = value_sites p v
line_sites p (property l k q) = l.site.0 ∷ value_sites p q.value
line_sites p (alloc s m) = s.0 ∷ []

-- the demanded values at entry, by label and key
unfoldable pub entry_line : Entries → Label → Key → List Line
entry_line entries l k = option_map_or (λ (q : AbstractProperty). entry l k q ∷ []) (entries l k) []

unfoldable pub entry_lines : Program → Entries → List Line
entry_lines p entries =
    flat_map (λ (l : Label). flat_map (entry_line entries l) (keys_of p)) (labels_of p)

-- the registers that are not exactly undefined
unfoldable pub is_undefined : Program → AbstractValue → Bool
is_undefined p v =
    v.flags.undefined && not (has_part (labels_of p)
    (record v { flags = record v.flags { undefined = false } }))

unfoldable pub register_line : Program → ℕ → ℕ → AbstractValue → List Line
register_line p parameters r v = if is_undefined p v then [] else register parameters r v ∷ []

unfoldable pub register_lines : Program → FnId → AbstractState → List Line
register_lines p f a =
    flat_map (λ (r : ℕ). register_line p (parameters_of p f) r (a.register r))
    (range_with_len 0 (registers_of p f))

-- the properties that are not exactly as at entry, or have an attribute that is known, by label and
-- key
abbrev pub is_known : May → Bool
is_known m = m.set || m.unset

abbrev pub has_attrs : AAttrs → Bool
has_attrs a = is_known a.read_only || is_known a.dont_enum || is_known a.dont_delete

unfoldable pub is_entry : Program → AbstractProperty → Bool
is_entry p q =
    q.value.flags.entry && not (has_part (labels_of p)
    (record q.value { flags = record q.value.flags { entry = false } }))
    && not (has_attrs q.attrs)

unfoldable pub property_line : Program → Label → Key → AbstractProperty → List Line
property_line p l k q = if is_entry p q then [] else property l k q ∷ []

unfoldable pub object_lines : Program → Label → (Key → AbstractProperty) → List Line
object_lines p l properties = flat_map (λ (k : Key). property_line p l k (properties k)) (keys_of p)

unfoldable pub property_lines : Program → AbstractState → List Line
property_lines p a = flat_map (λ (l : Label). object_lines p l (a.property l)) (labels_of p)

-- the masks that are not exactly none, by site
unfoldable pub mask_line : Site → Mask → List Line
mask_line s m = if m.none && not m.some then [] else alloc s m ∷ []

unfoldable pub mask_lines : Program → AbstractState → List Line
mask_lines p a = flat_map (λ (s : Site). mask_line s (a.mask s.0)) (sites_below (length p.sites))

-- a node with its state: its registers, properties and masks
unfoldable pub state_lines : Program → FnId → ℕ → AbstractState → List Line
state_lines p f n a = point n ∷ (register_lines p f a ++ property_lines p a ++ mask_lines p a)

-- the nodes of a function that have a state, in order
unfoldable pub node_lines : Program → FnId → (ℕ → Option AbstractState) → ℕ → List Line
node_lines p f states n = option_map_or (state_lines p f n) (states n) []

unfoldable pub point_lines : Program → FnId → (ℕ → Option AbstractState) → List Line
point_lines p f states = flat_map (node_lines p f states) (node_numbers p f)

-- a context, its values at entry, and then its states
unfoldable pub context_lines : Program → Context → Entries → (ℕ → Option AbstractState) → List Line
context_lines p x entries states =
    head x (length (entry_lines p entries))
    ∷ (entry_lines p entries ++ point_lines p x.function states)

-- each context, in order
abbrev pub table_lines : Program → Table → List Line
table_lines p t =
    flat_map (λ (x : Context). context_lines p x (t.entry x) (t.state x)) (contexts_of p t)
