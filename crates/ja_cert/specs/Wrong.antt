-- The first place at which JSON has another shape than a certificate, by its path: names of members
-- and positions from 0, from outside to inside. The empty path is the whole.
use Rattle.std.specs.Prelude.{ℕ, zero, suc, ◌+◌, ◌*◌, ◌-◌, Bool, true, false, not, ◌&&◌, ◌||◌, if◌then◌else◌, ◌==◌, nat_le, nat_lt, List, [], ◌∷◌, ◌++◌, drop, length, slice_get, Option, Some, None, is_some}
use Rattle.std.specs.List.{list_all, list_any}
use Rattle.std.specs.Option.{option_map, option_map_or, option_and_then}
use Rattle.std.specs.Ordering.{nat_cmp, is_lt}
use Rattle.std.specs.Cmp.Lexicographic.{slice_cmp}
use Rattle.std.specs.Fmt.{decimal}
use lib.Chars.{codes}
use Rattle.serde_json.specs.Data.{Data, Items, no_items, item, Members, no_members, member}
use Rattle.serde_json.specs.Find.{as_array, as_number, as_object, as_str, as_u64}
use Rattle.ja_base.specs.declared.ids.FnId.{FnId}
use Rattle.ja_prim.specs.Texts.{same_text, max_units}
use Rattle.ja_lex.specs.Spots.{max_bytes}
use Rattle.ja_device.specs.Signatures.{is_identifier}
use Rattle.ja_graph.specs.declared.node.Node.{Node}
use Rattle.ja_graph.specs.declared.node.Node.TheVariants as node
use Rattle.ja_graph.specs.declared.node.NodeInfo.{NodeInfo}
use Rattle.ja_graph.specs.declared.program.Program.{Program}
use Rattle.ja_graph.specs.declared.program.TheConstants.{MAX_DEVICES}
use Rattle.ja_graph.specs.Program.{node_at, nodes_of}
use Rattle.ja_machine.specs.Frames.{registers_of}
use Rattle.ja_abstract.specs.Keys.{is_whole_text}

abbrev pub Path : Type 0
Path = List (List ℕ)

-- ---- places

-- the place itself
abbrev pub here : Option Path
here = Some []

abbrev pub here_unless : Bool → Option Path
here_unless b = if b then None else here

-- inside a member of an object, or at a position of a list
abbrev pub under : List ℕ → Option Path → Option Path
under step wrong = option_map (λ (path : Path). step ∷ path) wrong

abbrev pub at : ℕ → Option Path → Option Path
at n wrong = under (decimal n) wrong

-- the first of some
abbrev pub or_else : Option Path → Option Path → Option Path
or_else None wrong = wrong
or_else (Some path) wrong = Some path

abbrev pub first_of : List (Option Path) → Option Path
first_of [] = None
first_of (wrong ∷ more) = or_else wrong (first_of more)

-- ---- what stands at a place

abbrev pub list_in : Items → List Data
list_in no_items = []
list_in (item d ds) = d ∷ list_in ds

abbrev pub list_of : Data → Option (List Data)
list_of d = option_map list_in (as_array d)

abbrev pub whole_of : Data → Option ℕ
whole_of d = option_and_then as_u64 (as_number d)

-- the members of an object that has exactly these, their names in ascending order
abbrev pub members_in : List (List ℕ) → Members → Option (List Data)
members_in [] no_members = Some []
members_in [] (member l d ms) = None
members_in (k ∷ ks) no_members = None
members_in (k ∷ ks) (member l d ms) =
    if same_text l k then option_map (λ (ds : List Data). d ∷ ds) (members_in ks ms) else None

abbrev pub members_of : List (List ℕ) → Data → Option (List Data)
members_of keys d = option_and_then (members_in keys) (as_object d)

abbrev pub is_below : ℕ → Data → Bool
is_below bound d = option_map_or (λ (n : ℕ). nat_lt n bound) (whole_of d) false

abbrev pub is_word : (List ℕ → Bool) → Data → Bool
is_word f d = option_map_or f (as_str d) false

-- the position of a word in a list, if it stands there
unfoldable pub position : List (List ℕ) → List ℕ → Option ℕ
position [] w = None
position (v ∷ vs) w = if same_text v w then Some 0 else option_map suc (position vs w)

abbrev pub position_of : List (List ℕ) → Data → Option ℕ
position_of words d = option_and_then (position words) (as_str d)

-- ---- lists in ascending order

-- What is wrong of a member of a list, by those before it.
abbrev pub MemberWrong : Type 0
MemberWrong = List Data → Data → Option Path

unfoldable pub members_wrong : MemberWrong → List Data → List Data → Option Path
members_wrong f before [] = None
members_wrong f before (d ∷ ds) =
    or_else (at (length before) (f before d)) (members_wrong f (before ++ d ∷ []) ds)

abbrev pub list_wrong : MemberWrong → Data → Option Path
list_wrong f d = option_map_or (members_wrong f []) (list_of d) here

-- numbers, compared one after another
abbrev pub is_less : List ℕ → List ℕ → Bool
is_less a b = is_lt (slice_cmp nat_cmp a b)

-- the last numbers, if there are some, are lower
abbrev pub is_behind : Option (List ℕ) → List ℕ → Bool
is_behind last a = option_map_or (λ (b : List ℕ). is_less b a) last true

-- the last one before a member, if there is one, has lower numbers than the member
abbrev pub is_above : (Data → List ℕ) → List Data → Data → Bool
is_above rank before d =
    is_behind (option_map rank (slice_get before (length before - 1))) (rank d)

-- the number at a position of a list; 0 where there is none
abbrev pub number_at : ℕ → Data → ℕ
number_at i d =
    option_map_or (λ (n : ℕ). n)
    (option_and_then whole_of (option_and_then (λ (ds : List Data). slice_get ds i) (list_of d))) 0

-- ---- numbers of the program

abbrev pub is_function : Program → Data → Bool
is_function p d = is_below (length p.functions) d

abbrev pub is_label : Program → Data → Bool
is_label p d = is_below (2 * length p.sites) d

abbrev pub function_in : Data → FnId
function_in d = record { 0 = option_map_or (λ (n : ℕ). n) (whole_of d) 0 }

-- a node of the function with the number that stands at another place
abbrev pub is_node : Program → Data → Data → Bool
is_node p f d = is_below (length (nodes_of p (function_in f))) d

-- the words for keys that are no names, in order
abbrev pub key_words : List (List ℕ)
key_words =
    codes "index" ∷ codes "other" ∷ codes "prototype" ∷ codes "outer" ∷ codes "scope"
    ∷ codes "value" ∷ []

-- the place of a key in the order of keys, if it is one of the program
abbrev pub key_rank : Program → Data → Option ℕ
key_rank p d =
    if is_below (length p.names) d then whole_of d
    else option_map (λ (n : ℕ). length p.names + n) (position_of key_words d)

-- the position of the first of them that is the word of an internal property
abbrev pub prototype_rank : ℕ
prototype_rank = 2

abbrev pub is_slot : Program → Data → Bool
is_slot p d =
    option_map_or (λ (n : ℕ). nat_le (length p.names + prototype_rank) n) (key_rank p d) false

-- ---- values

abbrev pub flag_words : List (List ℕ)
flag_words =
    codes "absent" ∷ codes "entry" ∷ codes "row" ∷ codes "undefined" ∷ codes "null" ∷ codes "true"
    ∷ codes "false" ∷ codes "nan" ∷ []

-- a `=` and a whole number of the profile as it is written (ES3 9.8.1), or a class of numbers
abbrev pub number_classes : List (List ℕ)
number_classes = codes "index" ∷ codes "otherwhole" ∷ codes "whole" ∷ []

abbrev pub is_number_word : List ℕ → Bool
is_number_word w =
    is_some (position number_classes w)
    || ((option_map_or (λ (c : ℕ). c == 61) (slice_get w 0) false) && is_whole_text (drop 1 w))

-- a `'` and four hexadecimal digits a unit, of no more units than a text may have, or a class of
-- texts
abbrev pub text_classes : List (List ℕ)
text_classes = codes "indextext" ∷ codes "othertext" ∷ codes "text" ∷ []

abbrev pub is_lower_hexadecimal : ℕ → Bool
is_lower_hexadecimal c = (nat_le 48 c && nat_le c 57) || (nat_le 97 c && nat_le c 102)

unfoldable pub is_multiple_of_four : List ℕ → Bool
is_multiple_of_four [] = true
is_multiple_of_four (a ∷ []) = false
is_multiple_of_four (a ∷ b ∷ []) = false
is_multiple_of_four (a ∷ b ∷ c ∷ []) = false
is_multiple_of_four (a ∷ b ∷ c ∷ d ∷ rest) = is_multiple_of_four rest

abbrev pub are_units : List ℕ → Bool
are_units digits =
    list_all is_lower_hexadecimal digits && is_multiple_of_four digits
    && nat_le (length digits) (4 * max_units)

abbrev pub is_text_word : List ℕ → Bool
is_text_word w =
    is_some (position text_classes w)
    || ((option_map_or (λ (c : ℕ). c == 39) (slice_get w 0) false) && are_units (drop 1 w))

-- the places of parts in their order: flags by the positions of their words, and behind them the
-- number, the text, and labels
abbrev pub entry_rank : ℕ
entry_rank = 1

abbrev pub undefined_rank : ℕ
undefined_rank = 3

abbrev pub number_rank : ℕ
number_rank = 8

abbrev pub text_rank : ℕ
text_rank = 9

abbrev pub first_label_rank : ℕ
first_label_rank = 10

-- the place of a part, if it is one
abbrev pub word_rank : List ℕ → Option ℕ
word_rank w =
    if is_number_word w then Some number_rank else if is_text_word w then Some text_rank
    else position flag_words w

abbrev pub label_rank : Program → Data → Option ℕ
label_rank p d =
    if is_label p d then option_map (λ (n : ℕ). first_label_rank + n) (whole_of d) else None

abbrev pub part_rank : Program → Data → Option ℕ
part_rank p d = option_map_or word_rank (as_str d) (label_rank p d)

abbrev pub part_number : Program → Data → List ℕ
part_number p d = option_map_or (λ (n : ℕ). n ∷ []) (part_rank p d) []

-- a value of parts that are allowed by their ranks, in ascending order
unfoldable pub part_wrong : Program → (ℕ → Bool) → MemberWrong
part_wrong p allowed before d =
    here_unless (option_map_or allowed (part_rank p d) false && is_above (part_number p) before d)

unfoldable pub value_wrong : Program → (ℕ → Bool) → Data → Option Path
value_wrong p allowed d = list_wrong (part_wrong p allowed) d

-- a register has no part of a property, which stand before `undefined`, and a value at entry isn't
-- as at entry
abbrev pub is_of_register : ℕ → Bool
is_of_register rank = nat_le undefined_rank rank

abbrev pub is_of_entry : ℕ → Bool
is_of_entry rank = not (rank == entry_rank)

abbrev pub is_of_property : ℕ → Bool
is_of_property rank = true

-- the attributes of a property, or of an internal property
abbrev pub is_attr : ℕ → ℕ → Bool
is_attr letter c = (c == letter) || (c == 63) || (c == 45) || (c == 46)

abbrev pub are_attrs : List ℕ → Bool
are_attrs (r ∷ e ∷ d ∷ []) = is_attr 82 r && is_attr 69 e && is_attr 68 d
are_attrs w = false

abbrev pub unknown_attrs : List ℕ
unknown_attrs = codes "..."

unfoldable pub attrs_wrong : Program → Data → Data → Option Path
attrs_wrong p k d =
    here_unless (is_word (if is_slot p k then same_text unknown_attrs else are_attrs) d)

-- ---- what is listed of a context

abbrev pub value_is : List ℕ → Data → Bool
value_is word d =
    option_map_or (λ (ds : List Data). (length ds == 1) && list_all (is_word (same_text word)) ds)
    (list_of d) false

-- by label and key
abbrev pub pair_number : Program → Data → List ℕ
pair_number p d =
    let k = option_and_then (key_rank p) (option_and_then (λ (ds : List Data). slice_get ds 1) (list_of d)) in
    number_at 0 d ∷ option_map_or (λ (n : ℕ). n) k 0 ∷ []

-- a label and a key with a value, of which some parts are allowed, and attributes
abbrev pub owned_fields_wrong : Program → (ℕ → Bool) → Bool → List Data → Option Path
owned_fields_wrong p allowed ascends (l ∷ k ∷ v ∷ a ∷ []) =
    first_of (at 0 (here_unless (is_label p l)) ∷ at 1 (here_unless (is_some (key_rank p k)))
    ∷ here_unless ascends ∷ at 2 (value_wrong p allowed v) ∷ at 3 (attrs_wrong p k a) ∷ [])
owned_fields_wrong p allowed ascends ds = here

unfoldable pub owned_wrong : Program → (ℕ → Bool) → Bool → Data → Option Path
owned_wrong p allowed ascends d =
    option_map_or (owned_fields_wrong p allowed ascends) (list_of d) here

-- the value at entry of a label and a key
unfoldable pub entry_wrong : Program → MemberWrong
entry_wrong p before d = owned_wrong p is_of_entry (is_above (pair_number p) before d) d

-- a property, which isn't just as at entry
abbrev pub are_of_entry : List Data → Bool
are_of_entry (l ∷ k ∷ v ∷ a ∷ []) =
    value_is (codes "entry") v && is_word (same_text unknown_attrs) a
are_of_entry ds = false

abbrev pub is_entry : Data → Bool
is_entry d = option_map_or are_of_entry (list_of d) false

unfoldable pub property_wrong : Program → MemberWrong
property_wrong p before d =
    or_else (owned_wrong p is_of_property (is_above (pair_number p) before d) d)
    (here_unless (not (is_entry d)))

-- a register of a function, which isn't just undefined
abbrev pub first_number : Data → List ℕ
first_number d = number_at 0 d ∷ []

abbrev pub register_fields_wrong : Program → FnId → Bool → List Data → Option Path
register_fields_wrong p f ascends (r ∷ v ∷ []) =
    first_of (at 0 (here_unless (is_below (registers_of p f) r)) ∷ here_unless ascends
    ∷ at 1 (value_wrong p is_of_register v)
    ∷ here_unless (not (value_is (codes "undefined") v)) ∷ [])
register_fields_wrong p f ascends ds = here

unfoldable pub register_wrong : Program → FnId → MemberWrong
register_wrong p f before d =
    option_map_or (register_fields_wrong p f (is_above first_number before d)) (list_of d) here

-- a site at which some objects were made, surely or maybe
abbrev pub mask_words : List (List ℕ)
mask_words = codes "some" ∷ codes "maybe" ∷ []

abbrev pub mask_fields_wrong : Program → Bool → List Data → Option Path
mask_fields_wrong p ascends (s ∷ m ∷ []) =
    first_of (at 0 (here_unless (is_below (length p.sites) s)) ∷ here_unless ascends
    ∷ at 1 (here_unless (is_some (position_of mask_words m))) ∷ [])
mask_fields_wrong p ascends ds = here

unfoldable pub mask_wrong : Program → MemberWrong
mask_wrong p before d =
    option_map_or (mask_fields_wrong p (is_above first_number before d)) (list_of d) here

-- a node of a function with its state
abbrev pub point_keys : List (List ℕ)
point_keys = codes "alloc" ∷ codes "heap" ∷ codes "node" ∷ codes "registers" ∷ []

abbrev pub member_number : List (List ℕ) → ℕ → Data → ℕ
member_number keys i d =
    option_map_or (λ (n : ℕ). n)
    (option_and_then whole_of
    (option_and_then (λ (ds : List Data). slice_get ds i) (members_of keys d))) 0

-- the position of the node among these keys
abbrev pub node_position : ℕ
node_position = 2

abbrev pub point_number : Data → List ℕ
point_number d = member_number point_keys node_position d ∷ []

abbrev pub point_fields_wrong : Program → FnId → Bool → List Data → Option Path
point_fields_wrong p f ascends (masks ∷ heap ∷ node ∷ registers ∷ []) =
    first_of (under (codes "node") (here_unless (is_below (length (nodes_of p f)) node))
    ∷ here_unless ascends ∷ under (codes "registers") (list_wrong (register_wrong p f) registers)
    ∷ under (codes "heap") (list_wrong (property_wrong p) heap)
    ∷ under (codes "alloc") (list_wrong (mask_wrong p) masks) ∷ [])
point_fields_wrong p f ascends ds = here

unfoldable pub point_wrong : Program → FnId → MemberWrong
point_wrong p f before d =
    option_map_or (point_fields_wrong p f (is_above point_number before d))
    (members_of point_keys d) here

-- a context, with its values at entry and its states
abbrev pub context_keys : List (List ℕ)
context_keys =
    codes "entries" ∷ codes "function" ∷ codes "points" ∷ codes "receiver" ∷ []

-- the positions of the function and of the receiver among these keys
abbrev pub function_position : ℕ
function_position = 1

abbrev pub receiver_position : ℕ
receiver_position = 3

abbrev pub context_number : Data → List ℕ
context_number d =
    member_number context_keys function_position d
    ∷ member_number context_keys receiver_position d ∷ []

abbrev pub context_fields_wrong : Program → Bool → List Data → Option Path
context_fields_wrong p ascends (entries ∷ function ∷ points ∷ receiver ∷ []) =
    first_of (under (codes "function") (here_unless (is_function p function))
    ∷ under (codes "receiver") (here_unless (is_label p receiver)) ∷ here_unless ascends
    ∷ under (codes "entries") (list_wrong (entry_wrong p) entries)
    ∷ under (codes "points") (list_wrong (point_wrong p (function_in function)) points) ∷ [])
context_fields_wrong p ascends ds = here

unfoldable pub context_wrong : Program → MemberWrong
context_wrong p before d =
    option_map_or (context_fields_wrong p (is_above context_number before d))
    (members_of context_keys d) here

-- ---- edges and visits

-- five numbers: a node of a context, and the context in which it enters a function
abbrev pub edge_numbers_wrong : Program → List Data → Option Path
edge_numbers_wrong p (f ∷ r ∷ n ∷ g ∷ q ∷ []) =
    first_of (at 0 (here_unless (is_function p f)) ∷ at 1 (here_unless (is_label p r))
    ∷ at 2 (here_unless (is_node p f n)) ∷ at 3 (here_unless (is_function p g))
    ∷ at 4 (here_unless (is_label p q)) ∷ [])
edge_numbers_wrong p ds = here

unfoldable pub edge_shape_wrong : Program → Data → Option Path
edge_shape_wrong p d = option_map_or (edge_numbers_wrong p) (list_of d) here

abbrev pub edge_number : Data → List ℕ
edge_number d =
    number_at 0 d ∷ number_at 1 d ∷ number_at 2 d ∷ number_at 3 d ∷ number_at 4 d ∷ []

-- an edge leads from a call or a conversion, between contexts that are listed
abbrev pub calls : Node → Bool
calls (node.Call dst callee receiver args error) = true
calls (node.New dst callee args site error) = true
calls (node.Convert dst src hint other) = true
calls n = false

abbrev pub is_calling : Program → Data → Bool
is_calling p d =
    option_map_or (λ (i : NodeInfo). calls i.node)
    (node_at p (record { 0 = number_at 0 d }) (record { 0 = number_at 2 d })) false

abbrev pub is_listed : List Data → List ℕ → Bool
is_listed contexts x = list_any (λ (c : Data). same_text (context_number c) x) contexts

abbrev pub are_listed : List Data → Data → Bool
are_listed contexts d =
    is_listed contexts (number_at 0 d ∷ number_at 1 d ∷ [])
    && is_listed contexts (number_at 3 d ∷ number_at 4 d ∷ [])

unfoldable pub edge_wrong : Program → List Data → MemberWrong
edge_wrong p contexts before d =
    first_of (edge_shape_wrong p d ∷ here_unless (is_above edge_number before d)
    ∷ here_unless (are_listed contexts d && is_calling p d) ∷ [])

-- a visit begins with its word
abbrev pub open_wrong : List Data → Option Path
open_wrong [] = None
open_wrong ds = here

unfoldable pub step_wrong : Program → List Data → Option Path
step_wrong p (f ∷ r ∷ n ∷ []) =
    first_of (at 1 (here_unless (is_function p f)) ∷ at 2 (here_unless (is_label p r))
    ∷ at 3 (here_unless (is_node p f n)) ∷ [])
step_wrong p ds = here

unfoldable pub along_wrong : Program → List Data → Option Path
along_wrong p (e ∷ []) = at 1 (edge_shape_wrong p e)
along_wrong p ds = here

abbrev pub item_words : List (List ℕ)
item_words = codes "open" ∷ codes "step" ∷ codes "fill" ∷ codes "back" ∷ []

unfoldable pub behind_word_wrong : Program → Option ℕ → List Data → Option Path
behind_word_wrong p None ds = at 0 here
behind_word_wrong p (Some zero) ds = open_wrong ds
behind_word_wrong p (Some (suc zero)) ds = step_wrong p ds
behind_word_wrong p (Some n) ds = along_wrong p ds

abbrev pub item_fields_wrong : Program → List Data → Option Path
item_fields_wrong p [] = here
item_fields_wrong p (w ∷ ds) = behind_word_wrong p (position_of item_words w) ds

unfoldable pub item_wrong : Program → MemberWrong
item_wrong p before d = option_map_or (item_fields_wrong p) (list_of d) here

-- ---- what is seen before the text is loaded

-- a name for a device that no one before has, and kinds of answers, in order and not none
abbrev pub kind_words : List (List ℕ)
kind_words =
    codes "undefined" ∷ codes "null" ∷ codes "boolean" ∷ codes "number" ∷ codes "string" ∷ []

abbrev pub kind_number : Data → List ℕ
kind_number d = option_map_or (λ (n : ℕ). n ∷ []) (position_of kind_words d) []

unfoldable pub kind_wrong : MemberWrong
kind_wrong before d =
    here_unless (is_some (position_of kind_words d) && is_above kind_number before d)

abbrev pub is_empty_list : Data → Bool
is_empty_list d = option_map_or (λ (ds : List Data). length ds == 0) (list_of d) false

abbrev pub name_in : Data → Option (List ℕ)
name_in d = option_and_then as_str (option_and_then (λ (ds : List Data). slice_get ds 0) (list_of d))

abbrev pub has_name : List ℕ → Data → Bool
has_name name d = option_map_or (same_text name) (name_in d) false

abbrev pub device_name_is : List Data → List ℕ → Bool
device_name_is before name = is_identifier name && not (list_any (has_name name) before)

abbrev pub device_fields_wrong : List Data → List Data → Option Path
device_fields_wrong before (name ∷ kinds ∷ []) =
    first_of (at 0 (here_unless (is_word (device_name_is before) name))
    ∷ at 1 (here_unless (not (is_empty_list kinds))) ∷ at 1 (list_wrong kind_wrong kinds) ∷ [])
device_fields_wrong before ds = here

unfoldable pub device_wrong : MemberWrong
device_wrong before d =
    if nat_lt (length before) MAX_DEVICES
    then option_map_or (device_fields_wrong before) (list_of d) here else here

abbrev pub is_text : List ℕ → Bool
is_text bytes = nat_le (length bytes) max_bytes

abbrev pub is_version : Data → Bool
is_version d = option_map_or (λ (n : ℕ). n == 1) (whole_of d) false

abbrev pub certificate_keys : List (List ℕ)
certificate_keys =
    codes "contexts" ∷ codes "devices" ∷ codes "edges" ∷ codes "text" ∷ codes "version"
    ∷ codes "visits" ∷ []

abbrev pub early_fields_wrong : List Data → Option Path
early_fields_wrong (contexts ∷ devices ∷ edges ∷ text ∷ version ∷ visits ∷ []) =
    first_of (under (codes "version") (here_unless (is_version version))
    ∷ under (codes "text") (here_unless (is_word is_text text))
    ∷ under (codes "devices") (list_wrong device_wrong devices) ∷ [])
early_fields_wrong ds = here

-- the whole, its version, its text and its devices
unfoldable pub wrong_before_loading : Data → Option Path
wrong_before_loading d = option_map_or early_fields_wrong (members_of certificate_keys d) here

-- ---- what is seen with the program

abbrev pub late_fields_wrong : Program → List Data → Option Path
late_fields_wrong p (contexts ∷ devices ∷ edges ∷ text ∷ version ∷ visits ∷ []) =
    first_of (under (codes "contexts") (list_wrong (context_wrong p) contexts)
    ∷ under (codes "edges") (option_map_or (λ (cs : List Data). list_wrong (edge_wrong p cs) edges)
    (list_of contexts) here)
    ∷ under (codes "visits") (list_wrong (item_wrong p) visits) ∷ [])
late_fields_wrong p ds = here

-- the contexts, the edges and the visits
unfoldable pub wrong_of : Program → Data → Option Path
wrong_of p d = option_map_or (late_fields_wrong p) (members_of certificate_keys d) here
