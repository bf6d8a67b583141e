-- The objects that nodes make, as properties by key, and states with objects more: the new object
-- is the one most recently made at its site, and the one that was new is among the old (SAS 2006,
-- recency abstraction).
use Rattle.std.specs.Prelude.{ℕ, ℤ, pos, ◌+◌, if◌then◌else◌, nat_lt, int_lt, List, [], ◌∷◌, ◌++◌, map, length, slice_get, Option, Some, None, unwrap_or}
use Rattle.std.specs.List.{range_with_len}
use Rattle.std.specs.Option.{option_map, option_map_or}
use lib.Chars.{codes}
use Rattle.ja_base.specs.declared.ids.Label.{Label}
use Rattle.ja_base.specs.declared.ids.NameId.{NameId}
use Rattle.ja_base.specs.declared.ids.Site.{Site}
use Rattle.ja_base.specs.declared.ids.FnId.{FnId}
use Rattle.ja_prim.specs.declared.primitive.Num.TheVariants.{Whole}
use Rattle.ja_prim.specs.declared.primitive.Primitive.TheVariants as primitive
use Rattle.ja_graph.specs.declared.attrs.Attrs.{Attrs}
use Rattle.ja_graph.specs.declared.attrs.TheConstants.{ALL_ATTRS, DONT_DELETE, DONT_ENUM, KEPT_HIDDEN, NO_ATTRS}
use Rattle.ja_graph.specs.declared.builtins.TheConstants as builtins
use Rattle.ja_graph.specs.declared.node.Made.{Made}
use Rattle.ja_graph.specs.declared.node.Made.TheVariants as made
use Rattle.ja_graph.specs.declared.program.Program.{Program}
use Rattle.ja_graph.specs.declared.program.Function.{Function}
use Rattle.ja_machine.specs.Objects.{prototype_of_error}
use Rattle.ja_machine.specs.Frames.{scope, parameters_of}
use Rattle.ja_abstract.specs.declared.abstraction.NumberPart.{NumberPart}
use Rattle.ja_abstract.specs.declared.abstraction.NumberPart.TheVariants as number_part
use Rattle.ja_abstract.specs.declared.abstraction.TextPart.TheVariants as text_part
use Rattle.ja_abstract.specs.declared.abstraction.Key.{Key}
use Rattle.ja_abstract.specs.declared.abstraction.Key.TheVariants as key
use Rattle.ja_abstract.specs.declared.abstraction.Slot.TheVariants as slot
use Rattle.ja_abstract.specs.declared.abstraction.TextPart.{TextPart}
use Rattle.ja_abstract.specs.AbstractValue.{Labels, AbstractValue, AbstractProperty, same_label, join_properties, has_part, of_label, of_labels, of_primitive, of_attrs, bare, no_value, absent_property, entry_property}
use Rattle.ja_abstract.specs.AbstractState.{AbstractState, new, is_key, labels_of, same_key, with_made}
use Rattle.ja_abstract.specs.Resolved.{prototype, outer, join_all}
use Rattle.ja_abstract.specs.Keys.{index_of_key, text_key}
use Rattle.ja_abstract.specs.Primitives.{of_number_part}

-- ---- an object's properties by key

abbrev pub Own : Type 0
Own = Key → AbstractProperty

-- the first of a list of keys with properties, and absent at all others
abbrev pub own_of : List (Key × AbstractProperty) → Own
own_of [] k = absent_property
own_of (q ∷ qs) k = if same_key q.0 k then q.1 else own_of qs k

abbrev pub slot_of : Key → AbstractValue → Key × AbstractProperty
slot_of k v = (k, bare v)

abbrev pub property_of : Key → AbstractValue → Attrs → Key × AbstractProperty
property_of k v attrs = (k, record { value = v; attrs = of_attrs attrs })

abbrev pub inherits : Site → Key × AbstractProperty
inherits proto = slot_of prototype (of_label (new proto))

abbrev pub whole_constant : ℕ → AbstractValue
whole_constant n = of_primitive (primitive.Number (Whole (pos n)))

abbrev pub length_key : Key
length_key = key.Name builtins.LENGTH

abbrev pub scope_key : Key
scope_key = key.Slot slot.Scope

abbrev pub value_key : Key
value_key = key.Slot slot.Value

-- ---- the objects of nodes

abbrev pub error_own : Site → List ℕ → Own
error_own proto message =
    own_of (inherits proto
    ∷ property_of (key.Name builtins.MESSAGE) (of_primitive (primitive.Text message)) NO_ATTRS ∷ [])

abbrev pub empty_own : Made → Own
empty_own made.Object = own_of (inherits builtins.OBJECT_PROTOTYPE ∷ [])
empty_own made.Array =
    own_of (inherits builtins.ARRAY_PROTOTYPE ∷ property_of length_key
    (whole_constant 0) KEPT_HIDDEN ∷ [])
empty_own (made.Error kind) = own_of (inherits (prototype_of_error kind) ∷ [])

abbrev pub wrapper_own : Site → AbstractValue → Own
wrapper_own proto v = own_of (inherits proto ∷ slot_of value_key v ∷ [])

-- the length of one text, or of any
abbrev pub length_of_text : TextPart → AbstractValue
length_of_text (text_part.One t) = whole_constant (length t)
length_of_text part = of_number_part number_part.Index

abbrev pub text_own : TextPart → Own
text_own part =
    own_of (inherits builtins.STRING_PROTOTYPE
    ∷ slot_of value_key (record no_value { text = part })
    ∷ property_of length_key (length_of_text part) ALL_ATTRS ∷ [])

abbrev pub scope_own : Labels → Own
scope_own chain = own_of (inherits builtins.OBJECT_PROTOTYPE ∷ slot_of outer (of_labels chain) ∷ [])

abbrev pub function_own : Program → FnId → Labels → Label → Own
function_own p function chain proto =
    own_of (inherits builtins.FUNCTION_PROTOTYPE
    ∷ slot_of scope_key (of_labels chain)
    ∷ property_of length_key (whole_constant (parameters_of p function)) ALL_ATTRS
    ∷ property_of (text_key p (codes "prototype")) (of_label proto) DONT_DELETE ∷ [])

abbrev pub prototype_own : Program → Label → Own
prototype_own p function =
    own_of (inherits builtins.OBJECT_PROTOTYPE
    ∷ property_of (text_key p (codes "constructor")) (of_label function) DONT_ENUM ∷ [])

abbrev pub constructed_own : AbstractValue → Own
constructed_own proto = own_of (slot_of prototype proto ∷ [])

-- ---- activations and their arguments objects

abbrev pub parameter_register : ℕ → ℕ
parameter_register j = 5 + j

abbrev pub rest_register : ℕ → ℕ
rest_register parameters = 5 + parameters

abbrev pub callee_register : ℕ
callee_register = 3

abbrev pub count_register : ℕ
count_register = 4

abbrev pub parameter_ids : Program → FnId → List NameId
parameter_ids p f = option_map_or (λ (fn : Function). fn.parameters) (slice_get p.functions f.0) []

-- the parameters bound from the j-th on, the last of equal names first
abbrev pub parameter_properties : AbstractState → ℕ → List NameId → List (Key × AbstractProperty)
parameter_properties a j [] = []
parameter_properties a j (n ∷ ns) =
    parameter_properties a (j + 1) ns ++ property_of (key.Name n)
    (a.register (parameter_register j)) DONT_DELETE ∷ []

abbrev pub number_alone : NumberPart → Option ℤ
number_alone (number_part.One z) = Some z
number_alone n = None

-- the one number that a value is, if it is nothing else
abbrev pub one_number : Program → AbstractValue → Option ℤ
one_number p v =
    if has_part (labels_of p) (record v { number = number_part.Nothing }) then None
    else number_alone v.number

-- an argument is there below a count that is one number, and may be there at any other count
abbrev pub if_reached : Option ℤ → ℕ → AbstractProperty → AbstractProperty
if_reached (Some c) j q = if int_lt (pos j) c then q else absent_property
if_reached None j q = join_properties q absent_property

-- what index j of the arguments object has
abbrev pub argument_property : Program → FnId → AbstractState → ℕ → AbstractProperty
argument_property p f a j =
    let parameters = parameters_of p f in
    let v =
    if nat_lt j parameters then a.register (parameter_register j) else a.register
    (rest_register parameters) in
    if_reached (one_number p (a.register count_register)) j
    (record { value = v; attrs = of_attrs DONT_ENUM })

-- what it has at the key of an index. The indices that no parameter has are alike, so the first of
-- them stands for all where the key does.
abbrev pub index_property : Program → FnId → AbstractState → Key → Option AbstractProperty
index_property p f a key.OtherIndex =
    let indices = range_with_len 0 (parameters_of p f + 1) in
    Some (join_properties absent_property (join_all (map (argument_property p f a) indices)))
index_property p f a k = option_map (argument_property p f a) (index_of_key p k)

abbrev pub arguments_own : Program → FnId → AbstractState → Own
arguments_own p f a k =
    let own = own_of (inherits builtins.OBJECT_PROTOTYPE
    ∷ property_of (key.Name builtins.CALLEE) (a.register callee_register) DONT_ENUM
    ∷ property_of length_key (a.register count_register) DONT_ENUM ∷ []) in
    unwrap_or (index_property p f a k) (own k)

-- the arguments object first, whose name hides a parameter of its name
abbrev pub arguments_binding : Option Site → List (Key × AbstractProperty)
arguments_binding None = []
arguments_binding (Some site) =
    property_of (key.Name builtins.ARGUMENTS) (of_label (new site)) DONT_DELETE ∷ []

abbrev pub activation_own : Program → FnId → Option Site → AbstractState → Own
activation_own p f arguments a =
    let parameters = parameter_properties a 0 (parameter_ids p f) in
    own_of (slot_of outer (of_labels (a.register scope.0).label) ∷
    (arguments_binding arguments ++ parameters))

-- ---- states with objects more

-- an object has its own properties at the keys of the program; at any other key everything is as at
-- entry
abbrev pub at_keys_of : Program → Own → Own
at_keys_of p own k = if is_key p k then own k else entry_property

abbrev pub with_own : Program → AbstractState → Label → Own → AbstractState
with_own p a l own =
    record a { property = λ m j. if same_label l m then at_keys_of p own j else a.property m j }

-- an object is made at a site; what it has is said by the state in which the others are old
abbrev pub with_object : Program → AbstractState → Site → (AbstractState → Own) → AbstractState
with_object p a site own =
    let b = with_made a site in
    with_own p b (new site) (own b)

abbrev pub with_objects :
    Program → AbstractState → Site → (AbstractState → Own) → Site → (AbstractState → Own)
    → AbstractState
with_objects p a first own second other =
    let b = with_made (with_made a first) second in
    with_own p (with_own p b (new first) (own b)) (new second) (other b)
