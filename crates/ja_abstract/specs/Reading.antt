-- What is read of an abstract state and the values at entry: own properties, [[Get]] along
-- prototypes and names along scopes (ES3 8.6.2, 10.1.4, 12.6.4), and the values at entry that are
-- demanded for it (SAS 2010, lazy propagation).
use Rattle.std.specs.Prelude.{Bool, false, ◌&&◌, ◌||◌, if◌then◌else◌, List, [], ◌∷◌, map}
use Rattle.std.specs.List.{list_any}
use Rattle.ja_base.specs.declared.ids.Label.{Label}
use Rattle.ja_graph.specs.declared.program.Program.{Program}
use Rattle.ja_machine.specs.Nodes.{name_text}
use Rattle.ja_abstract.specs.declared.abstraction.Key.{Key}
use Rattle.ja_abstract.specs.declared.abstraction.Key.TheVariants as key
use Rattle.ja_abstract.specs.declared.abstraction.TextPart.TheVariants as text_part
use Rattle.ja_abstract.specs.AbstractValue.{Labels, AbstractValue, AbstractProperty, same_label, join, join_properties, present_part, is_present, no_value, null_value, no_property, absent_property, of_labels}
use Rattle.ja_abstract.specs.AbstractState.{AbstractState, labels_of}
use Rattle.ja_abstract.specs.Resolved.{Entries, Demands, resolved, demands_of, reached, join_all, join_values, prototype, outer}
use Rattle.ja_abstract.specs.Keys.{text_keys}
use Rattle.ja_abstract.specs.Primitives.{of_text_part}

-- what is read: a state of a program, with the values at the entry of its context
pub record View : Type 0 where
  pub program : Program
  pub state : AbstractState
  pub entries : Entries

-- ---- sets of labels

abbrev pub some_label : View → Labels → Bool
some_label w set = list_any set (labels_of w.program)

-- the join over the labels of a set
abbrev pub at_labels : View → Labels → (Label → AbstractProperty) → AbstractProperty
at_labels w set f =
    join_all (map (λ (l : Label). if set l then f l else no_property) (labels_of w.program))

abbrev pub has_present : View → AbstractValue → Bool
has_present w v = is_present (labels_of w.program) v

-- ---- demands

abbrev pub no_demands : Demands
no_demands l k = false

abbrev pub both : Demands → Demands → Demands
both d e l k = d l k || e l k

abbrev pub demands_if : Bool → Demands → Demands
demands_if b d l k = b && d l k

-- what is demanded for each label of a set
abbrev pub demands_at : View → Labels → (Label → Demands) → Demands
demands_at w set d m j = some_label w (λ l. set l && d l m j)

-- ---- own readings

-- the join over the keys
abbrev pub own : View → Label → List Key → AbstractProperty
own w l keys = join_all (map (resolved w.state w.entries l) keys)

abbrev pub demands_of_own : View → Label → List Key → Demands
demands_of_own w l keys m j = list_any (λ (k : Key). demands_of w.state l k m j) keys

abbrev pub slot : View → Label → Key → AbstractValue
slot w l k = (resolved w.state w.entries l k).value

-- the present part of a property, with its attributes; nothing where it has no such part
abbrev pub present_property : View → AbstractProperty → AbstractProperty
present_property w q =
    if has_present w q.value then record q { value = present_part q.value } else no_property

-- ---- prototypes

-- an object that may lack the keys leads to its prototypes
abbrev pub may_be_absent : View → Label → List Key → Bool
may_be_absent w l keys = (own w l keys).value.flags.absent

abbrev pub next_prototype : View → List Key → Label → Labels
next_prototype w keys l m = may_be_absent w l keys && (slot w l prototype).label m

-- the objects that are asked for the keys, from some labels on
abbrev pub prototype_walk : View → Labels → List Key → Labels
prototype_walk w start keys = reached (next_prototype w keys) (labels_of w.program) start

-- the walk may end behind an object without the keys and without a prototype
abbrev pub ends_at : View → List Key → Labels
ends_at w keys l = may_be_absent w l keys && (slot w l prototype).flags.absent

-- what [[Get]] may find from some labels on, with its attributes: the present parts of the objects
-- on the walk, and absent where it may end
abbrev pub get_present : View → Labels → List Key → AbstractProperty
get_present w start keys =
    at_labels w (prototype_walk w start keys) (λ l. present_property w (own w l keys))

abbrev pub get_absent : View → Labels → List Key → AbstractProperty
get_absent w start keys =
    at_labels w (λ l. prototype_walk w start keys l && ends_at w keys l) (λ l. absent_property)

abbrev pub get : View → Labels → List Key → AbstractProperty
get w start keys = join_properties (get_present w start keys) (get_absent w start keys)

abbrev pub demands_of_get : View → Labels → List Key → Demands
demands_of_get w start keys =
    let of_next =
    λ (l : Label). demands_if (may_be_absent w l keys) (demands_of w.state l prototype) in
    demands_at w (prototype_walk w start keys) (λ l. both (demands_of_own w l keys) (of_next l))

-- [[HasProperty]], [[CanPut]]: what they may give, by what [[Get]] may find
abbrev pub may_have : View → AbstractProperty → Bool
may_have w q = has_present w q.value

abbrev pub may_lack : AbstractProperty → Bool
may_lack q = q.value.flags.absent

abbrev pub may_refuse : AbstractProperty → Bool
may_refuse q = q.attrs.read_only.set

abbrev pub may_accept : AbstractProperty → Bool
may_accept q = q.attrs.read_only.unset || q.value.flags.absent

-- ---- scope chains

abbrev pub one_label : Label → Labels
one_label = same_label

-- the object of a scope that may lack a name leads to the next
abbrev pub next_scope : View → List Key → Label → Labels
next_scope w keys l m = may_lack (get w (one_label l) keys) && (slot w l outer).label m

abbrev pub scope_walk : View → Labels → List Key → Labels
scope_walk w start keys = reached (next_scope w keys) (labels_of w.program) start

-- the objects of the chain that may have the name, and null where the chain may end without one
abbrev pub found : View → Labels → List Key → AbstractValue
found w start keys =
    let ends =
    λ (l : Label). may_lack (get w (one_label l) keys) && (slot w l outer).flags.absent in
    join (if some_label w (λ l. scope_walk w start keys l && ends l) then null_value else no_value)
    (of_labels (λ l. scope_walk w start keys l && may_have w (get w (one_label l) keys)))

abbrev pub demands_of_found : View → Labels → List Key → Demands
demands_of_found w start keys =
    let of_next =
    λ (l : Label). demands_if (may_lack (get w (one_label l) keys))
    (demands_of w.state l outer) in
    demands_at w (scope_walk w start keys) (λ l. both (demands_of_get w (one_label l) keys)
    (of_next l))

-- ---- names shown

-- the objects on the chains of some labels, these included
abbrev pub ancestors : View → Labels → Labels
ancestors w start = reached (λ l. (slot w l prototype).label) (labels_of w.program) start

-- those that are reached by one prototype or more
abbrev pub proper_ancestors : View → Labels → Labels
proper_ancestors w start m = some_label w (λ l. ancestors w start l && (slot w l prototype).label m)

abbrev pub demands_of_ancestors : View → Labels → Demands
demands_of_ancestors w start =
    demands_at w (ancestors w start) (λ l. demands_of w.state l prototype)

-- the text of a key
abbrev pub key_value : Program → Key → AbstractValue
key_value p (key.Name n) = of_text_part (text_part.One (name_text p n))
key_value p key.OtherIndex = of_text_part text_part.IndexText
key_value p key.OtherName = of_text_part text_part.OtherText
key_value p (key.Slot s) = no_value

-- a property that is there may be without DontEnum, and may have it
abbrev pub may_be_enumerable : View → AbstractProperty → Bool
may_be_enumerable w q = has_present w q.value && q.attrs.dont_enum.unset

abbrev pub may_be_hidden : View → AbstractProperty → Bool
may_be_hidden w q = has_present w q.value && q.attrs.dont_enum.set

-- an object may show a key
abbrev pub may_show : View → Key → Labels
may_show w k l = may_be_enumerable w (own w l (k ∷ []))

abbrev pub names_shown : View → Labels → AbstractValue
names_shown w start =
    let may_be_shown = λ (k : Key). some_label w (λ l. ancestors w start l && may_show w k l) in
    join_values (map (λ (k : Key). if may_be_shown k then key_value w.program k else no_value)
    (text_keys w.program))

abbrev pub demands_of_shown : View → Labels → Demands
demands_of_shown w start =
    both (demands_of_ancestors w start)
    (demands_at w (ancestors w start) (λ l. demands_of_own w l (text_keys w.program)))
