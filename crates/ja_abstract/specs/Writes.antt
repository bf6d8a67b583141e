-- What changes a property: puts, definitions and deletions (ES3 8.6.2.2, 8.6.2.5, 10.1.3, 13,
-- 15.4.5.1), as strong updates at the one object of a new label and as weak updates elsewhere (SAS
-- 2006).
use Rattle.std.specs.Prelude.{ℕ, ℤ, pos, negsuc, Bool, true, false, not, ◌&&◌, ◌||◌, ◌+◌, ◌^◌, if◌then◌else◌, nat_lt, int_lt, List, [], ◌∷◌, ◌++◌, map, filter, Option, Some, None, unwrap_or, is_some}
use Rattle.std.specs.List.{list_any, flat_map}
use Rattle.std.specs.Option.{option_map, option_map_or, option_and_then}
use Rattle.ja_base.specs.declared.ids.Label.{Label}
use Rattle.ja_prim.specs.declared.primitive.Num.TheVariants.{Whole}
use Rattle.ja_prim.specs.declared.primitive.Primitive.TheVariants as primitive
use Rattle.ja_graph.specs.declared.attrs.TheConstants.{NO_ATTRS}
use Rattle.ja_graph.specs.declared.program.Program.{Program}
use Rattle.ja_graph.specs.Program.{global}
use Rattle.ja_machine.specs.Writes.{is_array}
use Rattle.ja_machine.specs.Machine.{class_of_site}
use Rattle.ja_abstract.specs.declared.abstraction.AAttrs.{AAttrs}
use Rattle.ja_abstract.specs.declared.abstraction.NumberPart.{NumberPart}
use Rattle.ja_abstract.specs.declared.abstraction.NumberPart.TheVariants as number_part
use Rattle.ja_abstract.specs.declared.abstraction.Key.{Key}
use Rattle.ja_abstract.specs.declared.abstraction.Key.TheVariants as key
use Rattle.ja_abstract.specs.AbstractValue.{Labels, AbstractValue, AbstractProperty, same_label, join, join_properties, join_attrs, unknown_attrs, of_attrs, of_primitive, has_part, absent_property}
use Rattle.ja_abstract.specs.AbstractState.{AbstractState, new, labels_of, is_label, same_key}
use Rattle.ja_abstract.specs.Resolved.{Demands, resolved, demands_of}
use Rattle.ja_abstract.specs.Keys.{index_of_key, is_index_key, index_keys}
use Rattle.ja_abstract.specs.Primitives.{to_num, of_number_part, whole_value, of_bools}
use Rattle.ja_abstract.specs.Made.{length_key, one_number, whole_constant}
use Rattle.ja_abstract.specs.Reading.{View, some_label, has_present, both, demands_if, demands_at, one_label, get, demands_of_get, may_refuse, may_accept}

-- ---- writes

-- a property that is set at a key, or that is only joined to what is there
pub record Write : Type 0 where
  pub key : Key
  pub property : AbstractProperty
  pub joins : Bool

abbrev pub sets_at : Key → AbstractProperty → Write
sets_at k q = record { key = k; property = q; joins = false }

abbrev pub joins_at : Key → AbstractProperty → Write
joins_at k q = record { key = k; property = q; joins = true }

-- a property after some writes, the last of them first: each at the key is joined to it
abbrev pub joined_at : List Write → AbstractProperty → Key → AbstractProperty
joined_at [] q k = q
joined_at (x ∷ xs) q k =
    if same_key x.key k then join_properties (joined_at xs q k) x.property else joined_at xs q k

-- .. or replaces it, where it doesn't only join
abbrev pub replaced_at : List Write → AbstractProperty → Key → AbstractProperty
replaced_at [] q k = q
replaced_at (x ∷ xs) q k =
    let before = replaced_at xs q k in
    if same_key x.key k then (if x.joins then join_properties before x.property else x.property)
    else before

-- at the one object of a label, and at all objects of some labels, those of a program alone
abbrev pub strong_update : AbstractState → Label → List Write → AbstractState
strong_update a l writes =
    record a {
      property = λ m j. if same_label l m then replaced_at writes
          (a.property m j) j else a.property m j;
    }

abbrev pub weak_update : Program → AbstractState → Labels → (Label → List Write) → AbstractState
weak_update p a target writes =
    record a {
      property = λ m j. if is_label p m && target m then joined_at (writes m)
          (a.property m j) j else a.property m j;
    }

-- the one label of a set, where that is a new one: it has one object
abbrev pub new_alone : List Label → Option Label
new_alone (l ∷ []) = if l.old then None else Some l
new_alone labels = None

abbrev pub one_target : View → Labels → Option Label
one_target w target = new_alone (filter target (labels_of w.program))

-- .. at just one name
abbrev pub one_name : List Key → Option Key
one_name (key.Name n ∷ []) = Some (key.Name n)
one_name keys = None

abbrev pub strong_at : View → Labels → List Key → Option (Label × Key)
strong_at w target keys =
    option_and_then (λ l. option_map (λ k. (l, k)) (one_name keys)) (one_target w target)

-- ---- [[Put]] at a label and a key (8.6.2.2, 15.4.5.1)

abbrev pub own_at : View → Label → Key → AbstractProperty
own_at w l k = resolved w.state w.entries l k

-- the attributes of a property that is put: those that it has, and none where it may be new
abbrev pub put_attrs : View → AbstractProperty → AAttrs
put_attrs w q =
    join_attrs (if has_present w q.value then q.attrs else unknown_attrs)
    (if q.value.flags.absent then of_attrs NO_ATTRS else unknown_attrs)

abbrev pub put_property : View → Label → Key → AbstractValue → AbstractProperty
put_property w l k v = record { value = v; attrs = put_attrs w (own_at w l k) }

abbrev pub is_array_label : Program → Label → Bool
is_array_label p l = is_array (class_of_site p l.site.0)

-- an array's length after the element of an index was put
abbrev pub grown_length : AbstractValue → Option ℕ → Option ℤ → AbstractValue
grown_length v (Some i) (Some n) =
    if int_lt (pos i) n then of_primitive (primitive.Number (Whole n)) else whole_constant (i + 1)
grown_length v (Some i) None = join v (whole_constant (i + 1))
grown_length v None n = join v whole_value

abbrev pub has_some_part : View → AbstractValue → Bool
has_some_part w v = has_part (labels_of w.program) v

-- nothing is written where the length has no value
abbrev pub element_writes : View → Label → Key → AbstractValue → Option (List Write)
element_writes w l k v =
    let q = own_at w l length_key in
    let n = grown_length q.value (index_of_key w.program k) (one_number w.program q.value) in
    if has_some_part w q.value
    then Some (sets_at k (put_property w l k v) ∷ sets_at length_key (record q { value = n }) ∷ [])
    else None

-- a number that may be an unsigned 32-bit number, and one that may be none
abbrev pub is_length : ℤ → Bool
is_length (pos n) = nat_lt n (2 ^ 32)
is_length (negsuc n) = false

abbrev pub may_be_length : NumberPart → Bool
may_be_length number_part.Nothing = false
may_be_length (number_part.One z) = is_length z
may_be_length part = true

abbrev pub may_be_no_length : NumberPart → Bool
may_be_no_length number_part.Nothing = false
may_be_no_length (number_part.One z) = not (is_length z)
may_be_no_length number_part.Index = false
may_be_no_length part = true

-- an element that isn't surely below the new length
abbrev pub may_be_cut : NumberPart → Option ℕ → Bool
may_be_cut (number_part.One z) (Some i) = not (int_lt (pos i) z)
may_be_cut part i = true

abbrev pub length_writes : View → Label → AbstractValue → Option (List Write)
length_writes w l v =
    let n = (to_num v).value.number in
    let cut =
    filter (λ (k : Key). may_be_cut n (index_of_key w.program k)) (index_keys w.program) in
    let put = sets_at length_key (put_property w l length_key (of_number_part n)) in
    if may_be_length n then Some (put ∷ map (λ (k : Key). joins_at k absent_property) cut) else None

abbrev pub put_writes : View → Label → Key → AbstractValue → Option (List Write)
put_writes w l k v =
    if is_array_label w.program l && same_key k length_key then length_writes w l v
    else if is_array_label w.program l && is_index_key w.program k then element_writes w l k v
    else Some (sets_at k (put_property w l k v) ∷ [])

-- what [[CanPut]] goes by
abbrev pub asked_at : View → Label → Key → AbstractProperty
asked_at w l k = get w (one_label l) (k ∷ [])

abbrev pub accepted_writes : View → Label → Key → AbstractValue → Option (List Write)
accepted_writes w l k v = if may_accept (asked_at w l k) then put_writes w l k v else None

abbrev pub puts_something : View → Label → Key → AbstractValue → Bool
puts_something w l k v = may_refuse (asked_at w l k) || is_some (accepted_writes w l k v)

-- an array's length may be put that is none
abbrev pub may_be_wrong_length : View → Label → Key → AbstractValue → Bool
may_be_wrong_length w l k v =
    let n = to_num v in
    let is_wrong = n.may_stop || (n.value.flags.nan || may_be_no_length n.value.number) in
    is_array_label w.program l && same_key k length_key && may_accept (asked_at w l k) && is_wrong

abbrev pub demands_of_put : View → Label → Key → Demands
demands_of_put w l k =
    let grows =
    is_array_label w.program l && is_index_key w.program k && may_accept (asked_at w l k) in
    both (demands_of_get w (one_label l) (k ∷ []))
    (demands_if grows (demands_of w.state l length_key))

-- ---- [[Put]] at some labels and keys: the states that it may leave

abbrev pub if_there : Bool → AbstractState → List AbstractState
if_there b a = if b then a ∷ [] else []

abbrev pub strong_put : View → Label → Key → AbstractValue → List AbstractState
strong_put w l k v =
    if_there (may_refuse (asked_at w l k)) w.state
    ++ option_map_or (λ writes. strong_update w.state l writes ∷ []) (accepted_writes w l k v) []

abbrev pub put_list : View → List Key → AbstractValue → Label → List Write
put_list w keys v l = flat_map (λ (k : Key). unwrap_or (accepted_writes w l k v) []) keys

abbrev pub some_at : View → Labels → List Key → (Label → Key → Bool) → Bool
some_at w target keys holds = some_label w (λ l. target l && list_any (holds l) keys)

abbrev pub weak_put : View → Labels → List Key → AbstractValue → List AbstractState
weak_put w target keys v =
    if_there (some_at w target keys (λ l k. puts_something w l k v))
    (weak_update w.program w.state target (put_list w keys v))

abbrev pub put_states : View → Labels → List Key → AbstractValue → List AbstractState
put_states w target keys v =
    option_map_or (λ (at : Label × Key). strong_put w at.0 at.1 v) (strong_at w target keys)
    (weak_put w target keys v)

abbrev pub put_may_throw : View → Labels → List Key → AbstractValue → Bool
put_may_throw w target keys v = some_at w target keys (λ l k. may_be_wrong_length w l k v)

abbrev pub demands_of_puts : View → Labels → List Key → Demands
demands_of_puts w target keys =
    demands_at w target (λ l m j. list_any (λ (k : Key). demands_of_put w l k m j) keys)

-- a null base stands for the global object
abbrev pub or_global : AbstractValue → Labels
or_global base l = base.label l || (base.flags.null && same_label (new global) l)

-- ---- definitions (10.1.3, 13)

abbrev pub defined : View → Labels → Key → AbstractProperty → AbstractState
defined w target k q =
    let weak = weak_update w.program w.state target (λ l. sets_at k q ∷ []) in
    option_map_or (λ l. strong_update w.state l (sets_at k q ∷ [])) (one_target w target) weak

-- .. where it isn't there
abbrev pub declared : View → Labels → Key → AbstractProperty → AbstractState
declared w target k q =
    let at_missing =
    λ (l : Label). if (own_at w l k).value.flags.absent then sets_at k q ∷ [] else [] in
    let weak = weak_update w.program w.state target at_missing in
    option_map_or (λ l. strong_update w.state l (sets_at k q ∷ [])) (one_target w target) weak

-- ---- [[Delete]] (8.6.2.5)

abbrev pub may_keep : View → Label → Key → Bool
may_keep w l k = has_present w (own_at w l k).value && (own_at w l k).attrs.dont_delete.set

abbrev pub may_delete : View → Label → Key → Bool
may_delete w l k = has_present w (own_at w l k).value && (own_at w l k).attrs.dont_delete.unset

abbrev pub is_missing : View → Label → Key → Bool
is_missing w l k = (own_at w l k).value.flags.absent

-- the states that a deletion may leave, each with what it gives
abbrev pub Deletion : Type 0
Deletion = AbstractValue × AbstractState

abbrev pub if_given : Bool → AbstractValue → AbstractState → List Deletion
if_given b v a = if b then (v, a) ∷ [] else []

abbrev pub strong_delete : View → Label → Key → List Deletion
strong_delete w l k =
    let deleted = strong_update w.state l (sets_at k absent_property ∷ []) in
    if_given (is_missing w l k) (of_bools true false) w.state
    ++ (if_given (may_keep w l k) (of_bools false true) w.state
    ++ if_given (may_delete w l k) (of_bools true false) deleted)

abbrev pub delete_list : View → List Key → Label → List Write
delete_list w keys l = map (λ (k : Key). joins_at k absent_property) (filter (may_delete w l) keys)

abbrev pub weak_delete : View → Labels → List Key → List Deletion
weak_delete w target keys =
    let is_deleted = some_at w target keys (λ l k. is_missing w l k || may_delete w l k) in
    let is_kept = some_at w target keys (may_keep w) in
    (of_bools is_deleted is_kept, weak_update w.program w.state target (delete_list w keys)) ∷ []

abbrev pub delete_states : View → Labels → List Key → List Deletion
delete_states w target keys =
    let weak = weak_delete w target keys in
    option_map_or (λ (at : Label × Key). strong_delete w at.0 at.1) (strong_at w target keys) weak

abbrev pub demands_of_delete : View → Labels → List Key → Demands
demands_of_delete w target keys =
    demands_at w target (λ l m j. list_any (λ (k : Key). demands_of w.state l k m j) keys)
