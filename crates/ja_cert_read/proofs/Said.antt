-- What is built of what was read says nothing of what no program has.
use Rattle.std.proofs.Common.{◌≡◌, ℕ, Bool, true, false, ◌&&◌, if◌then◌else◌, List, [], ◌∷◌, Option, Some, None, refl, ap, sym, subst}
use Rattle.std.specs.List.{AllByRecursion}
use Rattle.std.specs.Option.{option_and_then, option_map, option_map_or}
use Rattle.std.proofs.lemmas.Bool.{false≢true}
use Rattle.ja_base.specs.declared.ids.Context.{Context}
use Rattle.ja_base.specs.declared.ids.FnId.{FnId}
use Rattle.ja_base.specs.declared.ids.Label.{Label}
use Rattle.ja_graph.specs.declared.program.Program.{Program}
use Rattle.ja_machine.proofs.Lists.{all_find}
use Rattle.ja_abstract.specs.declared.abstraction.AAttrs.{AAttrs}
use Rattle.ja_abstract.specs.declared.abstraction.Key.{Key}
use Rattle.ja_abstract.specs.declared.abstraction.Key.TheVariants as key
use Rattle.ja_abstract.specs.AbstractValue.{AbstractValue, AbstractProperty, entry_property, undefined_value, unknown_attrs}
use Rattle.ja_abstract.specs.AbstractState.{AbstractState, is_label}
use Rattle.ja_abstract.specs.Resolved.{Entries}
use Rattle.ja_aheap.specs.Entries.{entries_of}
use Rattle.ja_astate.specs.declared.state.AState.{AState}
use Rattle.ja_astate.specs.State.{state_of}
use Rattle.ja_value.specs.Value.{property_of}
use Rattle.ja_table.specs.declared.table.ATable.{ATable}
use Rattle.ja_table.specs.declared.table.ContextTable.{ContextTable}
use Rattle.ja_table.specs.Tables.{find_context, is_of, no_entries, states_in, table_of}
use Rattle.ja_cert_parts.specs.code.Own.{HasOwnAttrs, HasOwnLabels, IsOwnProperty}
use Rattle.ja_cert_parts.specs.declared.listed.EntryAt.{EntryAt}
use Rattle.ja_cert_parts.specs.declared.listed.MaskAt.{MaskAt}
use Rattle.ja_cert_parts.specs.declared.listed.PropertyAt.{PropertyAt}
use Rattle.ja_cert_parts.specs.declared.listed.RegisterAt.{RegisterAt}
use Rattle.ja_cert_read.specs.Said.{said_attrs, said_property, said_state, said_table, said_value}
use Rattle.ja_cert_read.specs.code.Building.{entry_value, first_at, is_entry_at, is_property, is_register, plain_state, property_in, register_value, with_masks, with_properties, with_registers, IsOwnEntryAt, IsOwnPropertyAt, IsOwnRegisterAt, IsOwnState}
use Rattle.ja_cert_read.specs.code.Contexts.{IsSaidOf}
use Rattle.ja_cert_read.proofs.Pairs.{pair_true}

-- ---- values and properties

and_known : (a b : Bool) → (b ≡ true → a ≡ true) → (a && b) ≡ b
and_known true b known = refl
and_known false true known = known refl
and_known false false known = refl

value_said : (p : Program) (v : AbstractValue) → HasOwnLabels p v → said_value p v ≡ v
value_said p v own =
    λ i. record v { label = λ l. (and_known (is_label p l) (v.label l) (own l)) i }

attrs_said : (k : Key) (a : AAttrs) → HasOwnAttrs k a → said_attrs k a ≡ a
attrs_said (key.Name n) a own = refl
attrs_said key.OtherIndex a own = refl
attrs_said key.OtherName a own = refl
attrs_said (key.Slot s) a own = sym own

property_said : (p : Program) (k : Key) (q : AbstractProperty) → IsOwnProperty p k q
    → said_property p k q ≡ q
property_said p k q own = λ i. record {
  value = (value_said p q.value own.labels) i;
  attrs = (attrs_said k q.attrs own.attrs) i;
}

-- where nothing is listed

undefined_own : (p : Program) → HasOwnLabels p undefined_value
undefined_own p l has = absurd (false≢true has)

unknown_own : (k : Key) → HasOwnAttrs k unknown_attrs
unknown_own (key.Name n) = tt
unknown_own key.OtherIndex = tt
unknown_own key.OtherName = tt
unknown_own (key.Slot s) = refl

entry_own : (p : Program) (k : Key) → IsOwnProperty p k entry_property
entry_own p k = record { labels = λ l has. absurd (false≢true has); attrs = unknown_own k }

-- ---- what stands first at a place

first_has : {X K V : Type 0} (Q : K → V → Type 0) (P : X → Type 0) (is_at : X → K → Bool)
    (give : X → V) (rest : K → V) → ((x : X) (k : K) → P x → is_at x k ≡ true → Q k (give x))
    → (xs : List X) (k : K) → AllByRecursion P xs → Q k (rest k)
    → Q k (first_at is_at give rest xs k)
first_has Q P is_at give rest each [] k all plain = plain
first_has {X} {K} {V} Q P is_at give rest each (x ∷ xs) k all plain =
    pick (is_at x k) refl (first_has Q P is_at give rest each xs k all.1 plain)
  where
    pick : (b : Bool) → is_at x k ≡ b → Q k (first_at is_at give rest xs k)
        → Q k (if b then give x else first_at is_at give rest xs k)
    pick true is later = each x k all.0 is
    pick false is later = later

at_pair : (p : Program) (k : Key) (q : AbstractProperty) (l : Label) (pair : Label × Key)
    → IsOwnProperty p k q → (l, k) ≡ pair → said_property p pair.1 q ≡ q
at_pair p k q l pair own is =
    subst (λ (other : Label × Key). said_property p other.1 q ≡ q) is (property_said p k q own)

register_said : (p : Program) (xs : List RegisterAt) (r : ℕ)
    → AllByRecursion (IsOwnRegisterAt p) xs
    → said_value p (first_at is_register register_value (λ (n : ℕ). undefined_value) xs r)
    ≡ first_at is_register register_value (λ (n : ℕ). undefined_value) xs r
register_said p xs r own =
    first_has (λ (n : ℕ) (v : AbstractValue). said_value p v ≡ v) (IsOwnRegisterAt p) is_register
    register_value (λ (n : ℕ). undefined_value) (λ x n h is. value_said p (register_value x) h) xs
    r own (value_said p undefined_value (undefined_own p))

heap_said : (p : Program) (xs : List PropertyAt) (l : Label) (k : Key)
    → AllByRecursion (IsOwnPropertyAt p) xs → said_property p k
    (first_at is_property property_in (λ (pair : Label × Key). entry_property) xs (l, k))
    ≡ first_at is_property property_in (λ (pair : Label × Key). entry_property) xs (l, k)
heap_said p xs l k own =
    first_has (λ (pair : Label × Key) (q : AbstractProperty). said_property p pair.1 q ≡ q)
    (IsOwnPropertyAt p) is_property property_in (λ (pair : Label × Key). entry_property)
    (λ x pair h is. at_pair p x.key (property_in x) x.label pair h
    (pair_true x.label x.key pair is)) xs (l, k) own
    (property_said p k entry_property (entry_own p k))

-- ---- states and values at entry

state_by : (p : Program) (a : AbstractState)
    → ((r : ℕ) → said_value p (a.register r) ≡ a.register r)
    → ((l : Label) (k : Key) → said_property p k (a.property l k) ≡ a.property l k)
    → said_state p a ≡ a
state_by p a registers properties = λ i. record a {
  register = λ r. (registers r) i;
  property = λ l k. (properties l k) i;
}

pub built_said : (p : Program) (xs : List RegisterAt) (heap : List PropertyAt)
    (masks : List MaskAt) (a : AbstractState) → AllByRecursion (IsOwnRegisterAt p) xs
    → AllByRecursion (IsOwnPropertyAt p) heap
    → a ≡ with_masks masks (with_properties heap (with_registers xs plain_state))
    → said_state p a ≡ a
built_said p xs heap masks a registers properties is =
    subst (λ (b : AbstractState). said_state p b ≡ b) (sym is)
    (state_by p (with_masks masks (with_properties heap (with_registers xs plain_state)))
    (λ r. register_said p xs r registers) (λ l k. heap_said p heap l k properties))

pub entries_said : (p : Program) (xs : List EntryAt) (e : Entries)
    → AllByRecursion (IsOwnEntryAt p) xs
    → ((l : Label) (k : Key) → e l k
    ≡ first_at is_entry_at entry_value (λ (pair : Label × Key). None) xs (l, k))
    → (l : Label) (k : Key) → option_map (said_property p k) (e l k) ≡ e l k
entries_said p xs e own is l k =
    subst (λ (o : Option AbstractProperty). option_map (said_property p k) o ≡ o) (sym (is l k))
    (first_has (λ (pair : Label × Key) (o : Option AbstractProperty).
    option_map (said_property p pair.1) o ≡ o) (IsOwnEntryAt p) is_entry_at entry_value
    (λ (pair : Label × Key). None) (λ x pair h same. ap (λ (q : AbstractProperty). Some q)
    (at_pair p x.key (property_of x.property) x.label pair h (pair_true x.label x.key pair same)))
    xs (l, k) own refl)

-- ---- tables

-- of a node that has a state
pub node_said : (p : Program) (f : FnId) (o : Option AState)
    → ((s : AState) → o ≡ Some s → IsOwnState p f s)
    → option_map (said_state p) (option_map state_of o) ≡ option_map state_of o
node_said p f None own = refl
node_said p f (Some s) own = ap (λ (a : AbstractState). Some a) (own s refl).said

-- of a context that is found
states_said : (p : Program) (o : Option ContextTable)
    → ((c : ContextTable) → o ≡ Some c → IsSaidOf p c) → (n : ℕ)
    → option_map (said_state p)
    (option_and_then (λ (c : ContextTable). states_in c.nodes.items n) o)
    ≡ option_and_then (λ (c : ContextTable). states_in c.nodes.items n) o
states_said p None said n = refl
states_said p (Some c) said n = (said c refl).states n

found_said : (p : Program) (o : Option ContextTable)
    → ((c : ContextTable) → o ≡ Some c → IsSaidOf p c) → (l : Label) (k : Key)
    → option_map (said_property p k)
    (option_map_or (λ (c : ContextTable). entries_of c.entries) o no_entries l k)
    ≡ option_map_or (λ (c : ContextTable). entries_of c.entries) o no_entries l k
found_said p None said l k = refl
found_said p (Some c) said l k = (said c refl).entries l k

pub table_said : (p : Program) (t : ATable) → AllByRecursion (IsSaidOf p) t.contexts.items
    → said_table p (table_of t) ≡ table_of t
table_said p t all = λ i. record (table_of t) {
  state = λ x n. (states_said p (find_context x t.contexts.items) (of x) n) i;
  entry = λ x l k. (found_said p (find_context x t.contexts.items) (of x) l k) i;
}
  where
    of : (x : Context) (c : ContextTable) → find_context x t.contexts.items ≡ Some c
        → IsSaidOf p c
    of x c found = all_find (IsSaidOf p) (is_of x) t.contexts.items c all found
