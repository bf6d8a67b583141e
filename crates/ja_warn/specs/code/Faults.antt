-- The operations that a table reaches, and what is held of them by their numbers.
use Rattle.std.specs.Prelude.{◌≡◌, ℕ, Bool, not, ◌&&◌, ◌||◌, if◌then◌else◌, List, [], filter, map, Option, Some, None}
use Rattle.std.specs.declared.cmp.Ordering.{Ordering}
use Rattle.std.specs.List.{flat_map, fold}
use Rattle.std.specs.Option.{option_map, option_map_or}
use Rattle.std.specs.Ordering.{is_eq, nat_cmp, ordering_then}
use Rattle.std.specs.BTreeMap.{BTreeMap, get}
use Rattle.ja_base.specs.declared.ids.FnId.{FnId}
use Rattle.ja_base.specs.declared.ids.NodeId.{NodeId}
use Rattle.ja_graph.specs.declared.node.NodeInfo.{NodeInfo}
use Rattle.ja_graph.specs.declared.program.Program.{Program}
use Rattle.ja_graph.specs.Program.{node_at}
use Rattle.ja_abstract.specs.declared.abstraction.Key.{Key}
use Rattle.ja_abstract.specs.AbstractState.{AbstractState}
use Rattle.ja_abstract.specs.AbstractValue.{AbstractValue, Labels, join, no_value}
use Rattle.ja_abstract.specs.Resolved.{Entries}
use Rattle.ja_abstract.specs.Reading.{View}
use Rattle.ja_rows.specs.declared.table.Warning.{Warning}
use Rattle.ja_rows.specs.Out.{at}
use Rattle.ja_rows.specs.Table.{node_numbers}
use Rattle.ja_rows.specs.Warning.{Test, Operation, operation_of, builtin_of, builtin_number, has_non_row, has_row, kind_number, tests}
use Rattle.ja_value.specs.Value.{value_of}
use Rattle.ja_aheap.specs.Entries.{entries_of}
use Rattle.ja_warn.specs.declared.reached.Told.{Told}
use Rattle.ja_warn.specs.declared.reached.Allowed.{Allowed}
use Rattle.ja_warn.specs.declared.reached.Reached.{Reached}
use Rattle.ja_warn.specs.Told.{name_at, subject}
use Rattle.ja_table.specs.declared.table.ContextTable.{ContextTable}
use Rattle.ja_table.specs.Tables.{states_in}

-- ---- at one node

-- a state allows what a test says of its view
pub record Says (test : Test) (w : View) (a : Allowed) : Type 0 where
  pub fault : a.fault ≡ test.fault w
  pub more : a.more ≡ test.more w

-- .. and what a reading says: a row, and anything else
pub record SaysRow (w : View) (start : Labels) (keys : List Key) (a : Allowed) : Type 0 where
  pub fault : a.fault ≡ has_row w start keys
  pub more : a.more ≡ has_non_row w start keys

-- what is found of an operation: whether it may go wrong, certainly where nothing else may happen,
-- the value that it is about, and the value of the name of that
pub record Finding : Type 0 where
  pub warning : Warning
  pub fault : Bool
  pub value : AbstractValue
  pub name : AbstractValue

abbrev pub finding_of : Warning → Bool → AbstractValue → AbstractValue → Finding
finding_of warning fault value name =
    record { warning = warning; fault = fault; value = value; name = name }

-- what a test says of its operation, which has a name
abbrev pub tested : View → FnId → NodeInfo → AbstractValue → Test → Finding
tested w f i name test = record {
  warning = record {
    kind = test.kind;
    place = i.place;
    builtin = builtin_of w.program f;
    certain = not (test.more w);
  };
  fault = test.fault w;
  value = option_map_or (at w) (subject i.node) no_value;
  name = name;
}

abbrev pub reached_by : View → FnId → NodeInfo → AbstractValue → List Finding
reached_by w f i name = map (tested w f i name) (tests i.node)

-- .. by the state that a table has at the node, if it has one
abbrev pub reached_with : View → FnId → NodeId → NodeInfo → List Finding
reached_with w f n i = reached_by w f i (name_at w f n i.node)

abbrev pub reached_in : Program → Entries → FnId → NodeId → NodeInfo → Option AbstractState
    → List Finding
reached_in p e f n i state =
    option_map_or (λ a. reached_with (record { program = p; state = a; entries = e }) f n i)
    state []

-- ---- at all nodes of a context

abbrev pub reached_at : Program → ContextTable → ℕ → List Finding
reached_at p c n =
    option_map_or (λ i. reached_in p (entries_of c.entries) c.context.function (record { 0 = n }) i
    (states_in c.nodes.items n)) (node_at p c.context.function (record { 0 = n })) []

abbrev pub reached_of_context : Program → ContextTable → List Finding
reached_of_context p c = flat_map (reached_at p c) (node_numbers p c.context.function)

-- ---- what is held of them

-- the numbers of an operation, by which warnings are in order
abbrev pub Spot : Type 0
Spot = ℕ × ℕ × ℕ × ℕ

abbrev pub spot_of : Operation → Spot
spot_of o = (builtin_number o.builtin, o.place.line, o.place.column, kind_number o.kind)

abbrev pub spot_cmp : Spot → Spot → Ordering
spot_cmp x y =
    ordering_then (ordering_then (ordering_then (nat_cmp x.0 y.0) (nat_cmp x.1 y.1))
    (nat_cmp x.2 y.2)) (nat_cmp x.3 y.3)

abbrev pub is_at : Spot → Finding → Bool
is_at k o = is_eq (spot_cmp (spot_of (operation_of o.warning)) k)

-- one more of the same operation: it may go wrong where either may, does so certainly where both
-- do, is about what either is about, and has either's name
abbrev pub merged : Option Finding → Finding → Finding
merged None o = o
merged (Some q) o = record {
  warning = record o.warning { certain = q.warning.certain && o.warning.certain };
  fault = q.fault || o.fault;
  value = join q.value o.value;
  name = join q.name o.name;
}

-- what is held at a spot, with one more, and of a list
abbrev pub with_reached : Spot → Option Finding → Finding → Option Finding
with_reached k q o = if is_at k o then Some (merged q o) else q

abbrev pub held : Spot → Option Finding → List Finding → Option Finding
held k q os = fold (with_reached k) q os

-- what a map of the code holds at a spot
abbrev pub finding : Reached → Finding
finding o = record {
  warning = o.warning;
  fault = o.fault;
  value = value_of o.value;
  name = value_of o.name;
}

abbrev pub found_at : BTreeMap Spot Reached → Spot → Option Finding
found_at m k = option_map finding (get spot_cmp m k)

-- what is told of what may go wrong
abbrev pub told_by : Spot × Reached → Told
told_by e = record { warning = e.1.warning; value = e.1.value; name = e.1.name }

abbrev pub told_in : BTreeMap Spot Reached → List Told
told_in m = map told_by (filter (λ e. e.1.fault) m.entries)
