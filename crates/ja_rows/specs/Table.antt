-- Tables of abstract states, the visits that build them, and when a table is closed: a fixed point
-- of the call graph and the states together, with contexts by receiver (SAS 2009, object
-- sensitivity; SAS 2010, lazy propagation).
use Rattle.std.specs.Prelude.{◌≡◌, ◌≢◌, IsTrue, ℕ, Bool, true, false, ◌&&◌, if◌then◌else◌, ◌==◌, List, [], ◌∷◌, ◌++◌, map, length, Option, Some, None, IsSome, is_some, unwrap_or}
use Rattle.std.specs.List.{list_any, flat_map, range_with_len}
use Rattle.std.specs.Option.{option_map, option_map_or}
use Rattle.ja_base.specs.declared.ids.Context.{Context}
use Rattle.ja_base.specs.declared.ids.FnId.{FnId}
use Rattle.ja_base.specs.declared.ids.Label.{Label}
use Rattle.ja_base.specs.declared.ids.NodeId.{NodeId}
use Rattle.ja_graph.specs.declared.node.Node.{Node}
use Rattle.ja_graph.specs.declared.node.Node.TheVariants as node
use Rattle.ja_graph.specs.declared.node.NodeInfo.{NodeInfo}
use Rattle.ja_graph.specs.declared.program.Program.{Program}
use Rattle.ja_graph.specs.Program.{node_at, nodes_of, global}
use Rattle.ja_machine.specs.Machine.{program_function}
use Rattle.ja_machine.specs.Frames.{parameters_of}
use Rattle.ja_abstract.specs.declared.abstraction.Key.{Key}
use Rattle.ja_abstract.specs.AbstractValue.{AbstractProperty, same_label, no_property, join_properties, of_label, undefined_value}
use Rattle.ja_abstract.specs.AbstractState.{AbstractState, new, join_states}
use Rattle.ja_abstract.specs.Resolved.{Entries, Demands}
use Rattle.ja_abstract.specs.Contents.{opened}
use Rattle.ja_abstract.specs.Order.{LeqState}
use Rattle.ja_abstract.specs.Reading.{View, no_demands, demands_if}
use Rattle.ja_abstract.specs.Made.{whole_constant}
use Rattle.ja_rows.specs.declared.table.Edge.{Edge}
use Rattle.ja_rows.specs.declared.table.Item.{Item}
use Rattle.ja_rows.specs.declared.table.Item.TheVariants.{Open, Step, Fill, Back}
use Rattle.ja_rows.specs.Out.{Point, Out, Given}
use Rattle.ja_rows.specs.Transfer.{transfer}
use Rattle.ja_rows.specs.Calls.{Arguments, all_are, entry_of, entered_by, filled_with, demands_of_fill, demands_of_calling, given_back}

-- The contexts that were reached, a state for each of them and each node, the values at entry that
-- were demanded for each context, and the call edges. A context may have no state.
pub record Table : Type 0 where
  pub context : Context → Bool
  pub state : Context → ℕ → Option AbstractState
  pub entry : Context → Entries
  pub edge : Edge → Bool

-- ---- contexts, edges

-- the context of the program itself
abbrev pub root : Context
root = record { function = program_function; receiver = new global }

abbrev pub same_context : Context → Context → Bool
same_context x y = (x.function.0 == y.function.0) && same_label x.receiver y.receiver

abbrev pub same_edge : Edge → Edge → Bool
same_edge e d =
    same_context e.caller d.caller && ((e.node.0 == d.node.0) && same_context e.callee d.callee)

-- the program is entered with the global object as its receiver and its scope chain, and without
-- arguments
abbrev pub no_arguments : Arguments
no_arguments = all_are undefined_value (whole_constant 0) no_demands

abbrev pub opening_state : Program → AbstractState
opening_state p =
    let global_value = of_label (new global) in
    entry_of (parameters_of p program_function) global_value global_value undefined_value
    no_arguments

abbrev pub opening_table : Program → Table
opening_table p = record {
  context = same_context root;
  state = λ x n. if same_context root x && (n == 0) then Some (opening_state p) else None;
  entry = λ x l k. None;
  edge = λ e. false;
}

-- ---- what a visit joins in

pub record StateAt : Type 0 where
  pub context : Context
  pub node : ℕ
  pub state : AbstractState

pub record DemandsOf : Type 0 where
  pub context : Context
  pub demands : Demands

-- values for the pairs that a context demands
pub record ValuesOf : Type 0 where
  pub context : Context
  pub value : Label → Key → AbstractProperty

pub record Effects : Type 0 where
  pub contexts : List Context
  pub states : List StateAt
  pub demands : List DemandsOf
  pub values : List ValuesOf
  pub edges : List Edge

abbrev pub no_effects : Effects
no_effects = record { contexts = []; states = []; demands = []; values = []; edges = [] }

-- a state joined in at a node
abbrev pub joined_state : Option AbstractState → AbstractState → AbstractState
joined_state None a = a
joined_state (Some b) a = join_states b a

abbrev pub with_state : Option AbstractState → Context → ℕ → StateAt → Option AbstractState
with_state o x n g =
    if same_context g.context x && (g.node == n) then Some (joined_state o g.state) else o

abbrev pub with_states : Option AbstractState → Context → ℕ → List StateAt → Option AbstractState
with_states o x n [] = o
with_states o x n (g ∷ gs) = with_states (with_state o x n g) x n gs

-- values are joined into the pairs that were demanded before; a pair that is demanded for the first
-- time has no value yet
abbrev pub with_value : Option AbstractProperty → Context → Label → Key → List ValuesOf
    → Option AbstractProperty
with_value o x l k [] = o
with_value o x l k (v ∷ vs) =
    let more = option_map (λ (q : AbstractProperty). join_properties q (v.value l k)) o in
    with_value (if same_context v.context x then more else o) x l k vs

abbrev pub is_demanded : Context → Label → Key → List DemandsOf → Bool
is_demanded x l k ds = list_any (λ (d : DemandsOf). same_context d.context x && d.demands l k) ds

abbrev pub with_demand : Option AbstractProperty → Bool → Option AbstractProperty
with_demand o b = if b then Some (unwrap_or o no_property) else o

abbrev pub applied : Table → Effects → Table
applied t fx = record {
  context =
      λ x. if list_any (λ (y : Context). same_context y x) fx.contexts then true else t.context x;
  state = λ x n. with_states (t.state x n) x n fx.states;
  entry =
      λ x l k. with_demand (with_value (t.entry x l k) x l k fx.values)
      (is_demanded x l k fx.demands);
  edge = λ e. if list_any (λ (d : Edge). same_edge d e) fx.edges then true else t.edge e;
}

-- ---- visits

-- Open: the contents of the opening heap are joined into the values at entry that the program
-- demands
abbrev pub effects_open : Program → Effects
effects_open p = record no_effects { values = record { context = root; value = opened p } ∷ [] }

abbrev pub view_at : Program → Table → Context → AbstractState → View
view_at p t x a = record { program = p; state = a; entries = t.entry x }

abbrev pub at_node : Context → ℕ × AbstractState → StateAt
at_node x g = record { context = x; node = g.0; state = g.1 }

abbrev pub demands_at_context : Context → Demands → DemandsOf
demands_at_context x d = record { context = x; demands = d }

-- Step: what the node gives, and for each edge its callee, with the state that enters it
abbrev pub entry_state_of : View → NodeInfo → Edge → StateAt
entry_state_of w i e =
    record { context = e.callee; node = 0; state = (entered_by w e i.node).state }

abbrev pub entry_demands_of : View → Context → NodeInfo → Edge → DemandsOf
entry_demands_of w x i e = demands_at_context x (entered_by w e i.node).demands

abbrev pub effects_step : View → Point → Out → Effects
effects_step w x o = record no_effects {
  contexts = map (λ (e : Edge). e.callee) o.edges;
  states = map (at_node x.context) o.states ++ map (entry_state_of w x.info) o.edges;
  demands =
      demands_at_context x.context o.demands ∷ map (entry_demands_of w x.context x.info) o.edges;
  edges = o.edges;
}

-- Fill: the values at entry that the callee demands, by the caller's state at the node
abbrev pub effects_fill : Table → Edge → View → NodeInfo → Effects
effects_fill t e w i = record no_effects {
  values = record { context = e.callee; value = filled_with w e i.node } ∷ [];
  demands = demands_at_context e.caller (demands_of_fill w e i.node (t.entry e.callee)) ∷ [];
}

-- Back: what each exit of the callee gives the caller. Where no exit has a state, nothing is
-- demanded.
abbrev pub node_numbers : Program → FnId → List ℕ
node_numbers p f = range_with_len 0 (length (nodes_of p f))

abbrev pub is_exit : Node → Bool
is_exit (node.Return src) = true
is_exit node.Escape = true
is_exit n = false

abbrev pub has_exit : Program → Table → Context → ℕ → Bool
has_exit p t x n =
    let at_exit =
    option_map_or (λ (at : NodeInfo). is_exit at.node)
    (node_at p x.function (record { 0 = n })) false in
    is_some (t.state x n) && at_exit

abbrev pub exit_at : Program → Table → Edge → View → NodeInfo → ℕ → Given
exit_at p t e w i n =
    let at = node_at p e.callee.function (record { 0 = n }) in
    let given =
    λ (exit : AbstractState). option_map_or (λ (at : NodeInfo). given_back w e i exit at.node)
    at [] in
    option_map_or given (t.state e.callee n) []

abbrev pub effects_back : Program → Table → Edge → View → NodeInfo → Effects
effects_back p t e w i =
    let nodes = node_numbers p e.callee.function in
    let exits = list_any (has_exit p t e.callee) nodes in
    record no_effects {
      states = map (at_node e.caller) (flat_map (exit_at p t e w i) nodes);
      demands =
          demands_at_context e.caller (demands_if exits
          (demands_of_calling w i.node e.callee.function.0)) ∷ [];
    }

-- by the state and the node of a context; nothing where it has no state there
abbrev pub with_view : Program → Table → Context → NodeId → (View → NodeInfo → Effects) → Effects
with_view p t x n f =
    let at_state = λ (i : NodeInfo) (a : AbstractState). f (view_at p t x a) i in
    option_map_or (λ i. option_map_or (at_state i) (t.state x n.0) no_effects)
    (node_at p x.function n) no_effects

abbrev pub point : Context → NodeId → NodeInfo → Point
point x n i = record { context = x; number = n; info = i }

abbrev pub effects : Program → Table → Item → Effects
effects p t Open = effects_open p
effects p t (Step x n) =
    with_view p t x n (λ w i. effects_step w (point x n i) (transfer w (point x n i)))
effects p t (Fill e) = with_view p t e.caller e.node (effects_fill t e)
effects p t (Back e) = with_view p t e.caller e.node (effects_back p t e)

abbrev pub visited : Program → Table → Item → Table
visited p t item = applied t (effects p t item)

-- the items of a table: Open, the step of each node that has a state, and the fill and the back of
-- each edge
abbrev pub IsItem : Program → Table → Item → Type 0
IsItem p t Open = Unit {0}
IsItem p t (Step x n) = IsSome (node_at p x.function n) × IsSome (t.state x n.0)
IsItem p t (Fill e) = IsTrue (t.edge e)
IsItem p t (Back e) = IsTrue (t.edge e)

-- ---- closed and built

pub record HasOpening (p : Program) (t : Table) : Type 0 where
  pub state : AbstractState
  pub state_is : t.state root 0 ≡ Some state
  pub least : LeqState (opening_state p) state

-- no visit changes the table
pub record IsClosed (p : Program) (t : Table) : Type 0 where
  pub opening : HasOpening p t
  pub settled : (item : Item) → IsItem p t item → visited p t item ≡ t

abbrev pub Builds : Program → Table → List Item → Table → Type 0
Builds p from [] t = from ≡ t
Builds p from (item ∷ items) t =
    IsItem p from item × (visited p from item ≢ from) × Builds p (visited p from item) items t

abbrev pub IsBuilt : Program → List Item → Table → Type 0
IsBuilt p items t = Builds p (opening_table p) items t
