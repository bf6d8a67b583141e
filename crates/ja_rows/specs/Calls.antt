-- Calls: the state with which an edge enters its callee, the values that fill its callee's entry,
-- and what its exits give back (SAS 2010, interprocedural analysis with lazy propagation; ES3 10.2,
-- 11.2.2, 11.2.3, 13.2.1, 13.2.2).
use Rattle.std.specs.Prelude.{ℕ, ℤ, pos, Bool, true, false, ◌&&◌, ◌||◌, ◌-◌, if◌then◌else◌, List, [], ◌∷◌, ◌++◌, map, length, slice_get, drop, Option, Some, None, is_some, unwrap_or}
use Rattle.std.specs.List.{range_with_len}
use Rattle.ja_base.specs.declared.ids.FnId.{FnId}
use Rattle.ja_base.specs.declared.ids.Label.{Label}
use Rattle.ja_base.specs.declared.ids.Reg.{Reg}
use Rattle.ja_graph.specs.declared.builtins.TheConstants as builtins
use Rattle.ja_graph.specs.declared.node.Args.{Args}
use Rattle.ja_graph.specs.declared.node.Args.TheVariants as args
use Rattle.ja_graph.specs.declared.node.Node.{Node}
use Rattle.ja_graph.specs.declared.node.Node.TheVariants as node
use Rattle.ja_graph.specs.declared.node.NodeInfo.{NodeInfo}
use Rattle.ja_graph.specs.declared.program.Program.{Program}
use Rattle.ja_graph.specs.Program.{global}
use Rattle.ja_machine.specs.Frames.{thrown, parameters_of}
use Rattle.ja_abstract.specs.declared.abstraction.Key.{Key}
use Rattle.ja_abstract.specs.AbstractValue.{Labels, AbstractValue, AbstractProperty, join, of_label, of_labels, undefined_value, entry_property}
use Rattle.ja_abstract.specs.AbstractState.{AbstractState, new, aged, exactly_none}
use Rattle.ja_abstract.specs.Resolved.{Entries, Demands, resolved, join_values, demands_of}
use Rattle.ja_abstract.specs.Keys.{index_keys}
use Rattle.ja_abstract.specs.Primitives.{to_num, to_uint32, whole_value}
use Rattle.ja_abstract.specs.Reading.{View, some_label, no_demands, both, demands_at, slot, get, demands_of_get}
use Rattle.ja_abstract.specs.Made.{length_key, scope_key, whole_constant, one_number, rest_register, count_register, constructed_own, with_object}
use Rattle.ja_abstract.specs.Writes.{has_some_part}
use Rattle.ja_abstract.specs.Values.{has_atoms, has_labels, value_if, primitives_of, as_read, has_non_object}
use Rattle.ja_abstract.specs.Composed.{renamed_value, composed}
use Rattle.ja_rows.specs.declared.table.Edge.{Edge}
use Rattle.ja_rows.specs.Out.{at, Given, sets_in}
use Rattle.ja_rows.specs.Edges.{calls_at, constructs_at, runs}
use Rattle.ja_rows.specs.Properties.{prototype_keys}

-- ---- the calling state

-- the callees that run a function at a node
abbrev pub callees : Program → AbstractState → Node → ℕ → Labels
callees p a (node.Call dst callee receiver list error) f l =
    (a.register callee.0).label l && runs (calls_at p) f l
callees p a (node.New dst callee list site error) f l =
    (a.register callee.0).label l && runs (constructs_at p) f l
callees p a n f l = false

-- the prototype of what is constructed
abbrev pub prototype_value : View → Node → ℕ → AbstractValue
prototype_value w n f =
    let v = (get w (callees w.program w.state n f) (prototype_keys w.program)).value in
    join (value_if (has_non_object v) (of_label (new builtins.OBJECT_PROTOTYPE))) (of_labels v.label)

-- the caller's state at the node; of a construction the one after its object is made
abbrev pub calling_state : View → Node → ℕ → AbstractState
calling_state w (node.New dst callee list site error) f =
    let proto = prototype_value w (node.New dst callee list site error) f in
    with_object w.program w.state site (λ a. constructed_own (aged site proto))
calling_state w n f = w.state

abbrev pub demands_of_calling : View → Node → ℕ → Demands
demands_of_calling w (node.New dst callee list site error) f =
    demands_of_get w (callees w.program w.state (node.New dst callee list site error) f)
    (prototype_keys w.program)
demands_of_calling w n f = no_demands

abbrev pub calling : View → Node → ℕ → View
calling w n f = record w { state = calling_state w n f }

-- ---- the arguments

-- what a function is given: its parameters, the arguments past them, and how many there are
pub record Arguments : Type 0 where
  pub parameter : ℕ → AbstractValue
  pub rest : AbstractValue
  pub count : AbstractValue
  pub demands : Demands

abbrev pub values_of : View → List Reg → List AbstractValue
values_of w = map (at w)

abbrev pub listed : View → ℕ → List Reg → Arguments
listed w parameters list = record {
  parameter = λ j. unwrap_or (slice_get (values_of w list) j) undefined_value;
  rest = join undefined_value (join_values (drop parameters (values_of w list)));
  count = whole_constant (length list);
  demands = no_demands;
}

-- the same value for each argument
abbrev pub all_are : AbstractValue → AbstractValue → Demands → Arguments
all_are v count demands = record { parameter = λ j. v; rest = v; count = count; demands = demands }

abbrev pub length_keys : List Key
length_keys = length_key ∷ []

-- the number of elements that a `length` says
abbrev pub element_count : AbstractValue → AbstractValue
element_count v =
    join (value_if v.flags.absent (whole_constant 0))
    (to_uint32 (to_num (primitives_of v)).value).value

abbrev pub elements : View → AbstractValue → Arguments
elements w v =
    let indices = index_keys w.program in
    let q = (get w v.label length_keys).value in
    let count = join (value_if (has_labels w q) (whole_constant 0)) (element_count q) in
    all_are (join undefined_value (as_read (get w v.label indices).value)) count
    (both (demands_of_get w v.label indices) (demands_of_get w v.label length_keys))

abbrev pub count_below : View → AbstractValue → Option ℤ → AbstractValue
count_below w v (Some (pos n)) = whole_constant (n - 1)
count_below w v (Some z) = whole_constant 0
count_below w v None = value_if (has_some_part w v) whole_value

-- the frame's arguments from the second on
abbrev pub tail : View → FnId → Arguments
tail w caller =
    let v = w.state.register count_register in
    let rest = w.state.register (rest_register (parameters_of w.program caller)) in
    all_are rest (count_below w v (one_number w.program v)) no_demands

abbrev pub given_args : View → FnId → ℕ → Args → Arguments
given_args w caller parameters (args.Registers list) = listed w parameters list
given_args w caller parameters (args.Elements array) = elements w (at w array)
given_args w caller parameters args.Tail = tail w caller

abbrev pub given : View → FnId → ℕ → Node → Arguments
given w caller parameters (node.Call dst callee receiver list error) =
    given_args w caller parameters list
given w caller parameters (node.New dst callee list site error) = listed w parameters list
given w caller parameters n = listed w parameters []

-- ---- enter

pub record Entered : Type 0 where
  pub state : AbstractState
  pub demands : Demands

-- the registers at a function's entry, in the machine's order: `thrown`, `this`, `scope`, `callee`,
-- `count`, the parameters, the rest of the arguments; the temporaries are undefined
abbrev pub entry_values : ℕ → AbstractValue → AbstractValue → AbstractValue → Arguments
    → List AbstractValue
entry_values parameters receiver chain callee g =
    undefined_value ∷ receiver ∷ chain ∷ callee ∷ g.count ∷ map g.parameter
    (range_with_len 0 parameters) ++ g.rest ∷ []

-- the state at a function's entry: each property is as it was, and nothing was made
abbrev pub entry_of : ℕ → AbstractValue → AbstractValue → AbstractValue → Arguments → AbstractState
entry_of parameters receiver chain callee g = record {
  register =
      λ r. unwrap_or (slice_get (entry_values parameters receiver chain callee g) r)
      undefined_value;
  property = λ l k. entry_property;
  mask = λ s. exactly_none;
}

-- the callee and its scope chain: of a default value function undefined, and the global object
abbrev pub is_conversion : Node → Bool
is_conversion (node.Convert dst src kind other) = true
is_conversion n = false

abbrev pub callee_value : View → Node → ℕ → AbstractValue
callee_value w n f =
    if is_conversion n then undefined_value else of_labels (callees w.program w.state n f)

abbrev pub chain_value : View → Node → ℕ → AbstractValue
chain_value w n f =
    if is_conversion n then of_label (new global)
    else of_labels (λ m. some_label w (λ l. callees w.program w.state n f l
    && (slot w l scope_key).label m))

abbrev pub demands_of_chain : View → Node → ℕ → Demands
demands_of_chain w n f =
    demands_at w (callees w.program w.state n f) (λ l. demands_of w.state l scope_key)

abbrev pub entered_by : View → Edge → Node → Entered
entered_by w e n =
    let f = e.callee.function in
    let c = calling w n f.0 in
    let parameters = parameters_of w.program f in
    let g = given c e.caller.function parameters n in
    record {
      state =
          entry_of parameters (of_label e.callee.receiver) (chain_value c n f.0)
          (callee_value c n f.0) g;
      demands = both (demands_of_calling w n f.0) (both (demands_of_chain c n f.0) g.demands);
    }

-- ---- fill

-- each pair that the callee demands gets its resolved reading in the calling state
abbrev pub filled_with : View → Edge → Node → Label → Key → AbstractProperty
filled_with w e n l k = let c = calling w n e.callee.function.0 in resolved c.state c.entries l k

abbrev pub demands_of_fill : View → Edge → Node → Entries → Demands
demands_of_fill w e n callee m j =
    let c = calling w n e.callee.function.0 in
    demands_of_calling w n e.callee.function.0 m j
    || some_label w (λ l. is_some (callee l j) && demands_of c.state l j m j)

-- ---- give back

-- what a construction gives: an object of its function's value, and its receiver in the place of
-- anything else
abbrev pub constructed : AbstractValue → AbstractValue → AbstractValue
constructed receiver v = join (value_if (has_atoms v) receiver) (of_labels v.label)

-- where the caller goes on, with what was returned
abbrev pub returned : View → AbstractState → NodeInfo → Node → AbstractValue → AbstractValue → Given
returned w a i (node.Call dst callee receiver list error) this v = sets_in w a dst v i.next
returned w a i (node.New dst callee list site error) this v =
    sets_in w a dst (constructed this v) i.next
returned w a i (node.Convert dst src kind other) this v = sets_in w a dst v i.next
returned w a i n this v = []

-- an exit: the state at a Return with its value, or at an Escape
abbrev pub given_back : View → Edge → NodeInfo → AbstractState → Node → Given
given_back w e i exit (node.Return src) =
    let a = composed w.program (calling_state w i.node e.callee.function.0) exit in
    returned w a i i.node (renamed_value exit.mask (of_label e.callee.receiver))
    (exit.register src.0)
given_back w e i exit node.Escape =
    let a = composed w.program (calling_state w i.node e.callee.function.0) exit in
    sets_in w a thrown (exit.register thrown.0) i.handler
given_back w e i exit n = []
