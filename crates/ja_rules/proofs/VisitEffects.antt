-- What the visit of an item makes of a table, by the parts that are joined in.
use Rattle.std.specs.Prelude.{◌≡◌, ◌&&◌, ◌||◌, ◌++◌, ℕ, Bool, true, false, List, [], ◌∷◌, map, Option, Some, None, is_some}
use Rattle.std.specs.List.{flat_map, list_any}
use Rattle.std.specs.Option.{option_map_or}
use Rattle.std.proofs.Common.{refl, sym, ap, ◌∙◌}
use Rattle.std.proofs.lemmas.Bool.{or_parts}
use Rattle.std.proofs.lemmas.Option.{none-some}
use Rattle.ja_base.specs.declared.ids.Context.{Context}
use Rattle.ja_base.specs.declared.ids.NodeId.{NodeId}
use Rattle.ja_graph.specs.declared.node.Node.{Node}
use Rattle.ja_graph.specs.declared.node.Node.TheVariants as node
use Rattle.ja_graph.specs.declared.node.NodeInfo.{NodeInfo}
use Rattle.ja_graph.specs.declared.program.Program.{Program}
use Rattle.ja_graph.specs.Program.{node_at}
use Rattle.ja_abstract.specs.AbstractState.{AbstractState}
use Rattle.ja_abstract.specs.AbstractValue.{AbstractProperty}
use Rattle.ja_abstract.specs.Reading.{demands_if, no_demands, View}
use Rattle.ja_abstract.specs.Resolved.{Demands, Entries}
use Rattle.ja_rows.specs.declared.table.Edge.{Edge}
use Rattle.ja_rows.specs.declared.table.Item.TheVariants.{Back, Fill, Step}
use Rattle.ja_rows.specs.Calls.{demands_of_calling, demands_of_fill, entered_by, filled_with, given_back}
use Rattle.ja_rows.specs.Out.{Given, Out}
use Rattle.ja_rows.specs.Table.{applied, at_node, demands_at_context, effects_back, effects_fill, effects_step, entry_demands_of, entry_state_of, exit_at, has_exit, is_exit, no_effects, node_numbers, point, same_context, view_at, visited, with_demand, with_view, Effects, StateAt, Table, ValuesOf}
use Rattle.ja_rows.specs.Transfer.{transfer}
use Rattle.ja_rows.proofs.Views.{with_view_at, with_view_by}
use Rattle.ja_flow.specs.code.Pairs.{filled}
use Rattle.ja_table.specs.code.Growing.{with_context, with_edge, with_entries_at, with_state_at, with_states_at}
use Rattle.ja_rules.specs.code.Entries.{with_demands_at}
use Rattle.ja_rules.proofs.Applied.{applied_then, context_applied, demands_applied, edge_applied, effects_then, of_context, of_demands, of_edge, of_state, of_values, state_applied, states_applied, then_effects, values_applied}

-- ---- steps

-- what edges give, each its callee with the state that enters it, its demands and itself
abbrev pub of_edges : View → Context → NodeInfo → List Edge → Effects
of_edges w x i edges = record no_effects {
  contexts = map (λ (e : Edge). e.callee) edges;
  states = map (entry_state_of w i) edges;
  demands = map (entry_demands_of w x i) edges;
  edges = edges;
}

abbrev pub with_parts : Table → Edge → AbstractState → Demands → Table
with_parts t e a d =
    with_edge (with_demands_at (with_state_at (with_context t e.callee) e.callee 0 a) e.caller d) e

-- the effects of one edge with its state and demands
abbrev pub of_parts : Edge → Context → AbstractState → Demands → Effects
of_parts e caller a d = record no_effects {
  contexts = e.callee ∷ [];
  states = record { context = e.callee; node = 0; state = a } ∷ [];
  demands = demands_at_context caller d ∷ [];
  edges = e ∷ [];
}

pub parts_applied : (t : Table) (e : Edge) (a : AbstractState) (d : Demands)
    → with_parts t e a d ≡ applied t (of_parts e e.caller a d)
parts_applied t e a d =
    let reached = with_context t e.callee in
    let joined = with_state_at reached e.callee 0 a in
    let demanded = with_demands_at joined e.caller d in
    let s : StateAt = record { context = e.callee; node = 0; state = a } in
    let one = effects_then t reached joined (of_context e.callee) (of_state s) refl
    (context_applied t e.callee) (state_applied reached e.callee 0 a) in
    let two = effects_then t joined demanded (then_effects (of_context e.callee) (of_state s))
    (of_demands e.caller d) refl one (demands_applied joined e.caller d) in
    effects_then t demanded (with_edge demanded e)
    (then_effects (then_effects (of_context e.callee) (of_state s)) (of_demands e.caller d))
    (of_edge e) refl two (edge_applied demanded e)

pub edge_entered : (t : Table) (w : View) (x : Context) (i : NodeInfo) (e : Edge)
    (a : AbstractState) (d : Demands) → e.caller ≡ x → a ≡ (entered_by w e i.node).state
    → d ≡ (entered_by w e i.node).demands
    → with_parts t e a d ≡ applied t (of_edges w x i (e ∷ []))
edge_entered t w x i e a d caller_is state_is demands_are =
    parts_applied t e a d
    ∙ (λ n. applied t (of_parts e (caller_is n) (state_is n) (demands_are n)))

-- an edge and the others
pub edges_more : (t u v : Table) (w : View) (x : Context) (i : NodeInfo) (e : Edge)
    (es : List Edge) → u ≡ applied t (of_edges w x i (e ∷ [])) → v ≡ applied u (of_edges w x i es)
    → v ≡ applied t (of_edges w x i (e ∷ es))
edges_more t u v w x i e es first rest =
    effects_then t u v (of_edges w x i (e ∷ [])) (of_edges w x i es) refl first rest

-- the states of a step and what it demands, and its edges
pub step_visited : (p : Program) (t v : Table) (x : Context) (n : NodeId) (i : NodeInfo)
    (a : AbstractState) (o : Out) → node_at p x.function n ≡ Some i → t.state x n.0 ≡ Some a
    → o ≡ transfer (view_at p t x a) (point x n i)
    → v ≡ applied (with_demands_at (with_states_at t x o.states) x o.demands)
    (of_edges (view_at p t x a) x i o.edges) → visited p t (Step x n) ≡ v
step_visited p t v x n i a o i_is a_is o_is v_is =
    let w = view_at p t x a in
    let gives = λ (w : View) (i : NodeInfo).
    effects_step w (point x n i) (transfer w (point x n i)) in
    let own : Effects = record no_effects {
      states = map (at_node x) o.states;
      demands = demands_at_context x o.demands ∷ [];
    } in
    let joined : with_demands_at (with_states_at t x o.states) x o.demands ≡ applied t own =
    demands_applied (with_states_at t x o.states) x o.demands
    ∙ ap (λ (u : Table). applied u (of_demands x o.demands)) (states_applied t x o.states) in
    ap (applied t) (with_view_at p t x n gives i a i_is a_is)
    ∙ ap (λ (q : Out). applied t (effects_step w (point x n i) q)) (sym o_is)
    ∙ sym (applied_then t own (of_edges w x i o.edges) refl)
    ∙ ap (λ (u : Table). applied u (of_edges w x i o.edges)) (sym joined)
    ∙ sym v_is

-- ---- fills

-- where the caller has no state at the node, nothing is visited
pub none_visited : (p : Program) (t : Table) (x : Context) (n : NodeId)
    (f : View → NodeInfo → Effects) → t.state x n.0 ≡ None → applied t (with_view p t x n f) ≡ t
none_visited p t x n f none =
    with_view_by p t x n f (λ fx. applied t fx ≡ t) refl
    (λ i a i_is a_is. absurd (none-some a (sym none ∙ a_is)))

pub fill_visited : (p : Program) (t u v : Table) (e : Edge) (i : NodeInfo) (a : AbstractState)
    (set : Entries) (d : Demands) → node_at p e.caller.function e.node ≡ Some i
    → t.state e.caller e.node.0 ≡ Some a
    → set ≡ filled (t.entry e.callee) (filled_with (view_at p t e.caller a) e i.node)
    → d ≡ demands_of_fill (view_at p t e.caller a) e i.node (t.entry e.callee)
    → u ≡ with_entries_at t e.callee set → v ≡ with_demands_at u e.caller d
    → visited p t (Fill e) ≡ v
fill_visited p t u v e i a set d i_is a_is set_is d_is u_is v_is =
    let w = view_at p t e.caller a in
    let values : ValuesOf = record { context = e.callee; value = filled_with w e i.node } in
    let first : u ≡ applied t (of_values values) =
    u_is ∙ ap (with_entries_at t e.callee) set_is ∙ values_applied t values in
    let both = effects_then t u v (of_values values) (of_demands e.caller d) refl first
    (v_is ∙ demands_applied u e.caller d) in
    ap (applied t) (with_view_at p t e.caller e.node (effects_fill t e) i a i_is a_is)
    ∙ ap (λ (f : Demands). applied t (then_effects (of_values values) (of_demands e.caller f)))
    (sym d_is)
    ∙ sym both

-- ---- backs

not_left : (w : View) (e : Edge) (i : NodeInfo) (exit : AbstractState) (n : Node)
    → is_exit n ≡ false → given_back w e i exit n ≡ []
not_left w e i exit (node.Return src) h = absurd (cc)
not_left w e i exit node.Escape h = absurd (cc)
not_left w e i exit n h = refl

module _ (p : Program) (t : Table) (e : Edge) (w : View) (i : NodeInfo) where
  no_exit : (n : ℕ) → has_exit p t e.callee n ≡ false → exit_at p t e w i n ≡ []
  no_exit n =
      by (t.state e.callee n) (node_at p e.callee.function (record { 0 = n }))
    where
      by : (s : Option AbstractState) (at : Option NodeInfo)
          → (is_some s && option_map_or (λ (at : NodeInfo). is_exit at.node) at false) ≡ false
          → option_map_or (λ (exit : AbstractState). option_map_or
          (λ (at : NodeInfo). given_back w e i exit at.node) at []) s [] ≡ []
      by None at h = refl
      by (Some exit) None h = refl
      by (Some exit) (Some at) h = not_left w e i exit at.node h

  -- where no node is an exit with a state, nothing is given back
  nothing_given : (ns : List ℕ) → list_any (has_exit p t e.callee) ns ≡ false
      → flat_map (exit_at p t e w i) ns ≡ []
  nothing_given [] h = refl
  nothing_given (n ∷ ns) h =
      let (here, rest) = or_parts (has_exit p t e.callee n)
      (list_any (has_exit p t e.callee) ns) h in
      ap (λ (given : Given). given ++ flat_map (exit_at p t e w i) ns) (no_exit n here)
      ∙ nothing_given ns rest

undemanded : (o : Option AbstractProperty) (b : Bool) → with_demand o ((b && false) || false) ≡ o
undemanded o true = refl
undemanded o false = refl

-- demanding nothing changes nothing
pub none_demanded : (t : Table) (x : Context) → applied t (of_demands x no_demands) ≡ t
none_demanded t x =
    λ i. record t { entry = λ y l k. undemanded (t.entry y l k) (same_context x y) i }

-- where the caller has no state at the node or no exit has one, nothing is given back
pub back_nothing : (p : Program) (t : Table) (e : Edge) → ((i : NodeInfo) (a : AbstractState)
    → node_at p e.caller.function e.node ≡ Some i → t.state e.caller e.node.0 ≡ Some a
    → list_any (has_exit p t e.callee) (node_numbers p e.callee.function) ≡ false)
    → visited p t (Back e) ≡ t
back_nothing p t e none =
    with_view_by p t e.caller e.node (effects_back p t e) (λ fx. applied t fx ≡ t) refl
    (λ i a i_is a_is.
    let w = view_at p t e.caller a in
    let nodes = node_numbers p e.callee.function in
    let calls = demands_of_calling w i.node e.callee.function.0 in
    ap (λ (given : Given). applied t (record no_effects {
      states = map (at_node e.caller) given;
      demands = demands_at_context e.caller
          (demands_if (list_any (has_exit p t e.callee) nodes) calls) ∷ [];
    })) (nothing_given p t e w i nodes (none i a i_is a_is))
    ∙ ap (λ b. applied t (of_demands e.caller (demands_if b calls))) (none i a i_is a_is)
    ∙ none_demanded t e.caller)

pub back_visited : (p : Program) (t u v : Table) (e : Edge) (i : NodeInfo) (a : AbstractState)
    (given : Given) (d : Demands) → node_at p e.caller.function e.node ≡ Some i
    → t.state e.caller e.node.0 ≡ Some a
    → list_any (has_exit p t e.callee) (node_numbers p e.callee.function) ≡ true
    → given ≡ flat_map (exit_at p t e (view_at p t e.caller a) i)
    (node_numbers p e.callee.function)
    → d ≡ demands_of_calling (view_at p t e.caller a) i.node e.callee.function.0
    → u ≡ with_states_at t e.caller given → v ≡ with_demands_at u e.caller d
    → visited p t (Back e) ≡ v
back_visited p t u v e i a given d i_is a_is left given_is d_is u_is v_is =
    let w = view_at p t e.caller a in
    let nodes = node_numbers p e.callee.function in
    let calls = demands_of_calling w i.node e.callee.function.0 in
    ap (applied t) (with_view_at p t e.caller e.node (effects_back p t e) i a i_is a_is)
    ∙ ap (λ (g : Given). applied t (record no_effects {
      states = map (at_node e.caller) g;
      demands = demands_at_context e.caller
          (demands_if (list_any (has_exit p t e.callee) nodes) calls) ∷ [];
    })) (sym given_is)
    ∙ ap (λ b. applied t (record no_effects {
      states = map (at_node e.caller) given;
      demands = demands_at_context e.caller (demands_if b calls) ∷ [];
    })) left
    ∙ ap (λ (f : Demands). applied t (record no_effects {
      states = map (at_node e.caller) given;
      demands = demands_at_context e.caller f ∷ [];
    })) (sym d_is)
    ∙ sym (v_is ∙ demands_applied u e.caller d
    ∙ ap (λ (s : Table). applied s (of_demands e.caller d))
    (u_is ∙ states_applied t e.caller given))
