-- The visit of a step, of a fill and of a back, from what the functions that make them tell.
use Rattle.std.specs.Prelude.{◌≡◌, ◌≢◌, ◌||◌, ◌↔◌, Bool, true, false, IsSome, IsTrue, List, [], None, Some, fold, length, map}
use Rattle.std.specs.List.{AllByRecursion}
use Rattle.std.proofs.Common.{refl, sym, subst, ap, ◌∙◌}
use Rattle.ja_base.specs.declared.ids.Context.{Context}
use Rattle.ja_base.specs.declared.ids.Label.{Label}
use Rattle.ja_base.specs.declared.ids.NodeId.{NodeId}
use Rattle.ja_graph.specs.declared.node.NodeInfo.{NodeInfo}
use Rattle.ja_graph.specs.declared.program.Program.{Program}
use Rattle.ja_graph.specs.Program.{node_at, nodes_of}
use Rattle.ja_graph.specs.WellFormed.{IsWellFormed}
use Rattle.ja_machine.specs.Frames.{registers_of}
use Rattle.ja_abstract.specs.declared.abstraction.Key.{Key}
use Rattle.ja_abstract.specs.AbstractState.{is_key}
use Rattle.ja_abstract.specs.Reading.{View}
use Rattle.ja_abstract.specs.Resolved.{Demands, Entries}
use Rattle.ja_rows.specs.declared.table.Edge.{Edge}
use Rattle.ja_rows.specs.declared.table.Item.TheVariants.{Back, Fill}
use Rattle.ja_rows.specs.declared.table.Item.TheVariants as items
use Rattle.ja_rows.specs.Calls.{filled_with}
use Rattle.ja_rows.specs.Out.{Out}
use Rattle.ja_rows.specs.Table.{applied, point, view_at, visited, Table}
use Rattle.ja_rows.specs.Transfer.{transfer}
use Rattle.ja_rows.proofs.StepEdges.{IsFrom}
use Rattle.ja_rows.proofs.TablesInProgram.{has_length}
use Rattle.ja_aheap.specs.Entries.{entries_of}
use Rattle.ja_aheap.specs.Objects.{demands_in}
use Rattle.ja_astate.specs.declared.state.AState.{AState}
use Rattle.ja_astate.specs.State.{state_of, IsStateOf}
use Rattle.ja_transfer.specs.declared.outcome.Outcome.{Outcome}
use Rattle.ja_transfer.specs.Outcomes.{given_by, out_of}
use Rattle.ja_flow.specs.code.Pairs.{with_set}
use Rattle.ja_flow.specs.declared.filling.Filled.{Filled}
use Rattle.ja_table.specs.declared.table.ContextTable.{ContextTable}
use Rattle.ja_rules.specs.declared.visits.Entry.{Entry}
use Rattle.ja_rules.specs.declared.visits.Given.{Given}
use Rattle.ja_rules.specs.declared.visits.Step.{Step}
use Rattle.ja_table.specs.Tables.{kept_state, FitsContext}
use Rattle.ja_rules.specs.Visits.{IsVisited}
use Rattle.ja_rules.specs.code.Exits.{IsGivenBack}
use Rattle.ja_rules.specs.code.Filling.{IsFilled}
use Rattle.ja_rules.specs.code.Entries.{with_demands_at, AreDemandsOf}
use Rattle.ja_table.specs.code.Growing.{with_entries_at, with_states_at}
use Rattle.ja_rules.specs.code.Stepping.{view_in, with_entered, FitsEntered, IsOutcomeAt, IsStep}
use Rattle.ja_height.proofs.DemandsInProgram.{calling_of, fill_of, node_of}
use Rattle.ja_height.proofs.EdgesInProgram.{IsInto}
use Rattle.ja_rules.proofs.Entered.{entries_applied, entries_fit, steps_are, AreSteps}
use Rattle.ja_height.proofs.Grows.{grown_both, grown_by}
use Rattle.ja_rules.proofs.NodeFacts.{given_fit, given_nodes, known_name, leads}
use Rattle.ja_height.proofs.Targets.{targets_below, AreBelow}
use Rattle.ja_rules.proofs.VisitEffects.{back_nothing, back_visited, fill_visited, of_edges, step_visited}
use Rattle.ja_rules.proofs.Visiting.{demands_grown, states_grown, values_grown, visit_is, visit_nothing}

-- ---- steps

-- what a node does, by the node that is known to stand there
pub outcome_is : (p : Program) (own : ContextTable) (n : NodeId) (a : AState) (o : Outcome)
    (i : NodeInfo) → IsOutcomeAt p own n a o → node_at p own.context.function n ≡ Some i
    → out_of o ≡ transfer (view_in p own a) (point own.context n i)
outcome_is p own n a o i h is =
    let one : Some h.info ≡ Some i = sym h.info_is ∙ is in
    let same : h.info ≡ i = cc in
    subst (λ (j : NodeInfo). out_of o ≡ transfer (view_in p own a) (point own.context n j)) same
    h.is

module _ (p : Program) (good : IsWellFormed p) (own : ContextTable) (n : NodeId) (step : Step)
    (h : IsStep p own n step) where
  abbrev x : Context
  x = own.context

  abbrev w : View
  w = view_in p own h.state

  -- the states that it gives go to nodes of its function
  pub step_nodes : AllByRecursion (λ (s : NodeId × AState). IsSome (node_at p x.function s.0))
      step.outcome.states.list.items
  step_nodes =
      given_nodes p x.function w step.outcome.states.list.items
      (subst (AreBelow w (length (nodes_of p x.function))) (sym (ap (λ (o : Out). o.states)
      h.outcome)) (targets_below w (length (nodes_of p x.function)) (point x n h.info) h.info
      h.info.node (leads p good x.function n h.info h.info_is w)))

  -- .. and are of the program and the function
  pub step_states : FitsContext p own → AllByRecursion (λ (s : NodeId × AState).
      IsStateOf p (registers_of p x.function) s.1) step.outcome.states.list.items
  step_states fits =
      given_fit p (registers_of p x.function) h.state step.outcome.states.list.items
      (fits.states n.0 h.state h.state_is) h.fits

  -- what it demands is of the program
  pub step_demands : AreDemandsOf p (demands_in step.outcome.demands)
  step_demands l k there =
      node_of w (has_length p good) (point x n h.info) h.info h.info.node
      (known_name p good x.function n h.info h.info_is) l k
      (subst (λ (o : Out). IsTrue (o.demands l k)) h.outcome there)

  abbrev steps : AreSteps p good w refl x n h.info h.info_is step.outcome.edges.items
  steps =
      steps_are p good w refl x n h.info h.info_is step.outcome.edges.items
      (ap (λ (o : Out). o.edges) h.outcome)

  -- its entries fit a table in which the context is reached
  pub step_entries : (t : Table) → IsTrue (t.context x)
      → AllByRecursion (FitsEntered p t) step.entries.items
  step_entries t reached =
      entries_fit p good w refl x n h.info h.info_is t reached step.entries.items
      (subst (AllByRecursion (IsFrom x n)) (sym h.entered.edges_are) steps.from)
      (subst (AllByRecursion (IsInto w (point x n h.info))) (sym h.entered.edges_are) steps.into)
      h.entered.entered

  entered_in : (v : Table) → fold with_entered v step.entries.items
      ≡ applied v (of_edges w x h.info (map (λ (y : Entry). y.edge) step.entries.items))
  entered_in v =
      entries_applied p good w refl x n h.info h.info_is v step.entries.items
      (subst (AllByRecursion (IsFrom x n)) (sym h.entered.edges_are) steps.from)
      h.entered.entered

  -- the table that is visited, by its parts
  pub step_is : (t u v z : Table) → t.entry x ≡ entries_of own.entries
      → t.state x n.0 ≡ Some (state_of h.state)
      → u ≡ with_states_at t x (map given_by step.outcome.states.list.items)
      → v ≡ with_demands_at u x (demands_in step.outcome.demands)
      → z ≡ fold with_entered v step.entries.items → visited p t (items.Step x n) ≡ z
  step_is t u v z entry_is state_is u_is v_is z_is =
      let o : Out = record {
        states = map given_by step.outcome.states.list.items;
        demands = demands_in step.outcome.demands;
        edges = step.outcome.edges.items;
      } in
      let view_is : w ≡ view_at p t x (state_of h.state) = ap (λ (es : Entries). record {
        program = p;
        state = state_of h.state;
        entries = es;
      }) (sym entry_is) in
      let joined : v ≡ with_demands_at (with_states_at t x o.states) x o.demands =
      v_is ∙ ap (λ (s : Table). with_demands_at s x o.demands) u_is in
      step_visited p t z x n h.info (state_of h.state) o h.info_is state_is
      (h.outcome ∙ ap (λ (y : View). transfer y (point x n h.info)) view_is)
      (z_is ∙ entered_in v
      ∙ ap (λ (es : List Edge). applied v (of_edges w x h.info es)) h.entered.edges_are
      ∙ ap (λ (y : View). applied v (of_edges y x h.info o.edges)) view_is
      ∙ ap (λ (s : Table). applied s (of_edges (view_at p t x (state_of h.state)) x h.info
      o.edges)) joined)

  pub step_done : (t u v z : Table) (b c d : Bool) → t.entry x ≡ entries_of own.entries
      → t.state x n.0 ≡ Some (state_of h.state)
      → u ≡ with_states_at t x (map given_by step.outcome.states.list.items)
      → (b ≡ true → u ≢ t) → (b ≡ false → u ≡ t)
      → v ≡ with_demands_at u x (demands_in step.outcome.demands)
      → (c ≡ true → v ≢ u) → (c ≡ false → v ≡ u)
      → z ≡ fold with_entered v step.entries.items → (d ≡ true → z ≢ v) → (d ≡ false → z ≡ v)
      → IsVisited p (items.Step x n) t z ((b || c) || d)
  step_done t u v z b c d entry_is state_is u_is u_other u_same v_is v_other v_same z_is z_other
      z_same =
      visit_is p (items.Step x n) t z ((b || c) || d)
      (step_is t u v z entry_is state_is u_is v_is z_is)
      (grown_both t v z (b || c) d
      (grown_both t u v b c
      (states_grown t u x (map given_by step.outcome.states.list.items) b u_is u_other u_same)
      (demands_grown u v x (demands_in step.outcome.demands) c v_is v_other v_same))
      (grown_by v z (of_edges w x h.info (map (λ (y : Entry). y.edge) step.entries.items)) d
      (z_is ∙ entered_in v) z_other z_same))

  -- ---- .. at the context that was found

  module _ (y : Context) (here : x ≡ y) where
    pub step_nodes_at : AllByRecursion (λ (s : NodeId × AState). IsSome (node_at p y.function s.0))
        step.outcome.states.list.items
    step_nodes_at = subst (λ (z : Context). AllByRecursion (λ (s : NodeId × AState).
        IsSome (node_at p z.function s.0)) step.outcome.states.list.items) here step_nodes

    pub step_states_at : FitsContext p own → AllByRecursion (λ (s : NodeId × AState).
        IsStateOf p (registers_of p y.function) s.1) step.outcome.states.list.items
    step_states_at fits = subst (λ (z : Context). AllByRecursion (λ (s : NodeId × AState).
        IsStateOf p (registers_of p z.function) s.1) step.outcome.states.list.items) here
        (step_states fits)

    pub step_entries_at : (t : Table) → IsTrue (t.context y)
        → AllByRecursion (FitsEntered p t) step.entries.items
    step_entries_at t reached =
        step_entries t (subst (λ (z : Context). IsTrue (t.context z)) (sym here) reached)

    pub step_done_at : (t u v z : Table) (b c d : Bool) → t.entry y ≡ entries_of own.entries
        → ((a : AState) → kept_state own.nodes.items n.0 ≡ Some a
        → t.state y n.0 ≡ Some (state_of a))
        → u ≡ with_states_at t y (map given_by step.outcome.states.list.items)
        → (b ≡ true → u ≢ t) → (b ≡ false → u ≡ t)
        → v ≡ with_demands_at u y (demands_in step.outcome.demands)
        → (c ≡ true → v ≢ u) → (c ≡ false → v ≡ u)
        → z ≡ fold with_entered v step.entries.items → (d ≡ true → z ≢ v)
        → (d ≡ false → z ≡ v) → IsVisited p (items.Step y n) t z ((b || c) || d)
    step_done_at t u v z b c d entry_is kept u_is u_other u_same v_is v_other v_same z_is
        z_other z_same =
        let back = sym here in
        subst (λ (q : Context). IsVisited p (items.Step q n) t z ((b || c) || d)) here
        (step_done t u v z b c d
        (subst (λ (q : Context). t.entry q ≡ entries_of own.entries) back entry_is)
        (subst (λ (q : Context). t.state q n.0 ≡ Some (state_of h.state)) back
        (kept h.state h.state_is))
        (subst (λ (q : Context). u ≡ with_states_at t q
        (map given_by step.outcome.states.list.items)) back u_is) u_other u_same
        (subst (λ (q : Context). v ≡ with_demands_at u q (demands_in step.outcome.demands)) back
        v_is) v_other v_same z_is z_other z_same)

-- ---- fills

module _ (p : Program) (good : IsWellFormed p) (t : Table) (e : Edge) where
  pub fill_done : (u v : Table) (f : Filled) (c d : Bool) → IsFilled p t e (Some f)
      → u ≡ with_entries_at t e.callee (with_set (t.entry e.callee) f.values.items)
      → (c ≡ false ↔ (f.values.items ≡ []))
      → v ≡ with_demands_at u e.caller (demands_in f.demands)
      → (d ≡ true → v ≢ u) → (d ≡ false → v ≡ u) → IsVisited p (Fill e) t v (c || d)
  fill_done u v f c d h u_is told v_is v_other v_same =
      let i = h.0 in
      let a = h.1 in
      let set = with_set (t.entry e.callee) f.values.items in
      visit_is p (Fill e) t v (c || d)
      (fill_visited p t u v e i a set (demands_in f.demands) h.2.info_is h.2.state_is h.3 h.5
      u_is v_is)
      (grown_both t u v c d
      (values_grown t u e.callee (t.entry e.callee) f.values.items
      (filled_with (view_at p t e.caller a) e i.node) c refl u_is h.3 h.4 told)
      (demands_grown u v e.caller (demands_in f.demands) d v_is v_other v_same))

  pub fill_demands : (f : Filled) → IsFilled p t e (Some f)
      → ((l : Label) (k : Key) → IsSome (t.entry e.callee l k) → IsTrue (is_key p k))
      → AreDemandsOf p (demands_in f.demands)
  fill_demands f h keys l k there =
      fill_of (view_at p t e.caller h.1) (has_length p good) e h.0.node (t.entry e.callee) keys
      l k (subst (λ (d : Demands). IsTrue (d l k)) h.5 there)

  -- ---- backs

  pub back_none : IsGivenBack p t e None → IsVisited p (Back e) t t false
  back_none h =
      visit_nothing p (Back e) t (back_nothing p t e
      (λ i a i_is a_is. h.nothing i a (record { info_is = i_is; state_is = a_is })))

  pub back_done : (u v : Table) (g : Given) (c d : Bool) → IsGivenBack p t e (Some g)
      → u ≡ with_states_at t e.caller (map given_by g.states.list.items)
      → (c ≡ true → u ≢ t) → (c ≡ false → u ≡ t)
      → v ≡ with_demands_at u e.caller (demands_in g.demands)
      → (d ≡ true → v ≢ u) → (d ≡ false → v ≡ u) → IsVisited p (Back e) t v (c || d)
  back_done u v g c d h u_is u_other u_same v_is v_other v_same =
      visit_is p (Back e) t v (c || d)
      (back_visited p t u v e h.0 h.1 (map given_by g.states.list.items) (demands_in g.demands)
      h.2.info_is h.2.state_is h.3 h.4 h.5 u_is v_is)
      (grown_both t u v c d
      (states_grown t u e.caller (map given_by g.states.list.items) c u_is u_other u_same)
      (demands_grown u v e.caller (demands_in g.demands) d v_is v_other v_same))

  pub back_demands : (g : Given) → IsGivenBack p t e (Some g)
      → AreDemandsOf p (demands_in g.demands)
  back_demands g h l k there =
      calling_of (view_at p t e.caller h.1) (has_length p good) h.0.node e.callee.function.0 l k
      (subst (λ (d : Demands). IsTrue (d l k)) h.5 there)
