-- Steps, fills and backs that are settled, from what is told of each part.
use Rattle.std.specs.Prelude.{◌≡◌, ◌<◌, ◌&&◌, ◌↔◌, not, ℕ, Bool, true, false, IsTrue, List, [], Some, fold, length, map, if◌then◌else◌}
use Rattle.std.proofs.Common.{refl, sym, subst, ap, get_or, ◌∙◌}
use Rattle.std.proofs.lemmas.Bool.{false≢true}
use Rattle.std.proofs.lemmas.List.Folds.{list_any_at}
use Rattle.ja_base.specs.declared.ids.Context.{Context}
use Rattle.ja_base.specs.declared.ids.NodeId.{NodeId}
use Rattle.ja_graph.specs.declared.node.NodeInfo.{NodeInfo}
use Rattle.ja_graph.specs.declared.program.Program.{Program}
use Rattle.ja_graph.specs.Program.{node_at}
use Rattle.ja_graph.specs.WellFormed.{IsWellFormed}
use Rattle.ja_abstract.specs.AbstractState.{AbstractState}
use Rattle.ja_abstract.specs.Reading.{View}
use Rattle.ja_abstract.specs.Resolved.{Entries}
use Rattle.ja_rows.specs.declared.table.Edge.{Edge}
use Rattle.ja_rows.specs.declared.table.Item.TheVariants.{Back, Fill}
use Rattle.ja_rows.specs.declared.table.Item.TheVariants as items
use Rattle.ja_rows.specs.Calls.{filled_with}
use Rattle.ja_rows.specs.Out.{Out}
use Rattle.ja_rows.specs.Table.{applied, effects_step, point, same_edge, view_at, visited, Table}
use Rattle.ja_rows.specs.Transfer.{transfer}
use Rattle.ja_rows.proofs.Applied.{same_edge-self}
use Rattle.ja_rows.proofs.Views.{with_view_at}
use Rattle.ja_aheap.specs.Entries.{entries_of}
use Rattle.ja_aheap.specs.Objects.{demands_in}
use Rattle.ja_astate.specs.declared.state.AState.{AState}
use Rattle.ja_astate.specs.State.{state_of}
use Rattle.ja_transfer.specs.declared.outcome.Outcome.{Outcome}
use Rattle.ja_transfer.specs.Outcomes.{given_by, out_of}
use Rattle.ja_flow.specs.code.Pairs.{with_set}
use Rattle.ja_flow.specs.declared.filling.Filled.{Filled}
use Rattle.ja_table.specs.declared.table.ContextTable.{ContextTable}
use Rattle.ja_rules.specs.declared.visits.Given.{Given}
use Rattle.ja_rules.specs.declared.visits.Step.{Step}
use Rattle.ja_table.specs.Tables.{kept_state}
use Rattle.ja_rules.specs.code.Exits.{IsGivenBack}
use Rattle.ja_rules.specs.code.Filling.{IsFilled}
use Rattle.ja_rules.specs.code.Entries.{with_demands_at}
use Rattle.ja_table.specs.code.Growing.{with_entries_at, with_states_at}
use Rattle.ja_rules.specs.code.Settled.{LacksOneOf}
use Rattle.ja_rules.specs.code.Stepping.{view_in, with_entered, IsOutcomeAt, IsStep}
use Rattle.ja_height.proofs.Grows.{grows_both}
use Rattle.ja_rules.proofs.Settling.{demands_grow, entries_grow, none_left, states_grow, told_next, told_unchanged, told_visit}
use Rattle.ja_rules.proofs.Steps.{step_is}
use Rattle.ja_rules.proofs.VisitEffects.{back_visited, fill_visited}
use Rattle.ja_rules.proofs.Visiting.{values_grown}

-- an edge of a list that a table lacks
pub lacks_one : (t : Table) (es : List Edge) (k : ℕ) (e d : Edge) → e ≡ get_or es k d
    → k < length es → t.edge e ≡ false → LacksOneOf t es
lacks_one t es k e d is within lacks = (
  e,
  list_any_at (λ (f : Edge). same_edge f e) es k d within
      (ap (λ (f : Edge). same_edge f e) (sym is) ∙ same_edge-self e),
  lacks,
)

-- the step of a node is not settled where the table lacks one of its edges
pub step_unsettled : (p : Program) (t : Table) (x : Context) (n : NodeId) (i : NodeInfo)
    (a : AbstractState) (o : Out) → node_at p x.function n ≡ Some i → t.state x n.0 ≡ Some a
    → o ≡ transfer (view_at p t x a) (point x n i) → LacksOneOf t o.edges
    → visited p t (items.Step x n) ≡ t → ⊥
step_unsettled p t x n i a o i_is a_is o_is (e, among, lacks) same =
    let gives = λ (w : View) (i : NodeInfo).
    effects_step w (point x n i) (transfer w (point x n i)) in
    let is : visited p t (items.Step x n)
    ≡ applied t (effects_step (view_at p t x a) (point x n i) o) =
    ap (applied t) (with_view_at p t x n gives i a i_is a_is)
    ∙ ap (λ (q : Out). applied t (effects_step (view_at p t x a) (point x n i) q)) (sym o_is) in
    let there : t.edge e ≡ true = ap (λ (u : Table). u.edge e) (sym same ∙ is)
    ∙ ap (λ (b : Bool). if b then true else t.edge e) among in
    false≢true (sym lacks ∙ there)

-- .. at the context that was found
pub outcome_unsettled : (p : Program) (t : Table) (own : ContextTable) (n : NodeId) (a : AState)
    (o : Outcome) → IsOutcomeAt p own n a o → (x : Context) → own.context ≡ x
    → t.entry x ≡ entries_of own.entries → t.state x n.0 ≡ Some (state_of a)
    → LacksOneOf t o.edges.items → visited p t (items.Step x n) ≡ t → ⊥
outcome_unsettled p t own n a o h x here entry_is kept =
    let view_is : view_in p own a ≡ view_at p t x (state_of a) =
    ap (λ (es : Entries). record { program = p; state = state_of a; entries = es })
    (sym entry_is) in
    step_unsettled p t x n h.info (state_of a) (out_of o)
    (ap (λ (y : Context). node_at p y.function n) (sym here) ∙ h.info_is) kept
    (h.is ∙ ap (λ (w : View). transfer w (point own.context n h.info)) view_is
    ∙ ap (λ (y : Context). transfer (view_at p t x (state_of a)) (point y n h.info)) here)

-- a step, at the context that was found
pub step_settled : (p : Program) (good : IsWellFormed p) (own : ContextTable) (n : NodeId)
    (step : Step) → IsStep p own n step → (x : Context) → own.context ≡ x → (t : Table)
    → t.entry x ≡ entries_of own.entries
    → ((a : AState) → kept_state own.nodes.items n.0 ≡ Some a
    → t.state x n.0 ≡ Some (state_of a)) → (b c d : Bool)
    → IsTrue b ↔ (with_states_at t x (map given_by step.outcome.states.list.items) ≡ t)
    → IsTrue c ↔ (with_demands_at t x (demands_in step.outcome.demands) ≡ t)
    → IsTrue d ↔ (fold with_entered t step.entries.items ≡ t)
    → IsTrue ((b && c) && d) ↔ (visited p t (items.Step x n) ≡ t)
step_settled p good own n step h x here t entry_is kept b c d states demands entered =
    let given = map given_by step.outcome.states.list.items in
    let asked = demands_in step.outcome.demands in
    let u = with_states_at t x given in
    let v = with_demands_at u x asked in
    let z = fold with_entered v step.entries.items in
    let y = own.context in
    let back = sym here in
    let is : visited p t (items.Step y n) ≡ z = step_is p good own n step h t u v z
    (subst (λ (q : Context). t.entry q ≡ entries_of own.entries) back entry_is)
    (subst (λ (q : Context). t.state q n.0 ≡ Some (state_of h.state)) back
    (kept h.state h.state_is))
    (ap (λ (q : Context). with_states_at t q given) back)
    (ap (λ (q : Context). with_demands_at u q asked) back) refl in
    told_visit p (items.Step x n) t z ((b && c) && d)
    (subst (λ (q : Context). visited p t (items.Step q n) ≡ z) here is)
    (told_next t v z (λ s. fold with_entered s step.entries.items) (b && c) d
    (grows_both t u v (states_grow t x given) (demands_grow u x asked))
    (entries_grow v step.entries.items) refl
    (told_next t u v (λ s. with_demands_at s x asked) b c (states_grow t x given)
    (demands_grow u x asked) refl states demands)
    entered)

module _ (p : Program) (t : Table) (e : Edge) where
  pub fill_settled : (f : Filled) (b c : Bool) → IsFilled p t e (Some f)
      → IsTrue b ↔ (f.values.items ≡ [])
      → IsTrue c ↔ (with_demands_at t e.caller (demands_in f.demands) ≡ t)
      → IsTrue (b && c) ↔ (visited p t (Fill e) ≡ t)
  fill_settled f b c h values demands =
      let i = h.0 in
      let a = h.1 in
      let set = with_set (t.entry e.callee) f.values.items in
      let u = with_entries_at t e.callee set in
      let v = with_demands_at u e.caller (demands_in f.demands) in
      let grown = values_grown t u e.callee (t.entry e.callee) f.values.items
      (filled_with (view_at p t e.caller a) e i.node) (not b) refl refl h.3 h.4
      (none_left f.values.items b values) in
      told_visit p (Fill e) t v (b && c)
      (fill_visited p t u v e i a set (demands_in f.demands) h.2.info_is h.2.state_is h.3 h.5
      refl refl)
      (told_next t u v (λ s. with_demands_at s e.caller (demands_in f.demands)) b c grown.grows
      (demands_grow u e.caller (demands_in f.demands)) refl
      (told_unchanged t u b grown.other grown.same) demands)

  pub back_settled : (g : Given) (b c : Bool) → IsGivenBack p t e (Some g)
      → IsTrue b ↔ (with_states_at t e.caller (map given_by g.states.list.items) ≡ t)
      → IsTrue c ↔ (with_demands_at t e.caller (demands_in g.demands) ≡ t)
      → IsTrue (b && c) ↔ (visited p t (Back e) ≡ t)
  back_settled g b c h states demands =
      let given = map given_by g.states.list.items in
      let u = with_states_at t e.caller given in
      let v = with_demands_at u e.caller (demands_in g.demands) in
      told_visit p (Back e) t v (b && c)
      (back_visited p t u v e h.0 h.1 given (demands_in g.demands) h.2.info_is h.2.state_is h.3
      h.4 h.5 refl refl)
      (told_next t u v (λ s. with_demands_at s e.caller (demands_in g.demands)) b c
      (states_grow t e.caller given) (demands_grow u e.caller (demands_in g.demands)) refl states
      demands)
