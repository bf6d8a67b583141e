-- What fills and exits are, by the reader of the caller's state and the callee that is found.
use Rattle.std.specs.Prelude.{◌≡◌, ◌≢◌, ◌<◌, ◌&&◌, ℕ, zero, suc, Bool, true, false, IsSome, IsTrue, List, [], ◌∷◌, Option, None, Some, is_some, length, slice_get, vec_len}
use Rattle.std.specs.List.{flat_map, list_any, AllByRecursion}
use Rattle.std.specs.Option.{option_map, option_map_or}
use Rattle.std.proofs.Common.{refl, sym, subst, ap, ◌∙◌, arith, get_or}
use Rattle.std.proofs.lemmas.Bool.{false≢true, true≢false}
use denote.Ref.{Bor}
use Rattle.std.proofs.lemmas.Option.{same_Some}
use Rattle.std.proofs.lemmas.List.Elements.{recursion_from_All}
use Rattle.ja_base.specs.declared.ids.Context.{Context}
use Rattle.ja_base.specs.declared.ids.Label.{Label}
use Rattle.ja_base.specs.declared.ids.NodeId.{NodeId}
use Rattle.ja_base.proofs.Lists.{all_append, all_at, within_from_some}
use Rattle.ja_machine.proofs.Lists.{is_some_from}
use Rattle.ja_base.proofs.Options.{none_not_some}
use Rattle.ja_graph.specs.declared.node.NodeInfo.{NodeInfo}
use Rattle.ja_graph.specs.declared.program.Program.{Program}
use Rattle.ja_graph.specs.Program.{node_at, nodes_of}
use Rattle.ja_graph.specs.WellFormed.{IsWellFormed}
use Rattle.ja_machine.specs.Frames.{registers_of}
use Rattle.ja_abstract.specs.declared.abstraction.Key.{Key}
use Rattle.ja_abstract.specs.AbstractState.{is_key, is_label, AbstractState}
use Rattle.ja_abstract.specs.Reading.{View}
use Rattle.ja_abstract.specs.Resolved.{Entries}
use Rattle.ja_rows.specs.declared.table.Edge.{Edge}
use Rattle.ja_rows.specs.declared.table.Item.TheVariants.{Step}
use Rattle.ja_rows.specs.Calls.{demands_of_calling, demands_of_fill, filled_with, given_back}
use Rattle.ja_rows.specs.Table.{exit_at, has_exit, is_exit, node_numbers, root, same_edge, view_at, IsItem, Table}
use Rattle.ja_aheap.specs.Entries.{entries_of}
use Rattle.ja_aheap.specs.Objects.{demands_in}
use Rattle.ja_astate.specs.declared.state.AState.{AState}
use Rattle.ja_astate.specs.State.{state_of, HaveOneShape, IsStateOf}
use Rattle.ja_astate.specs.declared.reader.Reader.{Reader}
use Rattle.ja_flow.specs.Flow.{caller_view, IsCallerAt}
use Rattle.ja_flow.specs.code.Pairs.{filled, with_set}
use Rattle.ja_flow.specs.declared.filling.Filled.{Filled}
use Rattle.ja_table.specs.declared.table.ATable.{ATable}
use Rattle.ja_table.specs.declared.table.CallEdge.{CallEdge}
use Rattle.ja_table.specs.declared.table.ContextTable.{ContextTable}
use Rattle.ja_table.specs.declared.table.NodeTable.{NodeTable}
use Rattle.ja_rules.specs.declared.visits.Ends.{Ends}
use Rattle.ja_rules.specs.declared.visits.Given.{Given}
use Rattle.ja_table.specs.Tables.{find_context, kept_state, no_entries, table_of, Fits, FitsEdge}
use Rattle.ja_rules.specs.code.Ends.{caller_state, AreEnds}
use Rattle.ja_rules.specs.code.Exits.{has_left, AreAllGiven, IsGivenBack}
use Rattle.ja_rules.specs.code.Filling.{IsFilled}
use Rattle.ja_table.proofs.ContextOrder.{place_found}
use Rattle.ja_table.proofs.Found.{found_context, found_entry, found_fits, found_kept, found_no_state, found_state, missing_state}
use Rattle.ja_rules.proofs.NodeFacts.{given_fit, given_nodes, leads, node_there}
use Rattle.ja_table.proofs.Tables.{root_found}
use Rattle.ja_height.proofs.Targets.{exits_below, AreBelow, LeadsBelow}
use Rattle.ja_table.proofs.Places.{edges_order}

-- an edge of a table that fits the program does so
pub edge_fits : (p : Program) (t : ATable) (e : Edge) → Fits p t → IsTrue ((table_of t).edge e)
    → FitsEdge p t e
edge_fits p t e fits there =
    let at = place_found (λ (d : CallEdge). same_edge d.edge e) t.edges.items there in
    subst (FitsEdge p t) (edges_order.exact at.element.edge e at.passes)
    (all_at (λ (d : CallEdge). FitsEdge p t d.edge) t.edges.items at.place at.element
    (recursion_from_All (λ (d : CallEdge). FitsEdge p t d.edge) t.edges.items fits.edges)
    at.element_is)

swapped : (a b : Bool) → a && b ≡ b && a
swapped true true = refl
swapped true false = refl
swapped false true = refl
swapped false false = refl

-- a state that is kept is one of the program and of its function
pub kept_fits : (p : Program) (t : ATable) (x : Context) (own : ContextTable)
    → find_context x t.contexts.items ≡ Some own → Fits p t → (n : ℕ) (a : AState)
    → kept_state own.nodes.items n ≡ Some a → IsStateOf p (registers_of p x.function) a
kept_fits p t x own is fits n a kept =
    subst (λ (y : Context). IsStateOf p (registers_of p y.function) a)
    (found_context t x own is) ((found_fits t x own is p fits).states n a kept)

-- the ends of an edge, from what is found of them
pub are_ends : (p : Program) → IsWellFormed p → (t : ATable) (e : Edge) → Fits p t
    → (own : ContextTable) → find_context e.caller t.contexts.items ≡ Some own → (r : Reader)
    → (info : Bor NodeInfo) (callee : Bor ContextTable)
    → find_context e.callee t.contexts.items ≡ Some callee.now → r.program.now ≡ p
    → r.entries.now ≡ own.entries → kept_state own.nodes.items e.node.0 ≡ Some r.state.now
    → node_at p e.caller.function e.node ≡ Some info.now
    → AreEnds p t e (record {
      caller = record { reader = r; info = info; edge = e };
      callee = callee;
    })
are_ends p good t e fits own own_is r info callee callee_is program_is entries_are kept info_is =
    record {
      caller = subst (λ (q : Program). IsCallerAt q info.now r.state.now e) (sym program_is)
          (record {
            at_node = record { well_formed = good; node_is = info_is; state_is = of };
            callee = subst (λ (y : Context). y.function.0 < length p.functions)
                (found_context t e.callee callee.now callee_is)
                (found_fits t e.callee callee.now callee_is p fits).context.function;
          });
      program_is = program_is;
      edge_is = refl;
      view_is = λ j. record {
        program = program_is j;
        state = state_of r.state.now;
        entries = (ap entries_of entries_are ∙ sym (found_entry t e.caller own own_is)) j;
      };
      calling = record {
        info_is = info_is;
        state_is = found_kept t e.caller own own_is e.node.0 r.state.now kept;
      };
      fits = of;
      callee_is = callee_is;
    }
  where
    of : IsStateOf p (registers_of p e.caller.function) r.state.now
    of = kept_fits p t e.caller own own_is fits e.node.0 r.state.now kept

module _ (p : Program) (t : ATable) (e : Edge) (ends : Ends) (h : AreEnds p t e ends) where
  abbrev callee : ContextTable
  callee = ends.callee.now

  abbrev info : NodeInfo
  info = ends.caller.info.now

  -- an exit with a state, as it is kept
  pub left_is : has_left p callee
      ≡ list_any (has_exit p (table_of t) e.callee) (node_numbers p e.callee.function)
  left_is =
      let context_is = found_context t e.callee callee h.callee_is in
      let states_are = λ (n : ℕ). sym (found_state t e.callee callee h.callee_is n) in
      (λ j. list_any (λ n. option_map_or (λ (i : NodeInfo). is_exit i.node)
      (node_at p (context_is j).function (record { 0 = n })) false
      && is_some (states_are n j))
      (node_numbers p (context_is j).function))
      ∙ (λ j. list_any (λ n. swapped (option_map_or (λ (i : NodeInfo). is_exit i.node)
      (node_at p e.callee.function (record { 0 = n })) false)
      (is_some ((table_of t).state e.callee n)) j) (node_numbers p e.callee.function))

  -- what fills the callee's entry
  abbrev IsFilledBy : Filled → Entries × View × Edge → Type 0
  IsFilledBy f q =
      (with_set q.0 f.values.items ≡ filled q.0 (filled_with q.1 q.2 info.node))
      × (f.values.items ≢ [] → filled q.0 (filled_with q.1 q.2 info.node) ≢ q.0)
      × (demands_in f.demands ≡ demands_of_fill q.1 q.2 info.node q.0)

  pub filled_is : (f : Filled)
      → IsFilledBy f (entries_of callee.entries, caller_view ends.caller, ends.caller.edge)
      → IsFilled p (table_of t) e (Some f)
  filled_is f by =
      let entry_is = sym (found_entry t e.callee callee h.callee_is) in
      let there = subst (IsFilledBy f) (λ j. (entry_is j, h.view_is j, h.edge_is j)) by in
      (info, state_of (caller_state ends), h.calling, there.0, there.1, there.2)

  -- what its exits give back
  pub given_is : (g : Given) → AreAllGiven ends.caller callee g
      → list_any (has_exit p (table_of t) e.callee) (node_numbers p e.callee.function) ≡ true
      → IsGivenBack p (table_of t) e (Some g)
  given_is g all left =
      let context_is = found_context t e.callee callee h.callee_is in
      let states_are = λ (n : ℕ). sym (found_state t e.callee callee h.callee_is n) in (
        info,
        state_of (caller_state ends),
        h.calling,
        left,
        all.states ∙ (λ j. flat_map (λ n. option_map_or (λ (x : AbstractState).
            option_map_or (λ (at : NodeInfo). given_back (h.view_is j) (h.edge_is j) info x at.node)
            (node_at (h.program_is j) (context_is j).function (record { 0 = n })) [])
            (states_are n j) [])
            (node_numbers (h.program_is j) (context_is j).function)),
        all.demands_are ∙ (λ j. demands_of_calling (h.view_is j) info.node
            (h.edge_is j).callee.function.0),
        given_fit p (registers_of p e.caller.function) (caller_state ends) g.states.list.items
            h.fits (recursion_from_All
            (λ (s : NodeId × AState). HaveOneShape (caller_state ends) s.1)
            g.states.list.items all.fit),
      )

-- the values at the entry of a context are of the program
pub entry_pairs : (p : Program) (t : ATable) (x : Context) → Fits p t → (l : Label) (k : Key)
    → IsSome ((table_of t).entry x l k) → IsTrue (is_label p l) × IsTrue (is_key p k)
entry_pairs p t x fits l k = by (find_context x t.contexts.items) refl
  where
    by : (o : Option ContextTable) → find_context x t.contexts.items ≡ o
        → IsSome (option_map_or (λ (c : ContextTable). entries_of c.entries) o no_entries l k)
        → IsTrue (is_label p l) × IsTrue (is_key p k)
    by None e h = absurd (false≢true h)
    by (Some c) e h =
        let of = found_fits t x c e p fits in
        (of.labels l k h, of.keys l k h)

-- what exits give back goes to nodes of the caller's function
pub back_nodes : (p : Program) → IsWellFormed p → (t : Table) (e : Edge) (g : Given)
    → IsGivenBack p t e (Some g) → AllByRecursion (λ (s : NodeId × AState).
    IsSome (node_at p e.caller.function s.0)) g.states.list.items
back_nodes p good t e g h =
    let w = view_at p t e.caller h.1 in
    let count = length (nodes_of p e.caller.function) in
    let below = leads p good e.caller.function e.node h.0 h.2.info_is w in
    given_nodes p e.caller.function w g.states.list.items
    (subst (AreBelow w count) (sym h.4) (all w count below (node_numbers p e.callee.function)))
  where
    one : (w : View) (count : ℕ) (i : NodeInfo) → LeadsBelow w count i
        → (s : Option AbstractState) (at : Option NodeInfo)
        → AreBelow w count (option_map_or (λ (exit : AbstractState). option_map_or
        (λ (at : NodeInfo). given_back w e i exit at.node) at []) s [])
    one w count i below None at = tt
    one w count i below (Some exit) None = tt
    one w count i below (Some exit) (Some at) = exits_below w count e i exit at.node below

    all : (w : View) (count : ℕ) → LeadsBelow w count h.0 → (ns : List ℕ)
        → AreBelow w count (flat_map (exit_at p t e w h.0) ns)
    all w count below [] = tt
    all w count below (n ∷ ns) =
        all_append (λ (s : ℕ × AbstractState). s.0 < count) (exit_at p t e w h.0 n)
        (flat_map (exit_at p t e w h.0) ns)
        (one w count h.0 below (t.state e.callee n)
        (node_at p e.callee.function (record { 0 = n }))) (all w count below ns)

-- where the caller has no state at the node, nothing is given back
pub nothing_kept : (p : Program) (t : Table) (e : Edge) → t.state e.caller e.node.0 ≡ None
    → IsGivenBack p t e None
nothing_kept p t e none = record {
  nothing = λ i a calling. absurd (none_not_some (sym none ∙ calling.state_is));
}

-- ---- the program's own context

first_at : (cs : List ContextTable) (c own : ContextTable) → slice_get cs 0 ≡ Some c
    → own ≡ get_or cs 0 own → own ≡ c
first_at [] c own c_is own_is = absurd (none_not_some c_is)
first_at (d ∷ ds) c own c_is own_is = own_is ∙ same_Some d c c_is

pub own_found : (p : Program) (t : ATable) → Fits p t → (own : ContextTable)
    → own ≡ get_or t.contexts.items 0 own → find_context root t.contexts.items ≡ Some own
own_found p t fits own own_is =
    root_found t.contexts.items fits.first fits.first_is fits.first_is_root
    ∙ ap Some (sym (first_at t.contexts.items fits.first own fits.first_is own_is))

pub has_first : (p : Program) (t : ATable) → Fits p t → 0 < vec_len t.contexts
has_first p t fits =
    let within = within_from_some t.contexts.items 0
    (is_some_from (slice_get t.contexts.items 0) fits.first fits.first_is) in
    let long = t.contexts.ok.0 in
    omega (arith, within, long)

-- ---- the items of a context

kept_within : (nodes : List NodeTable) (n : ℕ) (a : AState) → kept_state nodes n ≡ Some a
    → n < length nodes
kept_within [] n a e = absurd (none_not_some e)
kept_within (x ∷ xs) zero a e = omega arith
kept_within (x ∷ xs) (suc n) a e = let rest = kept_within xs n a e in omega (arith, rest)

-- as many nodes as the function has
pub count_nodes : (p : Program) (t : ATable) (x : Context) (own : ContextTable)
    → find_context x t.contexts.items ≡ Some own → Fits p t
    → vec_len own.nodes ≡ length (nodes_of p x.function)
count_nodes p t x own is fits =
    (found_fits t x own is p fits).nodes
    ∙ ap (λ (y : Context). length (nodes_of p y.function)) (found_context t x own is)

pub item_there : (p : Program) (t : ATable) (x : Context) (own : ContextTable)
    → find_context x t.contexts.items ≡ Some own → Fits p t → (n : NodeId)
    → (r : Option (Bor AState))
    → option_map (λ (s : Bor AState). s.now) r ≡ kept_state own.nodes.items n.0
    → is_some r ≡ true → IsItem p (table_of t) (Step x n)
item_there p t x own is fits n None lent some = absurd (false≢true some)
item_there p t x own is fits n (Some a) lent some =
    let kept = sym lent in
    let within = kept_within own.nodes.items n.0 a.now kept in
    let count = count_nodes p t x own is fits in
    let long = own.nodes.ok.0 in (
      node_there p x.function n.0 (omega (arith, within, count, long)),
      is_some_from ((table_of t).state x n.0) (state_of a.now) (found_kept t x own is n.0 a.now kept),
    )

pub no_item : (p : Program) (t : ATable) (x : Context) (own : ContextTable)
    → find_context x t.contexts.items ≡ Some own → (n : NodeId) → (r : Option (Bor AState))
    → option_map (λ (s : Bor AState). s.now) r ≡ kept_state own.nodes.items n.0
    → is_some r ≡ false → IsItem p (table_of t) (Step x n) → ⊥
no_item p t x own is n None lent none item =
    false≢true (ap is_some (sym (found_no_state t x own is n.0 (sym lent))) ∙ item.1)
no_item p t x own is n (Some a) lent none item = true≢false none

-- a context that isn't found has no items
pub no_context : (p : Program) (t : ATable) (x : Context)
    → find_context x t.contexts.items ≡ None → (n : NodeId) → IsItem p (table_of t) (Step x n)
    → ⊥
no_context p t x none n item =
    false≢true (ap is_some (sym (missing_state t x n.0 none)) ∙ item.1)
