-- What a list of contexts and one of edges stand for, with one more and with another in its place.
use Rattle.std.specs.Prelude.{◌≡◌, ◌≢◌, ◌⊎◌, ◌<◌, ◌==◌, ℕ, zero, suc, nat_lt, Bool, true, false, ◌-◌, ◌≤◌, ◌&&◌, ◌||◌, if◌then◌else◌, IsTrue, IsSome, List, [], ◌∷◌, length, take, drop, set, Option, Some, None, is_some, slice_get, vec_len, All, IfSome, insert}
use Rattle.std.specs.Option.{option_map, option_map_or, option_and_then}
use Rattle.std.specs.List.{list_any}
use Rattle.std.proofs.Common.{refl, sym, ap, ◌∙◌, subst, inl, inr, arith}
use Rattle.std.proofs.lemmas.Bool.{cases_Bool, cases_eq, eqb-true, eq-eqb, ne_eqb, false≢true, lt-ltb, cond-true, cond-false, true≢false, or_from, or_parts, and_right, le-ltb}
use Rattle.std.proofs.lemmas.List.Elements.{All-append, All-cons, All-take, All-drop, All-weaker}
use Rattle.std.proofs.lemmas.List.{length-replicate, length-set}
use Rattle.std.proofs.lemmas.Option.{same_Some, slice_get_within}
use Rattle.ja_base.specs.declared.ids.Context.{Context}
use Rattle.ja_base.specs.declared.ids.Label.{Label}
use Rattle.ja_base.proofs.Lists.{within_from_some}
use Rattle.ja_base.proofs.Options.{none_not_some}
use Rattle.ja_graph.specs.declared.program.Class.TheVariants as class
use Rattle.ja_graph.specs.declared.node.NodeInfo.{NodeInfo}
use Rattle.ja_graph.specs.declared.program.Function.{Function}
use Rattle.ja_graph.specs.declared.program.Program.{Program}
use Rattle.ja_graph.specs.Program.{global, nodes_of}
use Rattle.ja_graph.specs.WellFormed.{IsWellFormed}
use Rattle.ja_machine.proofs.Lists.{slice_get-set_same, slice_get-set_other}
use Rattle.ja_machine.specs.Frames.{registers_of}
use Rattle.ja_machine.specs.Machine.{program_function}
use Rattle.ja_abstract.specs.declared.abstraction.Key.{Key}
use Rattle.ja_abstract.specs.AbstractState.{AbstractState, label_number}
use Rattle.ja_abstract.specs.Resolved.{Entries}
use Rattle.ja_rows.specs.declared.table.Edge.{Edge}
use Rattle.ja_rows.specs.Table.{Table, root, same_context, same_edge, opening_state, opening_table}
use Rattle.ja_aheap.specs.Entries.{entries_of}
use Rattle.ja_astate.specs.declared.state.AState.{AState}
use Rattle.ja_astate.specs.State.{state_of, IsStateOf}
use Rattle.ja_table.specs.declared.table.ATable.{ATable}
use Rattle.ja_table.specs.declared.table.CallEdge.{CallEdge}
use Rattle.ja_table.specs.declared.table.ContextTable.{ContextTable}
use Rattle.ja_table.specs.declared.table.NodeTable.{NodeTable}
use Rattle.ja_table.specs.Order.{below_context, context_of, edge_of, AreContextsOrdered, AreEdgesOrdered}
use Rattle.ja_table.specs.Tables.{kept_state, states_in, no_entries, is_of, find_context, table_of, Fits, FitsContext, FitsEdge, IsContext}
use Rattle.ja_table.specs.code.Growing.{no_nodes, with_context, with_edge}
use Rattle.ja_table.specs.code.Places.{find_edge, IsPlaceOf, IsPlaceOfEdge}
use Rattle.ja_table.proofs.Ordered.{found_more, any_more, told_by, none_from_any, ordered_more}
use Rattle.ja_table.proofs.Places.{contexts_order, edges_order}

abbrev pub table_in : List ContextTable → List CallEdge → Table
table_in cs ds = record {
  context = λ x. list_any (is_of x) cs;
  state =
      λ x n. option_and_then (λ (c : ContextTable). states_in c.nodes.items n)
      (find_context x cs);
  entry =
      λ x. option_map_or (λ (c : ContextTable). entries_of c.entries) (find_context x cs)
      no_entries;
  edge = λ e. list_any (λ (d : CallEdge). same_edge d.edge e) ds;
}

-- ---- what is there already

-- whether a look-up found a context or an edge tells whether it is there
pub context_told : (p : Program) (t : ATable) (x : Context) (o : Option ℕ) → Fits p t
    → (AreContextsOrdered t.contexts.items
    → option_and_then (λ (n : ℕ). slice_get t.contexts.items n) o
    ≡ find_context x t.contexts.items) → IfSome o (λ n. n < vec_len t.contexts)
    → (table_of t).context x ≡ is_some o
context_told p t x o fits found within =
    told_by context_of contexts_order x t.contexts.items o
    (vec_len t.contexts) t.contexts.ok.0 (found fits.ordered) within

pub edge_told : (p : Program) (t : ATable) (e : Edge) (o : Option ℕ) → Fits p t
    → (AreEdgesOrdered t.edges.items → option_and_then (λ (n : ℕ). slice_get t.edges.items n) o
    ≡ find_edge e t.edges.items) → IfSome o (λ n. n < vec_len t.edges)
    → (table_of t).edge e ≡ is_some o
edge_told p t e o fits found within =
    told_by edge_of edges_order e t.edges.items o (vec_len t.edges)
    t.edges.ok.0 (found fits.edges_ordered) within

pub context_there : (t : Table) (x : Context) → t.context x ≡ true → t ≡ with_context t x
context_there t x h =
    λ i. record t { context = λ y. by y (same_context x y) refl i }
  where
    by : (y : Context) (b : Bool) → same_context x y ≡ b
        → t.context y ≡ (if b then true else t.context y)
    by y true s = subst (λ z. t.context z ≡ true) (contexts_order.exact x y s) h
    by y false s = refl

pub edge_there : (t : Table) (e : Edge) → t.edge e ≡ true → t ≡ with_edge t e
edge_there t e h =
    λ i. record t { edge = λ d. by d (same_edge e d) refl i }
  where
    by : (d : Edge) (b : Bool) → same_edge e d ≡ b → t.edge d ≡ (if b then true else t.edge d)
    by d true s = subst (λ z. t.edge z ≡ true) (edges_order.exact e d s) h
    by d false s = refl

-- ---- an edge more

pub edge_more : (cs : List ContextTable) (ds : List CallEdge) (n : ℕ) (d : CallEdge)
    → IsPlaceOfEdge d.edge ds n
    → table_in cs (insert ds n d) ≡ with_edge (table_in cs ds) d.edge
edge_more cs ds n d at =
    λ i. record (table_in cs ds) {
      edge = λ (k : Edge). any_more edge_of edges_order d k n ds
          at i;
    }

-- ---- a context more

none_at : (count n : ℕ) → kept_state (no_nodes count) n ≡ None
none_at zero n = refl
none_at (suc count) zero = refl
none_at (suc count) (suc n) = none_at count n

pub no_states : (count n : ℕ) → states_in (no_nodes count) n ≡ None
no_states count n = ap (option_map state_of) (none_at count n)

module _ (cs : List ContextTable) (ds : List CallEdge) (n : ℕ) (own : ContextTable)
    (at : IsPlaceOf own.context cs n) (apart : list_any (is_of own.context) cs ≡ false)
    (states : (m : ℕ) → states_in own.nodes.items m ≡ None)
    (entries : entries_of own.entries ≡ no_entries) where
  found : (y : Context) → find_context y (insert cs n own)
      ≡ (if same_context own.context y then Some own else find_context y cs)
  found y =
      found_more context_of contexts_order own y n cs
      at

  none_of : (y : Context) → same_context own.context y ≡ true → find_context y cs ≡ None
  none_of y s =
      subst (λ z. find_context z cs ≡ None) (contexts_order.exact own.context y s)
      (none_from_any (is_of own.context) cs apart)

  state_more : (y : Context) (m : ℕ)
      → (table_in (insert cs n own) ds).state y m ≡ (table_in cs ds).state y m
  state_more y m =
      ap (option_and_then (λ (c : ContextTable). states_in c.nodes.items m)) (found y)
      ∙ by (same_context own.context y) refl
    where
      by : (b : Bool) → same_context own.context y ≡ b
          → option_and_then (λ (c : ContextTable). states_in c.nodes.items m)
          (if b then Some own else find_context y cs) ≡ (table_in cs ds).state y m
      by true s =
          states m ∙ sym (ap (option_and_then (λ (c : ContextTable). states_in c.nodes.items m))
          (none_of y s))
      by false s = refl

  entry_more : (y : Context) → (table_in (insert cs n own) ds).entry y ≡ (table_in cs ds).entry y
  entry_more y =
      ap (λ o. option_map_or (λ (c : ContextTable). entries_of c.entries) o no_entries) (found y)
      ∙ by (same_context own.context y) refl
    where
      by : (b : Bool) → same_context own.context y ≡ b
          → option_map_or (λ (c : ContextTable). entries_of c.entries)
          (if b then Some own else find_context y cs) no_entries ≡ (table_in cs ds).entry y
      by true s =
          entries ∙ sym (ap (λ o. option_map_or (λ (c : ContextTable). entries_of c.entries) o
          no_entries) (none_of y s))
      by false s = refl

  pub context_more : table_in (insert cs n own) ds ≡ with_context (table_in cs ds) own.context
  context_more =
      λ i. record {
        context = λ y. any_more context_of contexts_order own y n cs
            at i;
        state = λ y m. state_more y m i;
        entry = λ y. entry_more y i;
        edge = (table_in cs ds).edge;
      }

-- ---- what fits

pub all_insert : {X : Type 0} (P : X → Type 0) (xs : List X) (n : ℕ) (x : X) → All P xs → P x
    → All P (insert xs n x)
all_insert P xs n x each here =
    All-append P (take n xs) (x ∷ drop n xs) (All-take P n xs each)
    (All-cons P x (drop n xs) here (All-drop P n xs each))

pub edges_still : (p : Program) (t u : ATable) (ds : List CallEdge)
    → ((x : Context) → IsTrue ((table_of t).context x) → IsTrue ((table_of u).context x))
    → All (λ (d : CallEdge). FitsEdge p t d.edge) ds
    → All (λ (d : CallEdge). FitsEdge p u d.edge) ds
edges_still p t u ds stays each =
    All-weaker (λ (d : CallEdge). FitsEdge p t d.edge) (λ (d : CallEdge). FitsEdge p u d.edge)
    (λ d fits. record {
      caller = stays d.edge.caller fits.caller;
      node = fits.node;
      callee = stays d.edge.callee fits.callee;
    }) ds each

-- no context comes before the program's own
pub root_first : (x : Context) → below_context root x ≡ false → x ≡ root
root_first x h =
    contexts_order.exact x root (contexts_order.either x root
    (or_from (nat_lt x.function.0 0) _ (le-ltb x.function.0 0 (omega arith))
    (and_right (x.function.0 == 0) _ (le-ltb (label_number x.receiver) 0 (omega arith)))) h)

pub edge_added : (p : Program) (t u : ATable) (n : ℕ) (d : CallEdge) → Fits p t
    → FitsEdge p t d.edge → u.contexts ≡ t.contexts → u.edges.items ≡ insert t.edges.items n d
    → IsPlaceOfEdge d.edge t.edges.items n → (table_of t).edge d.edge ≡ false → Fits p u
edge_added p t u n d fits here contexts_are edges_are at none = record {
  each = subst (λ (v : List ContextTable). All (FitsContext p) v) (sym items) fits.each;
  ordered = subst AreContextsOrdered (sym items) fits.ordered;
  edges =
      subst (All (λ (c : CallEdge). FitsEdge p u c.edge)) (sym edges_are)
      (edges_still p t u (insert t.edges.items n d)
      (λ x h. subst (λ (v : List ContextTable). IsTrue (list_any (is_of x) v)) (sym items) h)
      (all_insert (λ (c : CallEdge). FitsEdge p t c.edge) t.edges.items n d fits.edges here));
  edges_ordered =
      subst AreEdgesOrdered (sym edges_are) (ordered_more edge_of edges_order d n
      t.edges.items fits.edges_ordered at
      (none_from_any (λ (c : CallEdge). same_edge c.edge d.edge) t.edges.items none));
  first = fits.first;
  first_is = ap (λ (v : List ContextTable). slice_get v 0) items ∙ fits.first_is;
  first_is_root = fits.first_is_root;
}
  where
    items : u.contexts.items ≡ t.contexts.items
    items = λ i. (contexts_are i).items

first_still : (cs : List ContextTable) (n : ℕ) (first own : ContextTable)
    → slice_get cs 0 ≡ Some first → first.context ≡ root → IsPlaceOf own.context cs n
    → list_any (is_of own.context) cs ≡ false → slice_get (insert cs n own) 0 ≡ Some first
first_still [] n first own at is place apart = absurd (cc)
first_still (c ∷ cs) (suc n) first own at is place apart = at
first_still (c ∷ cs) zero first own at is place apart =
    let head : c ≡ first = same_Some c first at in
    let c_is : c.context ≡ root = ap (λ (d : ContextTable). d.context) head ∙ is in
    let own_is : own.context ≡ root = root_first own.context
    (subst (λ z. below_context z own.context ≡ false) c_is place.behind.0) in
    let here : is_of own.context c ≡ true = subst (λ z. same_context c.context z ≡ true)
    (c_is ∙ sym own_is) (contexts_order.itself c.context) in
    absurd (true≢false (sym here ∙ (or_parts (is_of own.context c) _ apart).0))

pub context_added : (p : Program) (t u : ATable) (n : ℕ) (own : ContextTable) → Fits p t
    → FitsContext p own → u.contexts.items ≡ insert t.contexts.items n own → u.edges ≡ t.edges
    → IsPlaceOf own.context t.contexts.items n → (table_of t).context own.context ≡ false
    → Fits p u
context_added p t u n own fits here contexts_are edges_are at apart = record {
  each =
      subst (All (FitsContext p)) (sym contexts_are)
      (all_insert (FitsContext p) t.contexts.items n own fits.each here);
  ordered =
      subst AreContextsOrdered (sym contexts_are) (ordered_more context_of contexts_order own n
      t.contexts.items fits.ordered at
      (none_from_any (is_of own.context) t.contexts.items apart));
  edges =
      subst (λ (v : List CallEdge). All (λ (c : CallEdge). FitsEdge p u c.edge) v) (sym items)
      (edges_still p t u t.edges.items stays fits.edges);
  edges_ordered = subst AreEdgesOrdered (sym items) fits.edges_ordered;
  first = fits.first;
  first_is =
      ap (λ (v : List ContextTable). slice_get v 0) contexts_are
      ∙ first_still t.contexts.items n fits.first own fits.first_is fits.first_is_root at apart;
  first_is_root = fits.first_is_root;
}
  where
    items : u.edges.items ≡ t.edges.items
    items = λ i. (edges_are i).items

    by : (b c : Bool) → IsTrue c → IsTrue (if b then true else c)
    by true c h = refl
    by false c h = h

    stays : (x : Context) → IsTrue ((table_of t).context x) → IsTrue ((table_of u).context x)
    stays x h =
        subst (λ (v : List ContextTable). IsTrue (list_any (is_of x) v)) (sym contexts_are)
        (subst IsTrue (sym (any_more context_of contexts_order own x n
        t.contexts.items at))
        (by (same_context own.context x) ((table_of t).context x) h))

-- ---- a context without a state, and the one in which the solver begins

nothing_demanded : (e : Entries) → e ≡ no_entries → (l : Label) (k : Key) → IsSome (e l k) → ⊥
nothing_demanded e none l k h = false≢true (ap (λ (f : Entries). is_some (f l k)) (sym none) ∙ h)

pub fits_new : (p : Program) (c : ContextTable) → IsContext p c.context
    → c.nodes.items ≡ no_nodes (length (nodes_of p c.context.function))
    → entries_of c.entries ≡ no_entries → FitsContext p c
fits_new p c here nodes entries = record {
  context = here;
  nodes =
      c.nodes.ok.0 ∙ ap length nodes
      ∙ length-replicate (length (nodes_of p c.context.function)) _;
  states = λ n s at. absurd (none_not_some (sym (none_at (length (nodes_of p c.context.function)) n)
      ∙ ap (λ (xs : List NodeTable). kept_state xs n) (sym nodes) ∙ at));
  labels = λ l k h. absurd (nothing_demanded (entries_of c.entries) entries l k h);
  keys = λ l k h. absurd (nothing_demanded (entries_of c.entries) entries l k h);
}

-- two numbers are one or the other
pub same_or_apart : (i n : ℕ) → ((i == n ≡ true) × (i ≡ n)) ⊎ ((i == n ≡ false) × (n ≢ i))
same_or_apart i n =
    elim (cases_Bool (i == n)) [
      | inl e ↦ inl (e, eqb-true i n e)
      | inr e ↦ inr (e, λ h. true≢false (sym (eq-eqb i n (sym h)) ∙ e))
    ]

-- the states after a write at a place
pub kept_set : (xs : List NodeTable) (i : ℕ) (z : NodeTable) → i < length xs → (n : ℕ)
    → kept_state (set xs i z) n ≡ (if i == n then z.state else kept_state xs n)
kept_set xs i z h n =
    elim (same_or_apart i n) [
      | inl e ↦ ap (λ m. kept_state (set xs i z) m) (sym e.1)
          ∙ ap (option_and_then (λ (s : NodeTable). s.state)) (slice_get-set_same xs i z h)
          ∙ sym (cond-true (i == n) z.state (kept_state xs n) e.0)
      | inr e ↦ ap (option_and_then (λ (s : NodeTable). s.state))
          (slice_get-set_other xs i n z e.1)
          ∙ sym (cond-false (i == n) z.state (kept_state xs n) e.0)
    ]

pub states_set : (xs : List NodeTable) (i : ℕ) (z : NodeTable) → i < length xs → (n : ℕ)
    → states_in (set xs i z) n ≡ (if i == n then option_map state_of z.state else states_in xs n)
states_set xs i z h n =
    ap (option_map state_of) (kept_set xs i z h n) ∙ by (i == n)
  where
    by : (b : Bool) → option_map state_of (if b then z.state else kept_state xs n)
        ≡ (if b then option_map state_of z.state else states_in xs n)
    by true = refl
    by false = refl

-- a context still fits where a state of its function is put at a place
pub fits_put : (p : Program) (c d : ContextTable) (i : ℕ) (z : NodeTable) → FitsContext p c
    → i < length c.nodes.items → d.context ≡ c.context → d.nodes.items ≡ set c.nodes.items i z
    → ((s : AState) → z.state ≡ Some s → IsStateOf p (registers_of p c.context.function) s)
    → entries_of d.entries ≡ entries_of c.entries → FitsContext p d
fits_put p c d i z fits within same nodes of entries = record {
  context = subst (IsContext p) (sym same) fits.context;
  nodes =
      d.nodes.ok.0 ∙ ap length nodes ∙ length-set c.nodes.items i z ∙ sym c.nodes.ok.0 ∙ fits.nodes
      ∙ ap (λ (x : Context). length (nodes_of p x.function)) (sym same);
  states = λ n s at. subst (λ (x : Context). IsStateOf p (registers_of p x.function) s)
      (sym same) (by n s (i == n) (sym (kept_set c.nodes.items i z within n)
      ∙ ap (λ (xs : List NodeTable). kept_state xs n) (sym nodes) ∙ at));
  labels = λ l k h. fits.labels l k (subst (λ (e : Entries). IsSome (e l k)) entries h);
  keys = λ l k h. fits.keys l k (subst (λ (e : Entries). IsSome (e l k)) entries h);
}
  where
    by : (n : ℕ) (s : AState) (b : Bool)
        → (if b then z.state else kept_state c.nodes.items n) ≡ Some s
        → IsStateOf p (registers_of p c.context.function) s
    by n s true e = of s e
    by n s false e = fits.states n s e

-- the program's own context is one of the program, and its function has a node
module _ (p : Program) (good : IsWellFormed p) where
  pub root_is_context : IsContext p root
  root_is_context =
      let (info, info_is, class_is, fits) = good.builtins global.0 class.Object refl in
      let within : global.0 < length p.opening = fits in
      let sites : length p.opening ≤ length p.sites = good.sites in
      record {
        function = within_from_some p.functions 0 (ap is_some good.text_is);
        receiver = lt-ltb global.0 (length p.sites) (omega arith);
      }

  pub root_has_node : 0 < length (nodes_of p program_function)
  root_has_node =
      let w = good.each 0 good.text good.text_is in
      let last : length good.text.nodes - 1 < length good.text.nodes = slice_get_within
      good.text.nodes (length good.text.nodes - 1) w.last w.last_is in
      let nodes : nodes_of p program_function ≡ good.text.nodes =
      ap (λ o. option_map_or (λ (fn : Function). fn.nodes) o []) good.text_is in
      subst (λ (xs : List NodeInfo). 0 < length xs) (sym nodes) (omega arith)

  pub root_within : (c : ContextTable) → FitsContext p c → c.context ≡ root
      → 0 < length c.nodes.items
  root_within c fits is =
      let count : length c.nodes.items ≡ length (nodes_of p program_function) =
      sym c.nodes.ok.0 ∙ fits.nodes ∙ ap (λ (x : Context). length (nodes_of p x.function)) is in
      subst (λ n. 0 < n) (sym count) root_has_node

  -- the states of the opening context
  pub states_opening : (x : Context) (xs : List NodeTable) (z : NodeTable) (a : AState)
      → x ≡ root → xs ≡ no_nodes (length (nodes_of p x.function)) → z.state ≡ Some a
      → state_of a ≡ opening_state p → (n : ℕ)
      → states_in (set xs 0 z) n ≡ (if n == 0 then Some (opening_state p) else None)
  states_opening x xs z a is nodes here opening n =
      let count : length xs ≡ length (nodes_of p program_function) =
      ap length nodes ∙ length-replicate (length (nodes_of p x.function)) _
      ∙ ap (λ (y : Context). length (nodes_of p y.function)) is in
      let none : states_in xs n ≡ None = ap (λ (ys : List NodeTable). states_in ys n) nodes
      ∙ no_states (length (nodes_of p x.function)) n in
      states_set xs 0 z (subst (λ m. 0 < m) (sym count) root_has_node) n
      ∙ ap (λ o. if 0 == n then o else states_in xs n) (ap (option_map state_of) here
      ∙ ap Some opening)
      ∙ ap (λ (o : Option AbstractState). if 0 == n then Some (opening_state p) else o) none
      ∙ ap (λ b. if b then Some (opening_state p) else None) (swapped n)
    where
      swapped : (m : ℕ) → (0 == m) ≡ (m == 0)
      swapped m =
          elim (cases_eq m 0) [
            | inl e ↦ eq-eqb 0 m (sym e) ∙ sym (eq-eqb m 0 e)
            | inr e ↦ ne_eqb 0 m (λ h. e (sym h)) ∙ sym (ne_eqb m 0 e)
          ]

-- the table of the program's own context alone
pub table_opening : (p : Program) (c : ContextTable) → c.context ≡ root
    → ((n : ℕ) → states_in c.nodes.items n ≡ (opening_table p).state root n)
    → entries_of c.entries ≡ no_entries → table_in (c ∷ []) [] ≡ opening_table p
table_opening p c is states entries =
    λ i. record {
      context = λ x. context_by x (same_context root x) refl i;
      state = λ x n. state_by x n (same_context root x) refl i;
      entry = λ x. entry_by x (same_context root x) refl i;
      edge = λ e. false;
    }
  where
    own : (x : Context) → is_of x c ≡ same_context root x
    own x = ap (λ (y : Context). same_context y x) is

    context_by : (x : Context) (b : Bool) → same_context root x ≡ b
        → list_any (is_of x) (c ∷ []) ≡ b
    context_by x true e = ap (λ b. b || false) (own x ∙ e)
    context_by x false e = ap (λ b. b || false) (own x ∙ e)

    found_by : (x : Context) (b : Bool) → same_context root x ≡ b
        → find_context x (c ∷ []) ≡ (if b then Some c else None)
    found_by x true e = cond-true (is_of x c) (Some c) None (own x ∙ e)
    found_by x false e = cond-false (is_of x c) (Some c) None (own x ∙ e)

    state_by : (x : Context) (n : ℕ) (b : Bool) → same_context root x ≡ b
        → option_and_then (λ (d : ContextTable). states_in d.nodes.items n)
        (find_context x (c ∷ []))
        ≡ (if b && (n == 0) then Some (opening_state p) else None)
    state_by x n true e =
        ap (option_and_then (λ (d : ContextTable). states_in d.nodes.items n))
        (found_by x true e) ∙ states n
    state_by x n false e =
        ap (option_and_then (λ (d : ContextTable). states_in d.nodes.items n))
        (found_by x false e)

    entry_by : (x : Context) (b : Bool) → same_context root x ≡ b
        → option_map_or (λ (d : ContextTable). entries_of d.entries) (find_context x (c ∷ []))
        no_entries ≡ (λ l k. None)
    entry_by x true e =
        ap (λ o. option_map_or (λ (d : ContextTable). entries_of d.entries) o no_entries)
        (found_by x true e) ∙ entries
    entry_by x false e =
        ap (λ o. option_map_or (λ (d : ContextTable). entries_of d.entries) o no_entries)
        (found_by x false e)
