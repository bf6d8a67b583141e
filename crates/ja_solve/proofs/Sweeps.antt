-- What the visits of the solver build, and sweeps that leave a closed table.
use Rattle.std.specs.Prelude.{◌≡◌, ◌≢◌, ◌<◌, ◌≤◌, ◌+◌, ◌-◌, ℕ, false, IsTrue, List, [], ◌∷◌, ◌++◌, Option, None, Some, Result, Ok, Err, IfErr, OnOk, is_some, length, slice_get, vec_len}
use Rattle.std.specs.Option.{option_map_or}
use Rattle.std.proofs.Common.{refl, sym, ◌∙◌, ap, subst, inl, inr, arith}
use Rattle.std.proofs.lemmas.Bool.{cases_Bool, cases_lt, false≢true}
use Rattle.std.proofs.lemmas.List.{length-map}
use Rattle.std.proofs.lemmas.List.Elements.{recursion_from_All}
use Rattle.std.proofs.lemmas.Option.{same_Some, slice_get_past}
use Rattle.ja_base.specs.declared.ids.Context.{Context}
use Rattle.ja_base.specs.declared.ids.NodeId.{NodeId}
use Rattle.ja_base.proofs.Lists.{all_at, element_within, within_from_some}
use Rattle.ja_base.proofs.Options.{none_not_some}
use Rattle.ja_graph.specs.declared.program.Program.{Program}
use Rattle.ja_machine.proofs.Lists.{is_some_from}
use Rattle.ja_rows.specs.declared.table.Edge.{Edge}
use Rattle.ja_rows.specs.declared.table.Item.{Item}
use Rattle.ja_rows.specs.declared.table.Item.TheVariants.{Open, Step, Fill, Back}
use Rattle.ja_rows.specs.Table.{Table, opening_table, same_edge, visited, IsBuilt, IsClosed, IsItem}
use Rattle.ja_rows.proofs.Rising.{builds_more, builds_opening}
use denote.Ref.{Bor}
use Rattle.ja_rules.specs.declared.analysis.Analysis.{Analysis}
use Rattle.ja_solve.specs.declared.solver.Along.{Along}
use Rattle.ja_solve.specs.declared.solver.Along.TheVariants as along
use Rattle.ja_solve.specs.declared.solver.SolveFault.{SolveFault}
use Rattle.ja_solve.specs.declared.solver.Work.{Work}
use Rattle.ja_table.specs.declared.table.ATable.{ATable}
use Rattle.ja_table.specs.declared.table.CallEdge.{CallEdge}
use Rattle.ja_table.specs.declared.table.ContextTable.{ContextTable}
use Rattle.ja_solve.specs.Solving.{Explains, WasSpent}
use Rattle.ja_table.specs.Order.{below_context, context_of, AreContextsOrdered}
use Rattle.ja_table.specs.Tables.{is_of, table_of, Fits, FitsContext, IsContext}
use Rattle.ja_table.specs.code.Growing.{HasSameEdges, HasSameKeys}
use Rattle.ja_table.specs.code.Places.{IsPlaceBehind}
use Rattle.ja_rules.specs.code.Settled.{IsSettled}
use Rattle.ja_solve.specs.code.Sweeps.{item_along, program_of, AreSettled, AreSettledAlong, AreStepped, AreSteppedAt, GoesOn, IsUnchanged}
use Rattle.ja_table.proofs.Found.{unreached_state}
use Rattle.ja_table.proofs.SameMeaning.{keys_both, keys_same}
use Rattle.ja_table.proofs.Kept.{edge_there}
use Rattle.ja_table.proofs.KeyOrders.{compared, one_way}
use Rattle.ja_table.proofs.Ordered.{ordered_at}
use Rattle.ja_table.proofs.Places.{contexts_order, edges_order}
use Rattle.ja_table.proofs.ContextOrder.{all_dropped, all_taken, place_found, rank, rank_rises, ranks, rank_within}

-- ---- visits that were added

pub goes_same : (a : Work) → GoesOn a a
goes_same a = record {
  analysis = refl;
  budget = refl;
  more = omega arith;
  same = λ e. refl;
}

pub goes_both : (a b c : Work) → GoesOn a b → GoesOn b c → GoesOn a c
goes_both a b c h k = record {
  analysis = k.analysis ∙ h.analysis;
  budget = k.budget ∙ h.budget;
  more = omega arith;
  same = λ e. k.same (omega arith) ∙ h.same (omega arith);
}

-- where no visit was added in all, none was before, and none behind
pub record AreBothUnchanged (a b c : Work) : Type 0 where
  pub first : IsUnchanged a b
  pub second : IsUnchanged b c

pub both_unchanged : (a b c : Work) → GoesOn a b → GoesOn b c → IsUnchanged a c
    → AreBothUnchanged a b c
both_unchanged a b c h k e = record { first = omega arith; second = omega arith }

-- ---- what visits build

-- a visit that left the table as it was would do so again
pub settled_since : (p : Program) (t u : Table) (item : Item) → visited p t item ≡ u → u ≡ t
    → IsSettled p u item
settled_since p t u item v same = subst (λ w. visited p w item ≡ u) (sym same) v

-- a visit more that was kept
pub builds_kept : (p : Program) (items after : List Item) (t u : Table) (item : Item)
    → IsBuilt p items t → IsItem p t item → visited p t item ≡ u → u ≢ t
    → after ≡ items ++ item ∷ [] → IsBuilt p after u
builds_kept p items after t u item b i v changed e =
    subst (λ xs. IsBuilt p xs u) (sym e) (subst (λ w. IsBuilt p (items ++ item ∷ []) w) v
    (builds_more p (opening_table p) items t item b i (λ same. changed (sym v ∙ same))))

-- one visit more than the budget allows would change the table
pub was_spent : (p : Program) (budget : ℕ) (items : List Item) (t u : Table) (item : Item)
    → IsBuilt p items t → length items ≡ budget → IsItem p t item → visited p t item ≡ u → u ≢ t
    → WasSpent p budget items
was_spent p budget items t u item b all i v changed =
    record {
      table = t;
      built = b;
      all = all;
      open_still = λ closed. changed (sym v ∙ closed.settled item i);
    }

-- a table that visits build and whose items are settled is closed
pub closed : (p : Program) (visits : List Item) (t : Table) → IsBuilt p visits t
    → AreSettled p t → IsClosed p t
closed p visits t built settled =
    record { opening = builds_opening p visits t built; settled = settled }

-- ---- all items

pub all_settled : (p : Program) (t : Table) → IsSettled p t Open → AreStepped p t
    → AreSettledAlong p t along.Fill → AreSettledAlong p t along.Back → AreSettled p t
all_settled p t opens steps fills backs Open i = opens
all_settled p t opens steps fills backs (Step x n) i = steps x n i
all_settled p t opens steps fills backs (Fill e) i = fills e i
all_settled p t opens steps fills backs (Back e) i = backs e i

-- ---- the steps of a context

-- those of its first nodes
abbrev pub AreSteppedBelow : Program → Table → Context → ℕ → Type 0
AreSteppedBelow p t x n =
    (k : NodeId) → k.0 < n → IsItem p t (Step x k) → IsSettled p t (Step x k)

same_node : (k : NodeId) (n : ℕ) → n ≡ k.0 → record { 0 = n } ≡ k
same_node k n e = λ i. record { 0 = e i }

pub more_stepped : (p : Program) (t : Table) (x : Context) (n : ℕ) → AreSteppedBelow p t x n
    → (IsItem p t (Step x (record { 0 = n })) → IsSettled p t (Step x (record { 0 = n })))
    → AreSteppedBelow p t x (n + 1)
more_stepped p t x n below here k less i =
    elim (cases_lt k.0 n) [
      | inl before ↦ below k before i
      | inr last ↦
          let e : n ≡ k.0 = omega (arith, last, less) in
          subst (λ (m : NodeId). IsItem p t (Step x m) → IsSettled p t (Step x m))
          (same_node k n e) here i
    ]

-- ---- the contexts in order

-- a context comes before that of a place, if there is one
abbrev pub IsBefore : List ContextTable → ℕ → Context → Type 0
IsBefore cs place x =
    (c : ContextTable) → slice_get cs place ≡ Some c → IsTrue (below_context x c.context)

-- one from the place on doesn't
not_before : (cs : List ContextTable) → AreContextsOrdered cs → (place k : ℕ) (d : ContextTable)
    → place ≤ k → slice_get cs k ≡ Some d → IsBefore cs place d.context → ⊥
not_before cs ordered place k d h d_is before =
    let within : k < length cs = within_from_some cs k (is_some_from _ d d_is) in
    let (c, c_is) = element_within cs place (omega arith) in
    elim (cases_lt place k) [
      | inl less ↦
          one_way contexts_order c.context d.context
          (ordered_at context_of contexts_order cs ordered place k c d less c_is d_is)
          (before c c_is)
      | inr more ↦
          let e : place ≡ k = omega arith in
          let here = before d (ap (slice_get cs) e ∙ d_is) in
          one_way contexts_order d.context d.context here here
    ]

-- the contexts before a place are settled
pub record AreSteppedBefore (p : Program) (t : ATable) (place : ℕ) : Type 0 where
  pub each : (x : Context) → IsTrue ((table_of t).context x)
      → IsBefore t.contexts.items place x → AreSteppedAt p (table_of t) x

-- none is before the first
pub none_before : (p : Program) (t : ATable) → Fits p t → AreSteppedBefore p t 0
none_before p t fits = record {
  each =
      λ x reached before.
      let at = place_found (is_of x) t.contexts.items reached in
      absurd (not_before t.contexts.items fits.ordered 0 at.place at.element (omega arith)
      at.element_is (subst (IsBefore t.contexts.items 0)
      (sym (contexts_order.exact at.element.context x at.passes)) before));
}

-- one more is settled
pub more_before : (p : Program) (t u : ATable) (place next : ℕ) (c : ContextTable) → Fits p u
    → table_of u ≡ table_of t → slice_get t.contexts.items place ≡ Some c
    → AreSteppedBefore p t place → AreSteppedAt p (table_of u) c.context
    → IsPlaceBehind c.context u.contexts.items next → AreSteppedBefore p u next
more_before p t u place next c fits same c_is h now behind = record {
  each = λ x reached before. elim (compared contexts_order x c.context) [
    | inl less ↦
        subst (λ (v : Table). AreSteppedAt p v x) (sym same)
        (h.each x (subst (λ (v : Table). IsTrue (v.context x)) same reached)
        (λ d d_is. subst (λ (e : ContextTable). IsTrue (below_context x e.context))
        (same_Some c d (sym c_is ∙ d_is)) less))
    | inr (inl is) ↦ subst (AreSteppedAt p (table_of u)) (sym is) now
    | inr (inr more) ↦
        let at = place_found (is_of x) u.contexts.items reached in
        let is = contexts_order.exact at.element.context x at.passes in
        elim (cases_lt at.place next) [
          | inl less ↦
              absurd (false≢true (sym (subst (λ (y : Context).
              below_context c.context y ≡ false) is
              (all_taken (λ (d : ContextTable). below_context c.context d.context ≡ false) next
              u.contexts.items behind.before at.place at.element less at.element_is)) ∙ more))
          | inr from ↦
              absurd (not_before u.contexts.items fits.ordered next at.place at.element from
              at.element_is (subst (IsBefore u.contexts.items next) (sym is) before))
        ]
  ];
}

-- where there is no context at the place, all are settled
pub all_stepped : (p : Program) (t : ATable) (place : ℕ) → length t.contexts.items ≤ place
    → AreSteppedBefore p t place → AreStepped p (table_of t)
all_stepped p t place past h x n i =
    elim (cases_Bool ((table_of t).context x)) [
      | inl reached ↦
          h.each x reached (λ c c_is. absurd (none_not_some
          (sym (slice_get_past t.contexts.items place past) ∙ c_is))) n i
      | inr apart ↦
          absurd (false≢true (ap is_some (sym (unreached_state t x n.0 apart)) ∙ i.1))
    ]

-- how many contexts of the program may come from a place on
abbrev pub left_from : Program → List ContextTable → ℕ → ℕ
left_from p cs place =
    option_map_or (λ (c : ContextTable). ranks p - rank p c.context) (slice_get cs place) 0

pub left_falls : (p : Program) (cs ds : List ContextTable) (place next : ℕ) (c : ContextTable)
    → slice_get cs place ≡ Some c → IsContext p c.context → IsPlaceBehind c.context ds next
    → left_from p ds next < left_from p cs place
left_falls p cs ds place next c c_is of behind =
    let here : left_from p cs place ≡ ranks p - rank p c.context = ap (λ o. option_map_or
    (λ (e : ContextTable). ranks p - rank p e.context) o 0) c_is in
    let within = rank_within p c.context of in
    by (slice_get ds next) refl here within
  where
    by : (o : Option ContextTable) → slice_get ds next ≡ o
        → left_from p cs place ≡ ranks p - rank p c.context → rank p c.context < ranks p
        → option_map_or (λ (d : ContextTable). ranks p - rank p d.context) o 0
        < left_from p cs place
    by None e here within = omega (arith, here, within)
    by (Some d) e here within =
        let rises = rank_rises p c.context d.context of (all_dropped
        (λ (f : ContextTable). IsTrue (below_context c.context f.context)) next ds behind.behind
        next d (omega arith) e) in
        omega (arith, here, within, rises)

-- ---- the edges in order

-- those before a place are settled
abbrev pub AreSettledEdges : Program → Table → Along → List CallEdge → ℕ → Type 0
AreSettledEdges p t along edges n =
    (k : ℕ) (d : CallEdge) → k < n → slice_get edges k ≡ Some d
    → IsSettled p t (item_along along d.edge)

pub more_edges : (p : Program) (t : Table) (along : Along) (edges : List CallEdge) (n : ℕ)
    → AreSettledEdges p t along edges n
    → ((d : CallEdge) → slice_get edges n ≡ Some d → IsSettled p t (item_along along d.edge))
    → AreSettledEdges p t along edges (n + 1)
more_edges p t along edges n below here k d less is =
    elim (cases_lt k n) [
      | inl before ↦ below k d before is
      | inr last ↦
          let e : n ≡ k = omega (arith, last, less) in
          here d (ap (slice_get edges) e ∙ is)
    ]

-- each edge of a table has a place among those
pub all_edges : (p : Program) (t : ATable) (u : Table) (along : Along) (n : ℕ)
    → vec_len t.edges ≤ n → u ≡ table_of t → AreSettledEdges p u along t.edges.items n
    → AreSettledAlong p u along
all_edges p t u along n all same h e there =
    let at = place_found (λ (d : CallEdge). same_edge d.edge e) t.edges.items
    (subst (λ (v : Table). IsTrue (v.edge e)) same there) in
    let within : at.place < length t.edges.items = within_from_some t.edges.items at.place
    (is_some_from _ at.element at.element_is) in
    let long = t.edges.ok.0 in
    subst (λ (d : Edge). IsSettled p u (item_along along d))
    (edges_order.exact at.element.edge e at.passes)
    (h at.place at.element (omega (arith, within, long, all)) at.element_is)

pub same_count : (t u : ATable) → HasSameKeys t u → vec_len u.edges ≡ vec_len t.edges
same_count t u same =
    u.edges.ok.0 ∙ sym (length-map u.edges.items (λ (d : CallEdge). d.edge))
    ∙ ap length same.edges ∙ length-map t.edges.items (λ (d : CallEdge). d.edge)
    ∙ sym t.edges.ok.0

pub along_there : (p : Program) (t : ATable) (along : Along) (k : ℕ) (d : CallEdge)
    → slice_get t.edges.items k ≡ Some d → IsItem p (table_of t) (item_along along d.edge)
along_there p t along.Fill k d is = edge_there t k d is
along_there p t along.Back k d is = edge_there t k d is

pub along_keys : (along : Along) (e : Edge) (t u : ATable) → HasSameEdges (item_along along e) t u
    → HasSameKeys t u
along_keys along.Fill e t u h = h
along_keys along.Back e t u h = h

-- the edges of tables of the same keys
pub keys_edges : (item : Item) (t u : ATable) → HasSameKeys t u → HasSameEdges item t u
keys_edges Open t u h = h
keys_edges (Step x n) t u h = tt
keys_edges (Fill e) t u h = h
keys_edges (Back e) t u h = h

pub edges_both : (item : Item) (t u v : ATable) → HasSameEdges item t u → HasSameEdges item u v
    → HasSameEdges item t v
edges_both Open t u v h k = keys_both t u v h k
edges_both (Step x n) t u v h k = tt
edges_both (Fill e) t u v h k = keys_both t u v h k
edges_both (Back e) t u v h k = keys_both t u v h k

pub edges_same : (item : Item) (t : ATable) → HasSameEdges item t t
edges_same Open t = keys_same t
edges_same (Step x n) t = tt
edges_same (Fill e) t = keys_same t
edges_same (Back e) t = keys_same t

-- ---- one work after another

pub program_now : {a b : Bor Analysis} → a ≡ b → a.now.program.now ≡ b.now.program.now
program_now e = ap (λ (q : Bor Analysis). q.now.program.now) e

pub program_is : (a b : Work) → GoesOn a b → (program_of b) ≡ (program_of a)
program_is a b h = program_now h.analysis

-- a fault of the later one is explained by the earlier one
pub explains_from : {T : Type 0} → (a b : Work) → GoesOn a b → (r : Result T SolveFault)
    → IfErr r (Explains (program_of b) b.budget) → IfErr r (Explains (program_of a) a.budget)
explains_from a b h (Ok x) e = tt
explains_from a b h (Err f) e =
    subst (λ (q : Program). Explains q a.budget f) (program_is a b h)
    (subst (λ n. Explains (program_of b) n f) h.budget e)

-- where no visit was added, what held of the table still does
pub carried : (P : Program → Table → Type 0) → (a b : Work) → GoesOn a b → IsUnchanged a b
    → P (program_of a) (table_of a.table) → P (program_of b) (table_of b.table)
carried P a b h same p =
    subst (λ (q : Program). P q (table_of b.table)) (sym (program_is a b h))
    (subst (P (program_of a)) (sym (h.same same)) p)

-- .. and did
pub carried_back : (P : Program → Table → Type 0) → (a b : Work) → GoesOn a b
    → IsUnchanged a b → P (program_of b) (table_of b.table) → P (program_of a) (table_of a.table)
carried_back P a b h same p =
    subst (P (program_of a)) (h.same same)
    (subst (λ (q : Program). P q (table_of b.table)) (program_is a b h) p)

pub both_on : {T E P Q R : Type 0} → (r : Result T E) → OnOk r P → OnOk r Q → (P → Q → R)
    → OnOk r R
both_on (Ok x) p q h = h p q
both_on (Err e) p q h = tt

-- a sweep
pub sweep_settled : (a b c d e : Work) → GoesOn a b → GoesOn b c → GoesOn c d → GoesOn d e
    → (IsUnchanged a b → IsSettled (program_of b) (table_of b.table) Open)
    → (IsUnchanged b c → AreStepped (program_of c) (table_of c.table))
    → (IsUnchanged c d → AreSettledAlong (program_of d) (table_of d.table) along.Fill)
    → (IsUnchanged d e → AreSettledAlong (program_of e) (table_of e.table) along.Back)
    → IsUnchanged a e → AreSettled (program_of e) (table_of e.table)
sweep_settled a b c d e first second third fourth opens steps fills backs same =
    let ab : IsUnchanged a b = omega (arith, same, first.more, second.more, third.more, fourth.more)
    in
    let bc : IsUnchanged b c = omega (arith, same, first.more, second.more, third.more, fourth.more)
    in
    let cd : IsUnchanged c d = omega (arith, same, first.more, second.more, third.more, fourth.more)
    in
    let de : IsUnchanged d e = omega (arith, same, first.more, second.more, third.more, fourth.more)
    in
    let P = λ (p : Program) (t : Table). IsSettled p t Open in
    all_settled (program_of e) (table_of e.table)
    (carried P d e fourth de (carried P c d third cd (carried P b c second bc (opens ab))))
    (carried AreStepped d e fourth de (carried AreStepped c d third cd (steps bc)))
    (carried (λ (p : Program) (t : Table). AreSettledAlong p t along.Fill) d e fourth de (fills cd))
    (backs de)

-- ---- places

-- a context at a place is one of the program
pub context_in : (p : Program) (t : ATable) (place : ℕ) (c : ContextTable) → Fits p t
    → slice_get t.contexts.items place ≡ Some c → IsContext p c.context
context_in p t place c fits is =
    let of : FitsContext p c = all_at (FitsContext p) t.contexts.items place c
    (recursion_from_All (FitsContext p) t.contexts.items fits.each) is in
    of.context
