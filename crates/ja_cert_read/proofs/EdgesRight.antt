-- Edges that are listed: what isn't wrong of them, and their order.
use Rattle.std.specs.Prelude.{◌≡◌, ◌&&◌, ℕ, Bool, true, false, IsTrue, IsSome, List, [], ◌∷◌, map, nat_lt, Option, Some, None}
use Rattle.std.specs.List.{AllByRecursion, list_any}
use Rattle.std.specs.Option.{option_map_or}
use Rattle.std.proofs.Common.{refl, sym, subst, ap, ◌∙◌, inl, inr}
use Rattle.std.proofs.lemmas.Bool.{and_from, and_parts, eq-eqb, lt-ltb, or_cases, or_left, or_right}
use Rattle.serde_json.specs.Data.{Data}
use Rattle.ja_base.specs.declared.ids.Context.{Context}
use Rattle.ja_base.specs.declared.ids.Label.{Label}
use Rattle.ja_prim.specs.Texts.{same_text}
use Rattle.ja_graph.specs.declared.node.NodeInfo.{NodeInfo}
use Rattle.ja_graph.specs.declared.program.Program.{Program}
use Rattle.ja_graph.specs.Program.{node_at}
use Rattle.ja_abstract.specs.AbstractState.{label_number}
use Rattle.ja_abstract.specs.Lists.{Member}
use Rattle.ja_abstract.proofs.Texts.{text_same}
use Rattle.ja_value.specs.Labels.{label_at}
use Rattle.ja_aheap.proofs.LabelLemmas.{label_number_at}
use Rattle.ja_rows.specs.declared.table.Edge.{Edge}
use Rattle.ja_rows.specs.Table.{same_context}
use Rattle.ja_rows.proofs.Applied.{same_context-self}
use Rattle.ja_table.specs.Order.{below_context, below_edge, AreContextsOrdered, AreEdgesOrdered}
use Rattle.ja_table.specs.Tables.{table_of, FitsEdge}
use Rattle.ja_table.specs.declared.table.ATable.{ATable}
use Rattle.ja_table.specs.declared.table.CallEdge.{CallEdge}
use Rattle.ja_table.specs.declared.table.ContextTable.{ContextTable}
use Rattle.ja_table.proofs.Ascending.{Ascends, told}
use Rattle.ja_table.proofs.ListedContexts.{Comes}
use Rattle.ja_cert_read.specs.declared.contexts.ContextAt.{ContextAt}
use Rattle.ja_cert.specs.Certificate.{edge_data}
use Rattle.ja_cert.specs.Wrong as wrong
use Rattle.ja_cert.specs.Wrong.{edge_number, edge_wrong, is_above, is_less}
use Rattle.ja_cert_read.specs.code.Building.{AreRight}
use Rattle.ja_cert_read.specs.code.Contexts.{listed_data}
use Rattle.ja_cert_read.specs.code.Orders.{context_at_rank, context_rank, edge_rank}
use Rattle.ja_cert_read.specs.code.Whole.{call_edge_data}
use Rattle.ja_cert_read.proofs.ContextsRight.{comes_from}
use Rattle.ja_cert_read.proofs.Orders.{ascends_mapped, each_right, less_first, rises}
use Rattle.ja_cert_read.proofs.Told.{each_none}
use Rattle.ja_table.proofs.Places.{label_tells}
use Rattle.ja_cert_parts.proofs.FaultLemmas.{unless_none}

-- ---- labels and contexts by their numbers

context_same : (x y : Context) → x.function.0 ≡ y.function.0
    → label_number x.receiver ≡ label_number y.receiver → x ≡ y
context_same x y f r =
    let receiver = label_tells x.receiver y.receiver r in
    λ i. record { function = record { 0 = f i }; receiver = receiver i }

rank_same : (x y : Context) → same_text (context_rank x) (context_rank y) ≡ true → x ≡ y
rank_same x y h =
    let lists = text_same (context_rank x) (context_rank y) h in
    let function : x.function.0 ≡ y.function.0 = cc in
    let receiver : label_number x.receiver ≡ label_number y.receiver = cc in
    context_same x y function receiver

-- ---- the order of edges

follows_within : (e d : Edge) → e.caller ≡ d.caller
    → is_less (e.node.0 ∷ context_rank e.callee) (d.node.0 ∷ context_rank d.callee) ≡ true
    → IsTrue (below_edge e d)
follows_within e d caller h =
    or_right (below_context e.caller d.caller) _ (and_from _ _
    (subst (λ x. IsTrue (same_context e.caller x)) caller (same_context-self e.caller))
    (elim (less_first e.node.0 d.node.0 (context_rank e.callee) (context_rank d.callee) h) [
      | inl n ↦ or_left _ _ (lt-ltb e.node.0 d.node.0 n)
      | inr r ↦ or_right (nat_lt e.node.0 d.node.0) _
          (and_from _ _ (eq-eqb e.node.0 d.node.0 r.0) (comes_from e.callee d.callee r.1))
    ]))

follows_from : (e d : Edge) → is_less (edge_rank e) (edge_rank d) ≡ true
    → IsTrue (below_edge e d)
follows_from e d h = elim (less_first e.caller.function.0 d.caller.function.0
    (label_number e.caller.receiver ∷ e.node.0 ∷ context_rank e.callee)
    (label_number d.caller.receiver ∷ d.node.0 ∷ context_rank d.callee) h) [
      | inl f ↦ or_left _ _ (or_left _ _ (lt-ltb e.caller.function.0 d.caller.function.0 f))
      | inr r ↦ elim (less_first (label_number e.caller.receiver) (label_number d.caller.receiver)
          (e.node.0 ∷ context_rank e.callee) (d.node.0 ∷ context_rank d.callee) r.1) [
            | inl l ↦ or_left _ _ (or_right (nat_lt e.caller.function.0 d.caller.function.0) _
                (and_from _ _ (eq-eqb e.caller.function.0 d.caller.function.0 r.0)
                (lt-ltb (label_number e.caller.receiver) (label_number d.caller.receiver) l)))
            | inr s ↦ follows_within e d (context_same e.caller d.caller r.0 s.0) s.1
          ]
    ]

abbrev FollowsBy : CallEdge → CallEdge → Type 0
FollowsBy e d = IsTrue (below_edge e.edge d.edge)

edge_parts : (p : Program) (contexts before : List Data) (d : Data)
    → edge_wrong p contexts before d ≡ None → (is_above edge_number before d ≡ true)
    × ((wrong.are_listed contexts d && wrong.is_calling p d) ≡ true)
unfolding edge_wrong
edge_parts p contexts before d h =
    let behind : Bool = is_above edge_number before d in
    let between : Bool = wrong.are_listed contexts d && wrong.is_calling p d in
    let parts = each_none (wrong.edge_shape_wrong p d ∷ wrong.here_unless behind
    ∷ wrong.here_unless between ∷ []) h in
    (unless_none behind parts.1.0, unless_none between parts.1.1.0)

pub edges_ascend : (p : Program) (contexts : List Data) (es : List CallEdge)
    → AreRight (edge_wrong p contexts) call_edge_data es → Ascends FollowsBy es
unfolding edge_data
edges_ascend p contexts es h =
    ascends_mapped call_edge_data _ FollowsBy (λ x y k. follows_from x.edge y.edge k) es
    (rises (edge_wrong p contexts) edge_number
    (λ before d k. (edge_parts p contexts before d k).0) (map call_edge_data es) h)

-- ---- what each edge has

calls_some : (o : Option NodeInfo)
    → option_map_or (λ (i : NodeInfo). wrong.calls i.node) o false ≡ true → IsSome o
calls_some None h = h
calls_some (Some i) h = refl

-- an edge between contexts that are listed
pub record IsBetween (p : Program) (contexts : List Data) (e : Edge) : Type 0 where
  pub caller : wrong.is_listed contexts (context_rank e.caller) ≡ true
  pub callee : wrong.is_listed contexts (context_rank e.callee) ≡ true
  pub node : IsSome (node_at p e.caller.function e.node)

edge_is : (p : Program) (contexts before : List Data) (e : CallEdge)
    → edge_wrong p contexts before (call_edge_data e) ≡ None → IsBetween p contexts e.edge
unfolding edge_data
edge_is p contexts before e h =
    let last = (edge_parts p contexts before (call_edge_data e) h).1 in
    let both = and_parts (wrong.are_listed contexts (call_edge_data e)) _ last in
    let ends = and_parts (wrong.is_listed contexts (context_rank e.edge.caller)) _ both.0 in
    record {
      caller = ends.0;
      callee = ends.1;
      node = calls_some (node_at p e.edge.caller.function e.edge.node) both.1;
    }

pub edges_between : (p : Program) (contexts : List Data) (es : List CallEdge)
    → AreRight (edge_wrong p contexts) call_edge_data es
    → AllByRecursion (λ (e : CallEdge). IsBetween p contexts e.edge) es
edges_between p contexts es h =
    each_right (edge_wrong p contexts) call_edge_data
    (λ (e : CallEdge). IsBetween p contexts e.edge) (edge_is p contexts) [] es h

-- ---- contexts that are listed

pub listed_among : (p : Program) (xs : List ContextAt) (numbers : List ℕ)
    → wrong.is_listed (map (listed_data p) xs) numbers
    ≡ list_any (λ (x : ContextAt). same_text (context_at_rank x) numbers) xs
unfolding listed_data
listed_among p [] numbers = refl
listed_among p (x ∷ xs) numbers = rw (listed_among p xs numbers) refl

is_member : (xs : List ContextAt) (x : Context)
    → list_any (λ (y : ContextAt). same_text (context_at_rank y) (context_rank x)) xs ≡ true
    → Member x (map (λ (y : ContextAt). y.context) xs)
is_member [] x h = absurd (cc)
is_member (y ∷ ys) x h = elim (or_cases (same_text (context_at_rank y) (context_rank x)) _ h) [
  | inl here ↦ inl (rank_same y.context x here)
  | inr later ↦ inr (is_member ys x later)
]

-- .. are those of a table with them
listed_reached : (p : Program) (xs : List ContextAt) (t : ATable) (x : Context)
    → map (λ (c : ContextTable). c.context) t.contexts.items
    ≡ map (λ (y : ContextAt). y.context) xs
    → wrong.is_listed (map (listed_data p) xs) (context_rank x) ≡ true
    → IsTrue ((table_of t).context x)
listed_reached p xs t x same h =
    let m = is_member xs x (sym (listed_among p xs (context_rank x)) ∙ h) in
    told (λ (c : ContextTable). c.context) same_context same_context-self t.contexts.items x
    (subst (Member x) (sym same) m)

pub edge_fits : (p : Program) (xs : List ContextAt) (t : ATable) (e : Edge)
    → map (λ (c : ContextTable). c.context) t.contexts.items
    ≡ map (λ (y : ContextAt). y.context) xs
    → IsBetween p (map (listed_data p) xs) e → FitsEdge p t e
edge_fits p xs t e same is = record {
  caller = listed_reached p xs t e.caller same is.caller;
  node = is.node;
  callee = listed_reached p xs t e.callee same is.callee;
}

-- ---- orders of what is kept

pub contexts_ordered : (cs : List ContextTable)
    → Ascends Comes (map (λ (c : ContextTable). c.context) cs) → AreContextsOrdered cs
contexts_ordered [] a = tt
contexts_ordered (c ∷ cs) a = (kept_below c.context cs a.0, contexts_ordered cs a.1)
  where
    kept_below : (x : Context) (ds : List ContextTable)
        → AllByRecursion (Comes x) (map (λ (c : ContextTable). c.context) ds)
        → AllByRecursion (λ (d : ContextTable). IsTrue (below_context x d.context)) ds
    kept_below x [] all = tt
    kept_below x (d ∷ ds) all = (all.0, kept_below x ds all.1)

pub edges_ordered : (es : List CallEdge) → Ascends FollowsBy es → AreEdgesOrdered es
edges_ordered [] a = tt
edges_ordered (e ∷ es) a = (a.0, edges_ordered es a.1)
