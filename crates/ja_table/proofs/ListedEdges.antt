-- The call edges that a table keeps in order are those of its table, in order.
use Rattle.std.specs.Prelude.{◌≡◌, ◌<◌, ℕ, IsTrue, All, length, map, nat_lt, vec_len, List, []}
use Rattle.std.specs.List.{flat_map}
use Rattle.std.proofs.Common.{refl, sym, subst, ap, ◌∙◌, inl, inr, arith}
use Rattle.std.proofs.lemmas.Bool.{and_from, eq-eqb, lt-ltb, or_left, or_right}
use Rattle.std.proofs.lemmas.List.{length-map}
use Rattle.ja_base.specs.declared.ids.Context.{Context}
use Rattle.ja_base.proofs.Lists.{within_from_some}
use Rattle.ja_graph.specs.declared.program.Program.{Program}
use Rattle.ja_graph.specs.Program.{nodes_of}
use Rattle.ja_abstract.specs.Lists.{Member}
use Rattle.ja_abstract.proofs.Lists.{member-flat_map}
use Rattle.ja_rows.specs.declared.table.Edge.{Edge}
use Rattle.ja_rows.specs.Listed.{contexts_of, edge_into, edges_from, edges_of}
use Rattle.ja_rows.specs.Table.{Table, node_numbers, same_context, same_edge}
use Rattle.ja_table.specs.declared.table.ATable.{ATable}
use Rattle.ja_table.specs.declared.table.CallEdge.{CallEdge}
use Rattle.ja_table.specs.Order.{below_context, below_edge, edge_of, AreEdgesOrdered}
use Rattle.ja_table.specs.Tables.{table_of, Fits, FitsContext, FitsEdge}
use Rattle.ja_table.proofs.Ascending.{from_flat_map, first_kept, first_or_later, number_listed, Ascends, ascends_kept, ascends-flat_map, ascends-range, keys_ascend, listed, of_key, same_elements, told}
use Rattle.ja_table.proofs.KeyOrders.{one_way}
use Rattle.ja_table.proofs.ListedContexts.{contexts_ascend, reached_among, Comes}
use Rattle.ja_table.proofs.Places.{contexts_order, edges_order}

-- ---- the order of edges

abbrev Follows : Edge → Edge → Type 0
Follows e d = IsTrue (below_edge e d)

from_callee : (e d : Edge) → e.caller ≡ d.caller → e.node.0 ≡ d.node.0 → Comes e.callee d.callee
    → Follows e d
from_callee e d caller node callee =
    or_right (below_context e.caller d.caller) _ (and_from _ _
    (subst (λ x. IsTrue (same_context e.caller x)) caller (contexts_order.itself e.caller))
    (or_right (nat_lt e.node.0 d.node.0) _ (and_from _ _ (eq-eqb e.node.0 d.node.0 node) callee)))

from_node : (e d : Edge) → e.caller ≡ d.caller → e.node.0 < d.node.0 → Follows e d
from_node e d caller node =
    or_right (below_context e.caller d.caller) _ (and_from _ _
    (subst (λ x. IsTrue (same_context e.caller x)) caller (contexts_order.itself e.caller))
    (or_left _ _ (lt-ltb e.node.0 d.node.0 node)))

-- ---- the edges of a table

edge_at : Context → ℕ → Context → Edge
edge_at x n y = record { caller = x; node = record { 0 = n }; callee = y }

module _ (p : Program) (t : Table) where
  into_is : (x y : Context) (n : ℕ) (e : Edge) → Member e (edge_into t x n y)
      → (edge_at x n y ≡ e) × IsTrue (t.edge e)
  unfolding edge_at
  into_is x y n e m =
      elim (first_or_later e (edge_at x n y) [] (t.edge (edge_at x n y)) m) [
        | inl h ↦ (h.0, subst (λ d. IsTrue (t.edge d)) h.0 h.1)
        | inr none ↦ elim none [ ]
      ]

  abbrev from_point : Context → ℕ → List Edge
  from_point x n = flat_map (edge_into t x n) (contexts_of p t)

  -- an edge of a node
  record IsFrom (x : Context) (n : ℕ) (e : Edge) : Type 0 where
    pub caller : x ≡ e.caller
    pub node : n ≡ e.node.0
    pub edge : IsTrue (t.edge e)

  point_is : (x : Context) (n : ℕ) (e : Edge) → Member e (from_point x n) → IsFrom x n e
  unfolding edge_at
  point_is x n e m =
      let r = from_flat_map (edge_into t x n) e (contexts_of p t) m in
      let is = into_is x r.0 n e r.2 in record {
        caller = ap (λ (d : Edge). d.caller) is.0;
        node = ap (λ (d : Edge). d.node.0) is.0;
        edge = is.1;
      }

  caller_is : (x : Context) (e : Edge) → Member e (edges_from p t x)
      → (x ≡ e.caller) × IsTrue (t.edge e)
  caller_is x e m =
      let r = from_flat_map (from_point x) e (node_numbers p x.function) m in
      let is = point_is x r.0 e r.2 in (is.caller, is.edge)

  edge_is : (e : Edge) → Member e (edges_of p t) → IsTrue (t.edge e)
  edge_is e m =
      let r = from_flat_map (edges_from p t) e (contexts_of p t) m in (caller_is r.0 e r.2).1

  into_ascends : (x y : Context) (n : ℕ) → Ascends Follows (edge_into t x n y)
  unfolding edge_at
  into_ascends x y n = ascends_kept Follows (edge_at x n y) [] (t.edge (edge_at x n y)) tt tt

  point_ascends : (x : Context) (n : ℕ) → Ascends Follows (from_point x n)
  unfolding edge_at
  point_ascends x n =
      ascends-flat_map Comes Follows (edge_into t x n) (λ y. into_ascends x y n) (λ y z h e d m k.
      let a = (into_is x y n e m).0 in let b = (into_is x z n d k).0 in
      subst (λ u. Follows u d) a (subst (Follows (edge_at x n y)) b
      (from_callee (edge_at x n y) (edge_at x n z) refl refl h))) (contexts_of p t)
      (contexts_ascend p t.context)

  from_ascends : (x : Context) → Ascends Follows (edges_from p t x)
  from_ascends x =
      ascends-flat_map (λ i j. i < j) Follows (from_point x) (point_ascends x) (λ i j h e d m k.
      let a = point_is x i e m in let b = point_is x j d k in
      from_node e d (sym a.caller ∙ b.caller) (omega (arith, a.node, b.node, h)))
      (node_numbers p x.function) (ascends-range 0 (length (nodes_of p x.function)))

  edges_ascend : Ascends Follows (edges_of p t)
  edges_ascend =
      ascends-flat_map Comes Follows (edges_from p t) from_ascends (λ x y h e d m k.
      or_left _ _ (subst (λ u. Comes u d.caller) (caller_is x e m).0
      (subst (Comes x) (caller_is y d k).0 h))) (contexts_of p t) (contexts_ascend p t.context)

  edge_listed : (e : Edge) → Member e.caller (contexts_of p t)
      → e.node.0 < length (nodes_of p e.caller.function) → Member e.callee (contexts_of p t)
      → IsTrue (t.edge e) → Member e (edges_of p t)
  unfolding edge_at
  edge_listed e caller node callee is =
      member-flat_map (edges_from p t) e.caller e (contexts_of p t) caller
      (member-flat_map (from_point e.caller) e.node.0 e (node_numbers p e.caller.function)
      (number_listed (length (nodes_of p e.caller.function)) e.node.0 node)
      (member-flat_map (edge_into t e.caller e.node.0) e.callee e (contexts_of p t) callee
      (first_kept e (edge_at e.caller e.node.0 e.callee) []
      (t.edge (edge_at e.caller e.node.0 e.callee)) is refl)))

-- ---- the edges that are kept

abbrev pub kept_edges : List CallEdge → List Edge
kept_edges es = map edge_of es

-- where they lead between contexts of the table, in order
module _ (p : Program) (t : ATable) (each : All (FitsContext p) t.contexts.items)
    (edges : All (λ (d : CallEdge). FitsEdge p t d.edge) t.edges.items) where
  pub edges_kept : AreEdgesOrdered t.edges.items
      → edges_of p (table_of t) ≡ kept_edges t.edges.items
  edges_kept ordered =
      same_elements Follows (one_way edges_order) (edges_of p (table_of t))
      (kept_edges t.edges.items) (edges_ascend p (table_of t))
      (keys_ascend edge_of below_edge t.edges.items ordered)
      (λ e m. listed edge_of same_edge edges_order.exact t.edges.items e
      (edge_is p (table_of t) e m))
      (λ e m. let f = of_key edge_of (FitsEdge p t) t.edges.items edges e m in
      edge_listed p (table_of t) e (reached_among p t each e.caller f.caller)
      (within_from_some (nodes_of p e.caller.function) e.node.0 f.node)
      (reached_among p t each e.callee f.callee)
      (told edge_of same_edge edges_order.itself t.edges.items e m))

pub edges_listed : (p : Program) (t : ATable) → Fits p t
    → edges_of p (table_of t) ≡ kept_edges t.edges.items
edges_listed p t fits = edges_kept p t fits.each fits.edges fits.edges_ordered

-- how many there are
pub edges_count : (p : Program) (t : ATable) → Fits p t
    → vec_len t.edges ≡ length (edges_of p (table_of t))
edges_count p t fits =
    t.edges.ok.0 ∙ sym (length-map t.edges.items edge_of)
    ∙ ap length (sym (edges_listed p t fits))
