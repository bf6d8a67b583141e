-- The edges of a table and visits are written as a certificate has them.
use Rattle.std.proofs.Common.{◌≡◌, ◌*◌, ◌==◌, ℕ, true, ◌&&◌, ◌||◌, List, [], ◌∷◌, map, length, None, refl, sym, ap, ◌∙◌, inl, inr}
use Rattle.std.specs.Prelude.{IsTrue, nat_lt}
use Rattle.std.specs.List.{list_any, AllByRecursion}
use Rattle.std.proofs.lemmas.Bool.{and_from, and_parts, eqb-true, false≢true, lt-ltb, ltb-true, or_cases, or_left, or_right}
use Rattle.serde_json.specs.Data.{Data}
use Rattle.ja_base.proofs.Lists.{all_weaker}
use Rattle.ja_base.specs.declared.ids.Context.{Context}
use Rattle.ja_prim.specs.Texts.{same_text}
use Rattle.ja_graph.specs.declared.program.Program.{Program}
use Rattle.ja_graph.specs.Program.{nodes_of}
use Rattle.ja_abstract.specs.AbstractState.{label_number}
use Rattle.ja_abstract.proofs.Labels.{same_label-true}
use Rattle.ja_abstract.proofs.Texts.{same_text_refl}
use Rattle.ja_aheap.proofs.UpdateLemmas.{label_within}
use Rattle.ja_rows.specs.declared.table.Edge.{Edge}
use Rattle.ja_rows.specs.declared.table.Item.{Item}
use Rattle.ja_rows.specs.declared.table.Item.TheVariants.{Open, Step, Fill, Back}
use Rattle.ja_rows.specs.Table.{same_context}
use Rattle.ja_table.specs.Order.{below_context, below_edge, edge_of, AreEdgesOrdered}
use Rattle.ja_table.specs.Tables.{is_of, IsContext}
use Rattle.ja_table.specs.declared.table.CallEdge.{CallEdge}
use Rattle.ja_table.specs.declared.table.ContextTable.{ContextTable}
use Rattle.ja_table.proofs.Ascending.{of_each, Ascends}
use Rattle.ja_cert.specs.Certificate.{edge_data, item_data, label_data, listed, whole}
use Rattle.ja_cert.specs.Wrong as wrong
use Rattle.ja_cert.specs.Wrong.{are_listed, at, context_number, edge_number, edge_shape_wrong, edge_wrong, here_unless, is_above, is_calling, is_function, is_listed, is_node, item_wrong, list_wrong, position}
use Rattle.ja_cert_laws.specs.Back.{IsCall, IsEdgeOf, IsItemOf}
use Rattle.ja_cert_read.specs.code.Contexts.{own_data}
use Rattle.ja_cert_laws.proofs.Climbing.{fine_list, list_right, places_climb, singles, IsRight}
use Rattle.ja_cert_laws.proofs.Picked.{Precedes}
use Rattle.ja_cert_laws.proofs.RightContexts.{below_from, own_placed, rank_of}
use Rattle.ja_cert_read.proofs.Below.{IsBelow, below_first, below_second}
use Rattle.ja_cert_read.proofs.Told.{all_right}
use Rattle.ja_rows.proofs.Views.{same_context-true}

-- ---- numbers of the program

module _ (p : Program) where
  function_right : (i : ℕ) (x : Context) → IsContext p x
      → at i (here_unless (is_function p (whole x.function.0))) ≡ None
  function_right i x h =
      ap (λ b. at i (here_unless b)) (lt-ltb x.function.0 (length p.functions) h.function)

  receiver_right : (i : ℕ) (x : Context) → IsContext p x
      → at i (here_unless (wrong.is_label p (label_data x.receiver))) ≡ None
  receiver_right i x h =
      ap (λ b. at i (here_unless b)) (lt-ltb (label_number x.receiver) (2 * length p.sites)
      (label_within x.receiver (length p.sites) (2 * length p.sites) h.receiver refl))

  pub edge_right : (e : Edge) → IsEdgeOf p e → edge_shape_wrong p (edge_data e) ≡ None
  unfolding edge_shape_wrong edge_data
  edge_right e h =
      all_right (at 0 (here_unless (is_function p (whole e.caller.function.0)))
      ∷ at 1 (here_unless (wrong.is_label p (label_data e.caller.receiver)))
      ∷ at 2 (here_unless (is_node p (whole e.caller.function.0) (whole e.node.0)))
      ∷ at 3 (here_unless (is_function p (whole e.callee.function.0)))
      ∷ at 4 (here_unless (wrong.is_label p (label_data e.callee.receiver))) ∷ []) (
        function_right 0 e.caller h.from.context,
        (
          receiver_right 1 e.caller h.from.context,
          (
            ap (λ b. at 2 (here_unless b))
                (lt-ltb e.node.0 (length (nodes_of p e.caller.function)) h.from.node),
            (function_right 3 e.callee h.callee, (receiver_right 4 e.callee h.callee, tt)),
          ),
        ),
      )

-- ---- edges in order

abbrev edge_rank : Edge → List ℕ
edge_rank e =
    e.caller.function.0 ∷ label_number e.caller.receiver ∷ e.node.0 ∷ e.callee.function.0
    ∷ label_number e.callee.receiver ∷ []

-- a list that goes on behind two numbers in order
context_then : (x y : Context) (a b : List ℕ) → IsTrue (below_context x y)
    → IsBelow (x.function.0 ∷ label_number x.receiver ∷ a)
    (y.function.0 ∷ label_number y.receiver ∷ b)
context_then x y a b h =
    elim (or_cases (nat_lt x.function.0 y.function.0) _ h) [
      | inl function ↦ below_first x.function.0 y.function.0 (label_number x.receiver ∷ a)
          (label_number y.receiver ∷ b) (ltb-true x.function.0 y.function.0 function)
      | inr both ↦
          let parts = and_parts (x.function.0 == y.function.0)
          (nat_lt (label_number x.receiver) (label_number y.receiver)) both in
          below_second x.function.0 y.function.0 (label_number x.receiver ∷ a)
          (label_number y.receiver ∷ b) (eqb-true x.function.0 y.function.0 parts.0)
          (below_first (label_number x.receiver) (label_number y.receiver) a b
          (ltb-true (label_number x.receiver) (label_number y.receiver) parts.1))
    ]

node_then : (e d : Edge)
    → IsTrue (nat_lt e.node.0 d.node.0
    || ((e.node.0 == d.node.0) && below_context e.callee d.callee))
    → IsBelow (e.node.0 ∷ rank_of e.callee) (d.node.0 ∷ rank_of d.callee)
node_then e d h =
    elim (or_cases (nat_lt e.node.0 d.node.0) _ h) [
      | inl node ↦ below_first e.node.0 d.node.0 (rank_of e.callee) (rank_of d.callee)
          (ltb-true e.node.0 d.node.0 node)
      | inr both ↦
          let parts = and_parts (e.node.0 == d.node.0) (below_context e.callee d.callee) both in
          below_second e.node.0 d.node.0 (rank_of e.callee) (rank_of d.callee)
          (eqb-true e.node.0 d.node.0 parts.0) (below_from e.callee d.callee parts.1)
    ]

edge_below : (e d : Edge) → IsTrue (below_edge e d) → IsBelow (edge_rank e) (edge_rank d)
edge_below e d h =
    elim (or_cases (below_context e.caller d.caller) _ h) [
      | inl caller ↦ context_then e.caller d.caller (e.node.0 ∷ rank_of e.callee)
          (d.node.0 ∷ rank_of d.callee) caller
      | inr both ↦
          let parts = and_parts (same_context e.caller d.caller) _ both in
          let same = same_context-true e.caller d.caller parts.0 in
          below_second e.caller.function.0 d.caller.function.0
          (label_number e.caller.receiver ∷ e.node.0 ∷ rank_of e.callee)
          (label_number d.caller.receiver ∷ d.node.0 ∷ rank_of d.callee)
          (ap (λ (x : Context). x.function.0) same)
          (below_second (label_number e.caller.receiver) (label_number d.caller.receiver)
          (e.node.0 ∷ rank_of e.callee) (d.node.0 ∷ rank_of d.callee)
          (ap (λ (x : Context). label_number x.receiver) same) (node_then e d parts.1))
    ]

-- ---- edges of a table

any_listed : (p : Program) (cs : List ContextTable) (x : Context)
    → IsTrue (list_any (is_of x) cs)
    → is_listed (map (own_data p) cs) (rank_of x) ≡ true
any_listed p [] x h = absurd (false≢true h)
any_listed p (c ∷ cs) x h =
    elim (or_cases (same_context c.context x) (list_any (is_of x) cs) h) [
      | inl same ↦ or_left _ _ (ap (λ n. same_text n (rank_of x)) (own_placed p c)
          ∙ ap (λ (y : Context). same_text (rank_of y) (rank_of x)) (same_context-true c.context x same)
          ∙ same_text_refl (rank_of x))
      | inr later ↦ or_right (same_text (context_number (own_data p c)) (rank_of x)) _
          (any_listed p cs x later)
    ]

-- an edge between contexts of the table
pub record IsSaidEdge (p : Program) (cs : List ContextTable) (e : Edge) : Type 0 where
  pub edge : IsEdgeOf p e
  pub calls : IsCall p e
  pub caller : IsTrue (list_any (is_of e.caller) cs)
  pub callee : IsTrue (list_any (is_of e.callee) cs)

module _ (p : Program) (cs : List ContextTable) where
  abbrev kept_data : CallEdge → Data
  kept_data d = edge_data d.edge

  abbrev kept_rank : CallEdge → List ℕ
  kept_rank d = edge_rank d.edge

  kept_placed : (d : CallEdge) → edge_number (kept_data d) ≡ kept_rank d
  unfolding edge_data
  kept_placed d = refl

  between : (e : Edge) → IsSaidEdge p cs e
      → (are_listed (map (own_data p) cs) (edge_data e) && is_calling p (edge_data e)) ≡ true
  unfolding edge_data
  between e h =
      and_from _ _ (and_from _ _ (any_listed p cs e.caller h.caller)
      (any_listed p cs e.callee h.callee)) h.calls

  kept_right : (d : CallEdge) → IsSaidEdge p cs d.edge
      → IsRight (edge_wrong p (map (own_data p) cs)) edge_number (kept_data d)
  unfolding edge_wrong
  kept_right d h before above =
      all_right (edge_shape_wrong p (kept_data d)
      ∷ here_unless (is_above edge_number before (kept_data d))
      ∷ here_unless (are_listed (map (own_data p) cs) (kept_data d) && is_calling p (kept_data d))
      ∷ []) (
        edge_right p d.edge h.edge,
        (ap here_unless above, (ap here_unless (between d.edge h), tt)),
      )

  ascending : (es : List CallEdge) → AreEdgesOrdered es
      → Ascends (Precedes kept_rank edge_number) es
  ascending [] ordered = tt
  ascending (e ∷ es) ordered = (
    all_weaker (λ (d : CallEdge). IsTrue (below_edge (edge_of e) (edge_of d)))
        (Precedes kept_rank edge_number e) (λ d h. edge_below e.edge d.edge h) es ordered.0,
    ascending es ordered.1,
  )

  pub edges_right : (es : List CallEdge)
      → AllByRecursion (λ (d : CallEdge). IsSaidEdge p cs d.edge) es → AreEdgesOrdered es
      → list_wrong (edge_wrong p (map (own_data p) cs)) (listed (map kept_data es)) ≡ None
  edges_right es said ordered =
      let f = edge_wrong p (map (own_data p) cs) in
      ap (λ ds. list_wrong f (listed ds)) (sym (singles kept_data es))
      ∙ list_right f edge_number _
      (places_climb f edge_number kept_rank (λ d. kept_data d ∷ []) es (ascending es ordered)
      (of_each _ es (λ d m. (kept_placed d, tt)))
      (all_weaker (λ (d : CallEdge). IsSaidEdge p cs d.edge) _ (λ d h. kept_right d h) es said))

-- ---- visits

module _ (p : Program) where
  item_right : (i : Item) → IsItemOf p i → (before : List Data)
      → item_wrong p before (item_data i) ≡ None
  unfolding item_wrong item_data wrong.behind_word_wrong wrong.step_wrong wrong.along_wrong position
  item_right Open h before = refl
  item_right (Step x n) h before =
      all_right (at 1 (here_unless (is_function p (whole x.function.0)))
      ∷ at 2 (here_unless (wrong.is_label p (label_data x.receiver)))
      ∷ at 3 (here_unless (is_node p (whole x.function.0) (whole n.0))) ∷ []) (
        function_right p 1 x h.context,
        (
          receiver_right p 2 x h.context,
          (
            ap (λ b. at 3 (here_unless b)) (lt-ltb n.0 (length (nodes_of p x.function)) h.node),
            tt,
          ),
        ),
      )
  item_right (Fill e) h before = ap (at 1) (edge_right p e h)
  item_right (Back e) h before = ap (at 1) (edge_right p e h)

  items_said : (items : List Item) → AllByRecursion (IsItemOf p) items
      → AllByRecursion (λ (d : Data). (before : List Data) → item_wrong p before d ≡ None)
      (map item_data items)
  items_said [] all = tt
  items_said (i ∷ items) all = (item_right i all.0, items_said items all.1)

  pub items_right : (items : List Item) → AllByRecursion (IsItemOf p) items
      → list_wrong (item_wrong p) (listed (map item_data items)) ≡ None
  items_right items all = fine_list (item_wrong p) _ (items_said items all)
