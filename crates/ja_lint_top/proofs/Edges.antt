-- The call edges of a table that fits, and their ends.
use Rattle.std.specs.Prelude.{◌≡◌, ◌<◌, Bool, true, ◌||◌, IsTrue, Contains, List, [], ◌∷◌, length}
use Rattle.std.specs.List.{list_any}
use Rattle.std.proofs.Common.{zero, suc, sym, ◌∙◌, ap, subst, inl, inr, arith}
use Rattle.std.proofs.lemmas.Bool.{cases_Bool, or_left, or_right}
use Rattle.std.proofs.lemmas.List.Elements.{All-contains}
use Rattle.ja_base.specs.declared.ids.Context.{Context}
use Rattle.ja_graph.specs.declared.program.Program.{Program}
use Rattle.ja_rows.specs.declared.table.Edge.{Edge}
use Rattle.ja_rows.specs.Table.{same_edge}
use Rattle.ja_rows.proofs.Applied.{same_edge-self}
use Rattle.ja_rows.proofs.Views.{same_context-true}
use Rattle.ja_table.specs.declared.table.ATable.{ATable}
use Rattle.ja_table.specs.declared.table.CallEdge.{CallEdge}
use Rattle.ja_table.specs.Tables.{is_of, table_of, Fits, FitsContext, FitsEdge}
use Rattle.ja_table.proofs.Places.{edges_order}
use Rattle.ja_lint_top.proofs.Collected.{contains_behind, contains_head}

-- ---- tests of lists

-- an element that passes, where one does
passing : {X : Type 0} (test : X → Bool) (xs : List X) → IsTrue (list_any test xs)
    → (x : X) × Contains xs x × (test x ≡ true)
passing test [] some = absurd (cc)
passing test (x ∷ xs) some =
    elim (cases_Bool (test x)) [
      | inl e ↦ (x, contains_head x xs, e)
      | inr e ↦
          let (y, here, passes) =
          passing test xs (sym (ap (λ b. b || list_any test xs) e) ∙ some) in
          (y, contains_behind x y xs here, passes)
    ]

passes_among : {X : Type 0} (test : X → Bool) (xs : List X) (x : X) → Contains xs x
    → test x ≡ true → IsTrue (list_any test xs)
passes_among test [] x (k, within, is) passes = absurd (omega (arith, within))
passes_among test (y ∷ xs) x (zero, within, is) passes =
    or_left (test y) (list_any test xs) (ap test is ∙ passes)
passes_among test (y ∷ xs) x (suc k, within, is) passes =
    or_right (test y) (list_any test xs)
    (passes_among test xs x (k, omega (arith, within), is) passes)

-- ---- edges

module _ (t : ATable) where
  -- an edge of the table is one of those that are kept
  pub edge_found : (e : Edge) → IsTrue ((table_of t).edge e)
      → (d : CallEdge) × Contains t.edges.items d × (d.edge ≡ e)
  edge_found e is =
      let (d, here, same) = passing (λ (d : CallEdge). same_edge d.edge e) t.edges.items is in
      (d, here, edges_order.exact d.edge e same)

  -- .. and each that is kept is one of the table
  pub edge_kept : (d : CallEdge) → Contains t.edges.items d → IsTrue ((table_of t).edge d.edge)
  edge_kept d here =
      passes_among (λ (c : CallEdge). same_edge c.edge d.edge) t.edges.items d here
      (same_edge-self d.edge)

module _ (p : Program) (t : ATable) (fits : Fits p t) where
  context_within : (x : Context) → IsTrue ((table_of t).context x)
      → x.function.0 < length p.functions
  context_within x is =
      let (c, here, same) = passing (is_of x) t.contexts.items is in
      let fit : FitsContext p c = All-contains (FitsContext p) t.contexts.items c fits.each here in
      subst (λ (y : Context). y.function.0 < length p.functions)
      (same_context-true c.context x same) fit.context.function

  -- an edge leads to a function of the program
  pub callee_within : (e : Edge) → IsTrue ((table_of t).edge e)
      → e.callee.function.0 < length p.functions
  callee_within e is =
      let (d, here, same) = edge_found t e is in
      let fit : FitsEdge p t d.edge =
      All-contains (λ (c : CallEdge). FitsEdge p t c.edge) t.edges.items d fits.edges here in
      subst (λ (c : Edge). c.callee.function.0 < length p.functions) same
      (context_within d.edge.callee fit.callee)
