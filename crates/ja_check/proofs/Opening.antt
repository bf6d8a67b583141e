-- The state in which a program begins, in a table that may lack it.
use Rattle.std.specs.Prelude.{◌≡◌, ◌↔◌, ℕ, zero, suc, Bool, IsTrue, None, Some, slice_get}
use Rattle.std.proofs.Common.{sym, ap, ◌∙◌, subst, inl, inr, arith}
use Rattle.std.proofs.lemmas.Bool.{cases_Bool}
use Rattle.std.proofs.lemmas.List.Elements.{recursion_from_All}
use Rattle.std.proofs.lemmas.Option.{same_Some}
use Rattle.ja_base.specs.declared.ids.Context.{Context}
use Rattle.ja_base.proofs.Lists.{element_within, within_from_some}
use Rattle.ja_base.proofs.Options.{none_not_some}
use Rattle.ja_graph.specs.declared.program.Program.{Program}
use Rattle.ja_machine.specs.Frames.{registers_of}
use Rattle.ja_machine.specs.Machine.{program_function}
use Rattle.ja_machine.proofs.Lists.{all_find, is_some_from}
use Rattle.ja_abstract.specs.AbstractState.{AbstractState}
use Rattle.ja_abstract.specs.Order.{LeqState}
use Rattle.ja_rows.specs.Table.{opening_state, root, HasOpening}
use Rattle.ja_rows.proofs.Views.{same_context-true}
use Rattle.ja_astate.specs.declared.state.AState.{AState}
use Rattle.ja_astate.specs.State.{state_of, HaveOneShape, IsStateOf}
use Rattle.ja_table.specs.declared.table.ATable.{ATable}
use Rattle.ja_table.specs.declared.table.ContextTable.{ContextTable}
use Rattle.ja_table.specs.Order.{below_context, context_of, AreContextsOrdered}
use Rattle.ja_table.specs.Tables.{find_context, is_of, kept_state, table_of, Fits, FitsContext, FitsListed}
use Rattle.ja_table.proofs.ContextOrder.{place_found}
use Rattle.ja_table.proofs.Found.{found_context, found_kept, found_no_state, found_reached, missing_state, unreached_state}
use Rattle.ja_table.proofs.JoinedStates.{one_shape}
use Rattle.ja_table.proofs.KeyOrders.{one_way}
use Rattle.ja_table.proofs.Ordered.{ordered_at}
use Rattle.ja_table.proofs.Places.{contexts_order}
use Rattle.ja_table.proofs.Tables.{root_found}
use Rattle.ja_table.proofs.TableLemmas.{root_first}

-- ---- a table that fits as one of the solver's, where the program's own context is reached

module _ (p : Program) (t : ATable) where
  -- a context that is found
  pub listed_fits : FitsListed p t → (x : Context) (c : ContextTable)
      → find_context x t.contexts.items ≡ Some c → FitsContext p c
  listed_fits fits x c is =
      all_find (FitsContext p) (is_of x) t.contexts.items c
      (recursion_from_All (FitsContext p) t.contexts.items fits.each) is

  -- no context stands before the program's own
  first_is_own : AreContextsOrdered t.contexts.items → (place : ℕ) (c : ContextTable)
      → slice_get t.contexts.items place ≡ Some c → c.context ≡ root → (first : ContextTable)
      → slice_get t.contexts.items 0 ≡ Some first → first.context ≡ root
  first_is_own ordered zero c c_is is first first_is =
      ap (λ (d : ContextTable). d.context) (same_Some first c (sym first_is ∙ c_is)) ∙ is
  first_is_own ordered (suc place) c c_is is first first_is =
      let before : IsTrue (below_context first.context root) =
      subst (λ (x : Context). IsTrue (below_context first.context x)) is
      (ordered_at context_of contexts_order t.contexts.items ordered 0 (suc place) first c (omega arith) first_is c_is) in
      elim (cases_Bool (below_context root first.context)) [
        | inl behind ↦ absurd (one_way contexts_order first.context root before behind)
        | inr none ↦ root_first first.context none
      ]

  pub fits_opened : FitsListed p t → IsTrue ((table_of t).context root) → Fits p t
  fits_opened fits reached =
      let at = place_found (is_of root) t.contexts.items reached in
      let within = within_from_some t.contexts.items at.place
      (is_some_from _ at.element at.element_is) in
      let (first, first_is) = element_within t.contexts.items 0 (omega (arith, within)) in
      record {
        each = fits.each;
        ordered = fits.ordered;
        edges = fits.edges;
        edges_ordered = fits.edges_ordered;
        first = first;
        first_is = first_is;
        first_is_root =
            first_is_own fits.ordered at.place at.element at.element_is
            (same_context-true at.element.context root at.passes) first first_is;
      }

  pub opening_reached : HasOpening p (table_of t) → IsTrue ((table_of t).context root)
  opening_reached h =
      elim (cases_Bool ((table_of t).context root)) [
        | inl reached ↦ reached
        | inr apart ↦ absurd (none_not_some (sym (unreached_state t root 0 apart) ∙ h.state_is))
      ]

  pub root_reached : Fits p t → IsTrue ((table_of t).context root)
  root_reached fits =
      found_reached t root fits.first (root_found t.contexts.items fits.first fits.first_is
      fits.first_is_root)

  -- ---- the opening, by what is found

  pub not_found : find_context root t.contexts.items ≡ None → HasOpening p (table_of t) → ⊥
  not_found none h = none_not_some (sym (missing_state t root 0 none) ∙ h.state_is)

  module _ (x : Context) (c : ContextTable) (x_is : x ≡ root)
      (found : find_context x t.contexts.items ≡ Some c) where
    found_root : find_context root t.contexts.items ≡ Some c
    found_root = subst (λ (y : Context). find_context y t.contexts.items ≡ Some c) x_is found

    pub no_state : kept_state c.nodes.items 0 ≡ None → HasOpening p (table_of t) → ⊥
    no_state none h =
        none_not_some (sym (found_no_state t root c found_root 0 none) ∙ h.state_is)

    pub own_shape : FitsListed p t → (a o : AState) → kept_state c.nodes.items 0 ≡ Some a
        → IsStateOf p (registers_of p program_function) o → HaveOneShape a o
    own_shape fits a o kept of =
        one_shape p (registers_of p program_function) a o
        (subst (λ (y : Context). IsStateOf p (registers_of p y.function) a)
        (found_context t root c found_root)
        ((listed_fits fits root c found_root).states 0 a kept)) of

    pub opening_told : (a o : AState) → kept_state c.nodes.items 0 ≡ Some a
        → state_of o ≡ opening_state p → (b : Bool)
        → IsTrue b ↔ LeqState (state_of o) (state_of a) → IsTrue b ↔ HasOpening p (table_of t)
    opening_told a o kept o_is b told =
        let there = found_kept t root c found_root 0 a kept in (
          (λ e. record {
            state = state_of a;
            state_is = there;
            least = subst (λ (s : AbstractState). LeqState s (state_of a)) o_is (told.0 e);
          }),
          (λ h. told.1 (subst (λ (s : AbstractState). LeqState s (state_of a)) (sym o_is)
              (subst (LeqState (opening_state p))
              (same_Some h.state (state_of a) (sym h.state_is ∙ there)) h.least))),
        )
