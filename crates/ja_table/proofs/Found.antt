-- A context of a table that is found: what the table has there, and that it fits the program.
use Rattle.std.specs.Prelude.{◌≡◌, ℕ, Bool, true, false, List, [], ◌∷◌, Option, None, Some, IsTrue, find, is_some}
use Rattle.std.specs.Option.{option_map, option_map_or, option_and_then}
use Rattle.std.proofs.Common.{refl, sym, subst, ap, ◌∙◌}
use Rattle.std.proofs.lemmas.Bool.{false≢true}
use denote.Ref.{Bor}
use Rattle.std.proofs.lemmas.List.Elements.{recursion_from_All}
use Rattle.std.proofs.lemmas.Option.{same_Some}
use Rattle.ja_base.specs.declared.ids.Context.{Context}
use Rattle.ja_base.proofs.Options.{none_not_some}
use Rattle.ja_graph.specs.declared.program.Program.{Program}
use Rattle.ja_machine.proofs.Lists.{all_find}
use Rattle.ja_rows.proofs.Views.{same_context-true}
use Rattle.ja_aheap.specs.Entries.{entries_of}
use Rattle.ja_astate.specs.declared.state.AState.{AState}
use Rattle.ja_astate.specs.State.{state_of}
use Rattle.ja_table.specs.declared.table.ATable.{ATable}
use Rattle.ja_table.specs.declared.table.ContextTable.{ContextTable}
use Rattle.ja_table.specs.declared.table.NodeTable.{NodeTable}
use Rattle.ja_table.specs.Order.{AreContextsOrdered}
use Rattle.ja_table.specs.Tables.{find_context, is_of, kept_state, no_entries, states_in, table_of, Fits, FitsContext}
use Rattle.ja_table.proofs.Ordered.{any_found, none_from_any}

-- ---- in a list

-- the first that passes a test passes it
found_passes : {X : Type 0} (test : X → Bool) (xs : List X) (x : X) → find test xs ≡ Some x
    → test x ≡ true
found_passes test [] x is = absurd (none_not_some is)
found_passes test (y ∷ ys) x is =
    elim (test y) as (λ b. test y ≡ b → find test (y ∷ ys) ≡ Some x → test x ≡ true) [
      | true ↦ (λ e f. subst (λ z. test z ≡ true) (same_Some y x (rw e at f)) e)
      | false ↦ (λ e f. found_passes test ys x (rw e at f))
    ] refl is

-- ---- in a table

module _ (t : ATable) (x : Context) (c : ContextTable)
    (is : find_context x t.contexts.items ≡ Some c) where
  pub found_state : (n : ℕ) → (table_of t).state x n ≡ states_in c.nodes.items n
  found_state n = ap (option_and_then (λ (d : ContextTable). states_in d.nodes.items n)) is

  pub found_entry : (table_of t).entry x ≡ entries_of c.entries
  found_entry =
      ap (λ o. option_map_or (λ (d : ContextTable). entries_of d.entries) o no_entries) is

  pub found_reached : IsTrue ((table_of t).context x)
  found_reached = any_found (is_of x) t.contexts.items ∙ ap is_some is

  pub found_context : c.context ≡ x
  found_context =
      same_context-true c.context x (found_passes (is_of x) t.contexts.items c is)

  pub found_fits : (p : Program) → Fits p t → FitsContext p c
  found_fits p fits =
      all_find (FitsContext p) (is_of x) t.contexts.items c
      (recursion_from_All (FitsContext p) t.contexts.items fits.each) is

  -- a state that is kept there
  pub found_kept : (n : ℕ) (a : AState) → kept_state c.nodes.items n ≡ Some a
      → (table_of t).state x n ≡ Some (state_of a)
  found_kept n a kept = found_state n ∙ ap (option_map state_of) kept

  pub found_no_state : (n : ℕ) → kept_state c.nodes.items n ≡ None
      → (table_of t).state x n ≡ None
  found_no_state n none = found_state n ∙ ap (option_map state_of) none

-- a context that isn't found has no state
pub missing_state : (t : ATable) (x : Context) (n : ℕ)
    → find_context x t.contexts.items ≡ None → (table_of t).state x n ≡ None
missing_state t x n none =
    ap (option_and_then (λ (d : ContextTable). states_in d.nodes.items n)) none

-- .. and isn't reached
pub missing_context : (t : ATable) (x : Context) → find_context x t.contexts.items ≡ None
    → (table_of t).context x ≡ false
missing_context t x none = any_found (is_of x) t.contexts.items ∙ ap is_some none

-- a context that isn't reached has no state
pub unreached_state : (t : ATable) (x : Context) (n : ℕ) → (table_of t).context x ≡ false
    → (table_of t).state x n ≡ None
unreached_state t x n apart =
    missing_state t x n (none_from_any (is_of x) t.contexts.items apart)

-- ---- what is lent

module _ (t : ATable) (x : Context) (r : Option (Bor ContextTable))
    (lent : AreContextsOrdered t.contexts.items
    → option_map (λ (c : Bor ContextTable). c.now) r ≡ find_context x t.contexts.items)
    (ordered : AreContextsOrdered t.contexts.items) where
  pub at_some : (c : Bor ContextTable) → r ≡ Some c
      → find_context x t.contexts.items ≡ Some c.now
  at_some c is = sym (lent ordered) ∙ ap (option_map (λ (d : Bor ContextTable). d.now)) is

  pub at_none : r ≡ None → find_context x t.contexts.items ≡ None
  at_none is = sym (lent ordered) ∙ ap (option_map (λ (d : Bor ContextTable). d.now)) is

  -- one that is reached is found
  pub at_reached : IsTrue ((table_of t).context x) → r ≡ None → ⊥
  at_reached reached is = false≢true (sym (missing_context t x (at_none is)) ∙ reached)

pub state_some : (nodes : List NodeTable) (n : ℕ) (r : Option (Bor AState)) (a : Bor AState)
    → option_map (λ (s : Bor AState). s.now) r ≡ kept_state nodes n → r ≡ Some a
    → kept_state nodes n ≡ Some a.now
state_some nodes n r a lent is = sym lent ∙ ap (option_map (λ (s : Bor AState). s.now)) is

pub state_none : (nodes : List NodeTable) (n : ℕ) (r : Option (Bor AState))
    → option_map (λ (s : Bor AState). s.now) r ≡ kept_state nodes n → r ≡ None
    → kept_state nodes n ≡ None
state_none nodes n r lent is = sym lent ∙ ap (option_map (λ (s : Bor AState). s.now)) is
