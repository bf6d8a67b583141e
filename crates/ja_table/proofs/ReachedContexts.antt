-- A table with another context in the place of one that is reached.
use Rattle.std.specs.Prelude.{◌≡◌, ◌≢◌, ◌<◌, ℕ, IsTrue, List, map, set, get_or, Some, None, slice_get, vec_len, All}
use Rattle.std.proofs.Common.{refl, sym, ap, ◌∙◌, subst}
use Rattle.std.proofs.lemmas.Bool.{true≢false}
use Rattle.std.proofs.lemmas.List.Elements.{All-set}
use Rattle.std.proofs.lemmas.Option.{slice_get_read}
use Rattle.ja_base.specs.declared.ids.Context.{Context}
use Rattle.ja_graph.specs.declared.program.Program.{Program}
use Rattle.ja_abstract.specs.AbstractState.{AbstractState}
use Rattle.ja_abstract.specs.Resolved.{Entries}
use Rattle.ja_rows.specs.Table.{Table}
use Rattle.ja_aheap.specs.Entries.{entries_of}
use Rattle.ja_table.specs.declared.table.ATable.{ATable}
use Rattle.ja_table.specs.declared.table.CallEdge.{CallEdge}
use Rattle.ja_table.specs.declared.table.ContextTable.{ContextTable}
use Rattle.ja_table.specs.Order.{AreContextsOrdered}
use Rattle.ja_table.specs.Tables.{states_in, find_context, table_of, Fits, FitsContext}
use Rattle.ja_table.specs.code.Growing.{with_given, with_state_at, with_entries_at, HasSameKeys}
use Rattle.ja_table.proofs.Found.{found_context, missing_context}
use Rattle.ja_table.proofs.TableLemmas.{table_in}
use Rattle.ja_table.proofs.TableUpdates.{put_keys, put_states, put_entries, put_nothing, other_states, other_entries, entry_of_own, fits_by_keys}

-- a context that is reached is found
pub unreached : (t : ATable) (x : Context) → AreContextsOrdered t.contexts.items
    → IsTrue ((table_of t).context x)
    → (AreContextsOrdered t.contexts.items → None ≡ find_context x t.contexts.items) → ⊥
unreached t x ordered reached none =
    true≢false (sym reached ∙ missing_context t x (sym (none ordered)))

module _ (t : ATable) (x : Context) (place : ℕ) (own : ContextTable)
    (ordered : AreContextsOrdered t.contexts.items)
    (found : AreContextsOrdered t.contexts.items
    → slice_get t.contexts.items place ≡ find_context x t.contexts.items)
    (within : place < vec_len t.contexts) (is : own ≡ get_or t.contexts.items place own) where
  own_at : slice_get t.contexts.items place ≡ Some own
  own_at = slice_get_read t.contexts.items (vec_len t.contexts) place own t.contexts.ok.0 within is

  pub own_is : own.context ≡ x
  own_is = found_context t x own (sym (found ordered) ∙ own_at)

  pub own_fits : (p : Program) → Fits p t → FitsContext p own
  own_fits p fits =
      subst (FitsContext p) (sym is) (fits.each place own
      (subst (λ n. place < n) t.contexts.ok.0 within))

  pub own_entry : (table_of t).entry x ≡ entries_of own.entries
  own_entry =
      ap (table_of t).entry (sym own_is)
      ∙ entry_of_own t.contexts.items t.edges.items place own own ordered own_at refl

  module _ (new : ContextTable) (same : new.context ≡ own.context) where
    pub other_keys : (u : ATable) → u.contexts.items ≡ set t.contexts.items place new
        → u.edges.items ≡ t.edges.items → HasSameKeys t u
    other_keys u contexts_are edges_are = record {
      contexts =
          ap (λ (cs : List ContextTable). map (λ (c : ContextTable). c.context) cs) contexts_are
          ∙ put_keys t.contexts.items t.edges.items place own new ordered own_at same;
      edges = ap (map (λ (d : CallEdge). d.edge)) edges_are;
    }

    pub other_fits : (p : Program) (u : ATable) → u.contexts.items
        ≡ set t.contexts.items place new → u.edges.items ≡ t.edges.items → Fits p t
        → FitsContext p new → Fits p u
    other_fits p u contexts_are edges_are fits here =
        fits_by_keys p t u fits (other_keys u contexts_are edges_are)
        (subst (All (FitsContext p)) (sym contexts_are)
        (All-set (FitsContext p) t.contexts.items place new here fits.each))

    abbrev After : Table
    After = table_in (set t.contexts.items place new) t.edges.items

    -- a state is joined in at a node
    pub state_joined : (n : ℕ) (a : AbstractState)
        → states_in new.nodes.items ≡ with_given (states_in own.nodes.items) (n, a)
        → entries_of new.entries ≡ entries_of own.entries
        → After ≡ with_state_at (table_of t) x n a
    state_joined n a states entries =
        put_states t.contexts.items t.edges.items place own new ordered own_at same
        (λ f. with_given f (n, a)) states entries
        ∙ (λ i. with_state_at (table_of t) (own_is i) n a)

    pub states_other : states_in new.nodes.items ≢ states_in own.nodes.items
        → After ≢ table_of t
    states_other = other_states t.contexts.items t.edges.items place own new ordered own_at same

    pub nothing_other : states_in new.nodes.items ≡ states_in own.nodes.items
        → entries_of new.entries ≡ entries_of own.entries → After ≡ table_of t
    nothing_other = put_nothing t.contexts.items t.edges.items place own new ordered own_at same

    -- other values stand at the entry
    pub entries_set : (entries : Entries) → entries_of new.entries ≡ entries
        → states_in new.nodes.items ≡ states_in own.nodes.items
        → After ≡ with_entries_at (table_of t) x entries
    entries_set entries entries_are states =
        put_entries t.contexts.items t.edges.items place own new ordered own_at same states
        ∙ (λ i. with_entries_at (table_of t) (own_is i) (entries_are i))

    pub entries_other : entries_of new.entries ≢ entries_of own.entries
        → After ≢ table_of t
    entries_other = other_entries t.contexts.items t.edges.items place own new ordered own_at same
