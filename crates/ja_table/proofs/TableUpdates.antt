-- Tables with another context in the place of one.
use Rattle.std.specs.Prelude.{◌≡◌, ◌≢◌, ℕ, Bool, true, false, if◌then◌else◌, IsTrue, List, [], ◌∷◌, map, set, Option, Some, slice_get, All}
use Rattle.std.specs.Option.{option_map_or, option_and_then}
use Rattle.std.proofs.Common.{refl, sym, ap, ◌∙◌, subst}
use Rattle.std.proofs.lemmas.Bool.{cond-true, cond-false}
use Rattle.std.proofs.lemmas.List.Elements.{All-from_recursion, recursion_from_All}
use Rattle.ja_base.specs.declared.ids.Context.{Context}
use Rattle.ja_base.proofs.Lists.{set_same}
use Rattle.ja_graph.specs.declared.program.Program.{Program}
use Rattle.ja_abstract.specs.AbstractState.{AbstractState}
use Rattle.ja_rows.specs.Table.{Table, root, same_context}
use Rattle.ja_aheap.specs.Entries.{entries_of}
use Rattle.ja_table.specs.declared.table.ATable.{ATable}
use Rattle.ja_table.specs.declared.table.CallEdge.{CallEdge}
use Rattle.ja_table.specs.declared.table.ContextTable.{ContextTable}
use Rattle.ja_table.specs.Order.{context_of, edge_of, AreContextsOrdered}
use Rattle.ja_table.specs.Tables.{states_in, no_entries, find_context, Fits, FitsContext, FitsEdge}
use Rattle.ja_table.specs.code.Growing.{with_entries_at, HasSameKeys}
use Rattle.ja_table.proofs.Ordered.{keys_set, all_by_keys, any_by_keys, ordered_by_keys, found_set}
use Rattle.ja_table.proofs.Places.{contexts_order, edges_order}
use Rattle.ja_table.proofs.TableLemmas.{table_in, edges_still}

-- ---- of the same keys

first_by_keys : (xs ys : List ContextTable) (first : ContextTable)
    → map context_of ys ≡ map context_of xs → slice_get xs 0 ≡ Some first → first.context ≡ root
    → (f : ContextTable) × (slice_get ys 0 ≡ Some f) × (f.context ≡ root)
first_by_keys [] ys first keys at is = absurd (cc)
first_by_keys (x ∷ xs) [] first keys at is = absurd (cc)
first_by_keys (x ∷ xs) (y ∷ ys) first keys at is =
    let here : x ≡ first = cc in
    let same : y.context ≡ x.context = cc in
    (y, refl, same ∙ ap context_of here ∙ is)

-- a table of the keys of one that fits does, where each of its contexts does
pub fits_by_keys : (p : Program) (t u : ATable) → Fits p t → HasSameKeys t u
    → All (FitsContext p) u.contexts.items → Fits p u
fits_by_keys p t u fits keys each =
    let (f, at, is) = first_by_keys t.contexts.items u.contexts.items fits.first keys.contexts
    fits.first_is fits.first_is_root in
    record {
      each = each;
      ordered =
          ordered_by_keys context_of contexts_order t.contexts.items u.contexts.items
          keys.contexts fits.ordered;
      edges =
          All-from_recursion (λ (d : CallEdge). FitsEdge p u d.edge) u.edges.items
          (all_by_keys edge_of edges_order (FitsEdge p u) t.edges.items
          u.edges.items keys.edges (recursion_from_All (λ (d : CallEdge). FitsEdge p u d.edge)
          t.edges.items (edges_still p t u t.edges.items (λ x h. subst IsTrue
          (sym (any_by_keys context_of contexts_order x
          t.contexts.items u.contexts.items keys.contexts)) h) fits.edges)));
      edges_ordered =
          ordered_by_keys edge_of edges_order t.edges.items u.edges.items keys.edges
          fits.edges_ordered;
      first = f;
      first_is = at;
      first_is_root = is;
    }

-- so does one of the same contexts and edges
pub fits_by_items : (p : Program) (t u : ATable) → u.contexts.items ≡ t.contexts.items
    → u.edges.items ≡ t.edges.items → Fits p t → Fits p u
fits_by_items p t u contexts edges fits =
    fits_by_keys p t u fits
    (record { contexts = ap (map context_of) contexts; edges = ap (map edge_of) edges })
    (subst (All (FitsContext p)) (sym contexts) fits.each)

-- ---- another context in the place of one

module _ (cs : List ContextTable) (ds : List CallEdge) (place : ℕ) (own new : ContextTable)
    (ordered : AreContextsOrdered cs) (at : slice_get cs place ≡ Some own)
    (same : new.context ≡ own.context) where
  pub put_keys : map context_of (set cs place new) ≡ map context_of cs
  put_keys = keys_set context_of contexts_order cs place own new at same

  put_found : (y : Context) → find_context y (set cs place new)
      ≡ (if same_context new.context y then Some new else find_context y cs)
  put_found y =
      found_set context_of contexts_order y cs place own new
      ordered at same

  pub own_found : find_context own.context cs ≡ Some own
  own_found =
      ap (find_context own.context) (sym (set_same cs place own at))
      ∙ found_set context_of contexts_order own.context cs place own own
      ordered at refl
      ∙ cond-true _ _ _ (contexts_order.itself own.context)

  found_of : (y : Context) → same_context new.context y ≡ true → find_context y cs ≡ Some own
  found_of y s =
      ap (λ z. find_context z cs) (sym (contexts_order.exact new.context y s) ∙ same) ∙ own_found

  new_found : (y : Context) → same_context new.context y ≡ true
      → find_context y (set cs place new) ≡ Some new
  new_found y s = put_found y ∙ cond-true _ _ _ s

  other_found : (y : Context) → same_context new.context y ≡ false
      → find_context y (set cs place new) ≡ find_context y cs
  other_found y s = put_found y ∙ cond-false _ _ _ s

  -- the states that another context has, by those that were there
  module _ (f : (ℕ → Option AbstractState) → ℕ → Option AbstractState)
      (states : states_in new.nodes.items ≡ f (states_in own.nodes.items)) where
    state_put : (y : Context) (n : ℕ) → (table_in (set cs place new) ds).state y n
        ≡ (if same_context new.context y then f ((table_in cs ds).state y)
        else (table_in cs ds).state y) n
    state_put y n = by (same_context new.context y) refl
      where
        there : same_context new.context y ≡ true
            → (table_in cs ds).state y ≡ states_in own.nodes.items
        there s =
            λ i m. option_and_then (λ (c : ContextTable). states_in c.nodes.items m)
            (found_of y s i)

        by : (b : Bool) → same_context new.context y ≡ b
            → (table_in (set cs place new) ds).state y n
            ≡ (if b then f ((table_in cs ds).state y) else (table_in cs ds).state y) n
        by true s =
            ap (option_and_then (λ (c : ContextTable). states_in c.nodes.items n))
            (new_found y s) ∙ (λ i. states i n) ∙ (λ i. f (sym (there s) i) n)
        by false s =
            ap (option_and_then (λ (c : ContextTable). states_in c.nodes.items n))
            (other_found y s)

  module _ (states : states_in new.nodes.items ≡ states_in own.nodes.items) where
    state_kept : (y : Context) (n : ℕ) → (table_in (set cs place new) ds).state y n
        ≡ (table_in cs ds).state y n
    state_kept y n =
        state_put (λ g. g) states y n ∙ by (same_context new.context y)
      where
        by : (b : Bool) → (if b then (table_in cs ds).state y else (table_in cs ds).state y) n
            ≡ (table_in cs ds).state y n
        by true = refl
        by false = refl

  -- the values at entry that it has
  entry_put : (y : Context) → (table_in (set cs place new) ds).entry y
      ≡ (if same_context new.context y then entries_of new.entries else (table_in cs ds).entry y)
  entry_put y = by (same_context new.context y) refl
    where
      by : (b : Bool) → same_context new.context y ≡ b
          → (table_in (set cs place new) ds).entry y
          ≡ (if b then entries_of new.entries else (table_in cs ds).entry y)
      by true s =
          ap (λ o. option_map_or (λ (c : ContextTable). entries_of c.entries) o no_entries)
          (new_found y s)
      by false s =
          ap (λ o. option_map_or (λ (c : ContextTable). entries_of c.entries) o no_entries)
          (other_found y s)

  pub entry_of_own : (table_in cs ds).entry own.context ≡ entries_of own.entries
  entry_of_own =
      ap (λ o. option_map_or (λ (c : ContextTable). entries_of c.entries) o no_entries) own_found

  module _ (entries : entries_of new.entries ≡ entries_of own.entries) where
    entry_kept : (y : Context) → (table_in (set cs place new) ds).entry y
        ≡ (table_in cs ds).entry y
    entry_kept y =
        entry_put y ∙ by (same_context new.context y) refl
      where
        by : (b : Bool) → same_context new.context y ≡ b
            → (if b then entries_of new.entries else (table_in cs ds).entry y)
            ≡ (table_in cs ds).entry y
        by true s =
            entries ∙ sym (ap (λ o. option_map_or (λ (c : ContextTable). entries_of c.entries) o
            no_entries) (found_of y s))
        by false s = refl

  context_kept : (y : Context) → (table_in (set cs place new) ds).context y
      ≡ (table_in cs ds).context y
  context_kept y =
      any_by_keys context_of contexts_order y cs (set cs place new)
      put_keys

  -- ---- the table then

  pub put_states : (f : (ℕ → Option AbstractState) → ℕ → Option AbstractState)
      → states_in new.nodes.items ≡ f (states_in own.nodes.items)
      → entries_of new.entries ≡ entries_of own.entries
      → table_in (set cs place new) ds ≡ record (table_in cs ds) {
        state = λ y. if same_context own.context y then f ((table_in cs ds).state y)
            else (table_in cs ds).state y;
      }
  put_states f states entries =
      (λ i. record {
        context = λ y. context_kept y i;
        state = λ y n. state_put f states y n i;
        entry = λ y. entry_kept entries y i;
        edge = (table_in cs ds).edge;
      }) ∙ (λ i. record (table_in cs ds) {
        state = λ y. if same_context (same i) y then f ((table_in cs ds).state y)
            else (table_in cs ds).state y;
      })

  pub put_entries : states_in new.nodes.items ≡ states_in own.nodes.items
      → table_in (set cs place new) ds
      ≡ with_entries_at (table_in cs ds) own.context (entries_of new.entries)
  put_entries states =
      (λ i. record {
        context = λ y. context_kept y i;
        state = λ y n. state_kept states y n i;
        entry = λ y. entry_put y i;
        edge = (table_in cs ds).edge;
      }) ∙ (λ i. with_entries_at (table_in cs ds) (same i) (entries_of new.entries))

  pub put_nothing : states_in new.nodes.items ≡ states_in own.nodes.items
      → entries_of new.entries ≡ entries_of own.entries
      → table_in (set cs place new) ds ≡ table_in cs ds
  put_nothing states entries =
      λ i. record {
        context = λ y. context_kept y i;
        state = λ y n. state_kept states y n i;
        entry = λ y. entry_kept entries y i;
        edge = (table_in cs ds).edge;
      }

  -- it is another one where the context's states or values at entry are
  itself : same_context new.context own.context ≡ true
  itself =
      ap (λ z. same_context z own.context) same ∙ contexts_order.itself own.context

  pub other_states : states_in new.nodes.items ≢ states_in own.nodes.items
      → table_in (set cs place new) ds ≢ table_in cs ds
  other_states apart e =
      apart (λ i n. (sym (ap (option_and_then (λ (c : ContextTable). states_in c.nodes.items n))
      (new_found own.context itself)) ∙ ap (λ (t : Table). t.state own.context n) e
      ∙ ap (option_and_then (λ (c : ContextTable). states_in c.nodes.items n)) own_found) i)

  pub other_entries : entries_of new.entries ≢ entries_of own.entries
      → table_in (set cs place new) ds ≢ table_in cs ds
  other_entries apart e =
      apart (sym (ap (λ o. option_map_or (λ (c : ContextTable). entries_of c.entries) o no_entries)
      (new_found own.context itself)) ∙ ap (λ (t : Table). t.entry own.context) e
      ∙ entry_of_own)
