-- Tables whose contexts stand for the same, one by one, with the same edges, are those that stand
-- for the same.
use Rattle.std.specs.Prelude.{◌≡◌, ◌↔◌, ◌&&◌, ◌<◌, ◌≤◌, ℕ, Bool, IsTrue, List, map, find, length, Option, None, Some, slice_get, vec_len}
use Rattle.std.specs.List.{list_any}
use Rattle.std.specs.Option.{option_map, option_map_or, option_and_then}
use Rattle.std.proofs.Common.{refl, sym, ap, ◌∙◌, subst, inl, inr, arith}
use Rattle.std.proofs.lemmas.Bool.{cases_lt}
use Rattle.std.proofs.lemmas.Option.{slice_get_past}
use Rattle.ja_base.specs.declared.ids.Context.{Context}
use Rattle.ja_graph.specs.declared.program.Program.{Program}
use Rattle.ja_graph.specs.Program.{nodes_of}
use Rattle.ja_rows.specs.declared.table.Edge.{Edge}
use Rattle.ja_rows.specs.Listed.{contexts_of, edges_of}
use Rattle.ja_rows.specs.Table.{Table, root, same_context, same_edge}
use Rattle.ja_aheap.specs.Entries.{entries_of}
use Rattle.ja_astate.specs.State.{state_of}
use Rattle.ja_table.specs.declared.table.ATable.{ATable}
use Rattle.ja_table.specs.declared.table.CallEdge.{CallEdge}
use Rattle.ja_table.specs.declared.table.ContextTable.{ContextTable}
use Rattle.ja_table.specs.declared.table.NodeTable.{NodeTable}
use Rattle.ja_table.specs.Tables.{find_context, no_entries, states_in, table_of, Fits, FitsContext, FitsListed}
use Rattle.ja_table.proofs.Found.{found_entry, found_state}
use Rattle.ja_table.proofs.Kept.{same_at}
use Rattle.ja_table.proofs.TableLemmas.{table_in}
use Rattle.ja_table.proofs.TableUpdates.{own_found}
use Rattle.ja_table.proofs.ListedContexts.{contexts_listed}
use Rattle.ja_table.proofs.ListedEdges.{edges_listed}
use Rattle.ja_check.specs.code.Checking.{meaning_of, Meaning}
use Rattle.ja_table.proofs.Told.{told_both}
use Rattle.ja_check.proofs.Lists.{any_mapped, found_mapped, maps_count, maps_same}
use Rattle.ja_check.proofs.Opening.{fits_opened, root_reached}

-- ---- a table by what its contexts stand for

abbrev meant_for : Context → Meaning → Bool
meant_for x m = same_context m.context x

abbrev edge_of : CallEdge → Edge
edge_of d = d.edge

abbrev table_meant : List Meaning → List Edge → Table
table_meant ms es = record {
  context = λ x. list_any (meant_for x) ms;
  state = λ x n. option_and_then (λ (m : Meaning). m.states n) (find (meant_for x) ms);
  entry = λ x. option_map_or (λ (m : Meaning). m.entries) (find (meant_for x) ms) no_entries;
  edge = λ e. list_any (λ (d : Edge). same_edge d e) es;
}

state_meant : (n : ℕ) (o : Option ContextTable)
    → option_and_then (λ (c : ContextTable). states_in c.nodes.items n) o
    ≡ option_and_then (λ (m : Meaning). m.states n) (option_map meaning_of o)
state_meant n None = refl
state_meant n (Some c) = refl

entry_meant : (o : Option ContextTable)
    → option_map_or (λ (c : ContextTable). entries_of c.entries) o no_entries
    ≡ option_map_or (λ (m : Meaning). m.entries) (option_map meaning_of o) no_entries
entry_meant None = refl
entry_meant (Some c) = refl

is_meant : (cs : List ContextTable) (ds : List CallEdge)
    → table_in cs ds ≡ table_meant (map meaning_of cs) (map edge_of ds)
is_meant cs ds = λ i. record {
  context = λ x. any_mapped meaning_of (meant_for x) cs i;
  state = λ x n. (state_meant n (find_context x cs)
      ∙ ap (option_and_then (λ (m : Meaning). m.states n))
      (found_mapped meaning_of (meant_for x) cs)) i;
  entry = λ x. (entry_meant (find_context x cs)
      ∙ ap (λ o. option_map_or (λ (m : Meaning). m.entries) o no_entries)
      (found_mapped meaning_of (meant_for x) cs)) i;
  edge = λ e. any_mapped edge_of (λ (d : Edge). same_edge d e) ds i;
}

same_by_meanings : (cs ds : List ContextTable) (es fs : List CallEdge)
    → map meaning_of cs ≡ map meaning_of ds → map edge_of es ≡ map edge_of fs
    → table_in cs es ≡ table_in ds fs
same_by_meanings cs ds es fs contexts edges =
    is_meant cs es ∙ (λ i. table_meant (contexts i) (edges i)) ∙ sym (is_meant ds fs)

-- ---- and what its contexts stand for by the table

module _ (p : Program) (t u : ATable) (fits : Fits p t) (other : Fits p u)
    (same : table_of t ≡ table_of u) where
  keys : map (λ (c : ContextTable). c.context) t.contexts.items
      ≡ map (λ (c : ContextTable). c.context) u.contexts.items
  keys =
      sym (contexts_listed p t fits) ∙ ap (contexts_of p) same ∙ contexts_listed p u other

  edges_same : map edge_of t.edges.items ≡ map edge_of u.edges.items
  edges_same = sym (edges_listed p t fits) ∙ ap (edges_of p) same ∙ edges_listed p u other

  module _ (k : ℕ) (c d : ContextTable) (c_is : slice_get t.contexts.items k ≡ Some c)
      (d_is : slice_get u.contexts.items k ≡ Some d) where
    context_is : c.context ≡ d.context
    context_is =
        same_at (λ (b : ContextTable). b.context) t.contexts.items u.contexts.items k c d keys c_is
        d_is

    c_found : find_context c.context t.contexts.items ≡ Some c
    c_found = own_found t.contexts.items t.edges.items k c c fits.ordered c_is refl

    d_found : find_context d.context u.contexts.items ≡ Some d
    d_found = own_found u.contexts.items u.edges.items k d d other.ordered d_is refl

    states_are : (n : ℕ) → states_in c.nodes.items n ≡ states_in d.nodes.items n
    states_are n =
        sym (found_state t c.context c c_found n) ∙ (λ i. (same i).state (context_is i) n)
        ∙ found_state u d.context d d_found n

    entries_are : entries_of c.entries ≡ entries_of d.entries
    entries_are =
        sym (found_entry t c.context c c_found) ∙ (λ i. (same i).entry (context_is i))
        ∙ found_entry u d.context d d_found

    meaning_is : meaning_of c ≡ meaning_of d
    meaning_is = λ i. record {
      context = context_is i;
      states = λ n. states_are n i;
      entries = entries_are i;
    }

  meanings_same : map meaning_of t.contexts.items ≡ map meaning_of u.contexts.items
  meanings_same =
      maps_same meaning_of t.contexts.items u.contexts.items
      (maps_count (λ (c : ContextTable). c.context) t.contexts.items u.contexts.items keys)
      meaning_is

-- ---- so a comparison one by one tells

pub tables_told : (p : Program) (t u : ATable) → Fits p t → FitsListed p u
    → (contexts edges : Bool)
    → IsTrue contexts ↔ (map meaning_of t.contexts.items ≡ map meaning_of u.contexts.items)
    → IsTrue edges ↔ (map (λ (d : CallEdge). d.edge) t.edges.items
    ≡ map (λ (d : CallEdge). d.edge) u.edges.items)
    → IsTrue (contexts && edges) ↔ (table_of t ≡ table_of u)
tables_told p t u fits listed contexts edges h k =
    told_both contexts edges h k
    (same_by_meanings t.contexts.items u.contexts.items t.edges.items u.edges.items)
    (λ same. meanings_same p t u fits (fits_other same) same)
    (λ same. edges_same p t u fits (fits_other same) same)
  where
    fits_other : table_of t ≡ table_of u → Fits p u
    fits_other same =
        fits_opened p u listed
        (subst (λ (v : Table). IsTrue (v.context root)) same (root_reached p t fits))

-- what two tables of a context have at each of their nodes
pub nodes_same : (p : Program) (c d : ContextTable) → FitsContext p c → FitsContext p d
    → c.context ≡ d.context → (n : ℕ) → vec_len c.nodes ≤ n
    → ((k : ℕ) → k < n → states_in c.nodes.items k ≡ states_in d.nodes.items k)
    → states_in c.nodes.items ≡ states_in d.nodes.items
nodes_same p c d of_c of_d is n all below = λ i k. at k i
  where
    counts : vec_len d.nodes ≡ vec_len c.nodes
    counts =
        of_d.nodes ∙ ap (λ (x : Context). length (nodes_of p x.function)) (sym is) ∙ sym of_c.nodes

    none_past : (xs : List NodeTable) (k : ℕ) → length xs ≤ k → states_in xs k ≡ None
    none_past xs k past =
        ap (λ o. option_map state_of (option_and_then (λ (s : NodeTable). s.state) o))
        (slice_get_past xs k past)

    at : (k : ℕ) → states_in c.nodes.items k ≡ states_in d.nodes.items k
    at k =
        elim (cases_lt k n) [
          | inl less ↦ below k less
          | inr past ↦
              none_past c.nodes.items k (omega (arith, past, all, c.nodes.ok.0))
              ∙ sym (none_past d.nodes.items k (omega (arith, past, all, d.nodes.ok.0, counts)))
        ]
