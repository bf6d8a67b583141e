-- The contexts and the edges that a table keeps, as they are written.
use Rattle.std.proofs.Common.{◌≡◌, ℕ, ◌<◌, List, [], ◌∷◌, ◌++◌, Option, Some, None, map, get_or, length, vec_len, refl, ap, sym, ◌∙◌}
use Rattle.std.specs.List.{AllByRecursion, flat_map, range_with_len}
use Rattle.std.specs.Option.{option_and_then, option_map_or}
use Rattle.std.proofs.lemmas.Option.{slice_get_read}
use lib.Chars.{codes}
use Rattle.serde_json.specs.Data.{Data, object, member, no_members}
use Rattle.ja_base.specs.declared.ids.Context.{Context}
use Rattle.ja_base.specs.declared.ids.FnId.{FnId}
use Rattle.ja_graph.specs.declared.program.Program.{Program}
use Rattle.ja_graph.specs.Program.{nodes_of}
use Rattle.ja_abstract.specs.AbstractState.{AbstractState}
use Rattle.ja_astate.specs.declared.state.AState.{AState}
use Rattle.ja_astate.specs.State.{state_of}
use Rattle.ja_abstract.specs.Resolved.{Entries}
use Rattle.ja_aheap.specs.Entries.{entries_of}
use Rattle.ja_rows.specs.Listed.{contexts_of, edges_of}
use Rattle.ja_table.specs.declared.table.ATable.{ATable}
use Rattle.ja_table.specs.declared.table.CallEdge.{CallEdge}
use Rattle.ja_table.specs.declared.table.ContextTable.{ContextTable}
use Rattle.ja_table.specs.declared.table.NodeTable.{NodeTable}
use Rattle.ja_table.specs.Tables.{find_context, kept_state, no_entries, states_in, table_of, Fits}
use Rattle.ja_table.proofs.Ascending.{of_member, of_each}
use Rattle.ja_table.proofs.ListedContexts.{contexts_listed, find_kept}
use Rattle.ja_table.proofs.ListedEdges.{edges_listed}
use Rattle.ja_report.specs.Lines.{entry_lines}
use Rattle.ja_cert.specs.Certificate.{context_data, edge_data, label_data, lines_data, listed, points_data, state_data, whole}
use Rattle.ja_cert.specs.code.Writing.{node_of, own_data, points_of, with_commas}
use Rattle.ja_cert.proofs.Commas.{commas_each, commas_none}
use Rattle.ja_report.proofs.PointLemmas.{kept_at}

map_map : {A B C : Type 0} (f : B → C) (g : A → B) (xs : List A)
    → map f (map g xs) ≡ map (λ (x : A). f (g x)) xs
map_map f g [] = refl
map_map f g (x ∷ xs) = ap (λ (l : List _). f (g x) ∷ l) (map_map f g xs)

map_same : {A B : Type 0} (f g : A → B) (xs : List A) → AllByRecursion (λ (x : A). f x ≡ g x) xs
    → map f xs ≡ map g xs
map_same f g [] same = refl
map_same f g (x ∷ xs) same =
    ap (λ (y : _). y ∷ map f xs) same.0 ∙ ap (λ (l : List _). g x ∷ l) (map_same f g xs same.1)

-- ---- contexts

-- a context with such values at entry and states
own_with : Program → Context → Entries → (ℕ → Option AbstractState) → Data
own_with p x entries states =
    object (member (codes "entries") (lines_data p (entry_lines p entries))
    (member (codes "function") (whole x.function.0)
    (member (codes "points") (listed (points_of p x.function states))
    (member (codes "receiver") (label_data x.receiver) no_members))))

module _ (p : Program) (t : ATable) where
  context_is : (c : ContextTable) → find_context c.context t.contexts.items ≡ Some c
      → context_data p (table_of t) c.context ≡ own_data p c
  unfolding context_data points_data own_data points_of node_of own_with
  context_is c found =
      ap (λ (o : Option ContextTable). own_with p c.context
      (option_map_or (λ (d : ContextTable). entries_of d.entries) o no_entries)
      (λ n. option_and_then (λ (d : ContextTable). states_in d.nodes.items n) o)) found

  pub contexts_are : Fits p t → map (own_data p) t.contexts.items
      ≡ map (context_data p (table_of t)) (contexts_of p (table_of t))
  contexts_are fits =
      let told : Context → Data = context_data p (table_of t) in
      sym (ap (map told) (contexts_listed p t fits)
      ∙ map_map told (λ (c : ContextTable). c.context) t.contexts.items
      ∙ map_same (λ (c : ContextTable). told c.context) (own_data p) t.contexts.items
      (of_each (λ (c : ContextTable). told c.context ≡ own_data p c) t.contexts.items (λ c m.
      context_is c (of_member
      (λ (d : ContextTable). find_context d.context t.contexts.items ≡ Some d)
      t.contexts.items c (find_kept t.contexts.items fits.ordered) m))))

  -- ---- edges

  pub edges_are : Fits p t → map (λ (e : CallEdge). edge_data e.edge) t.edges.items
      ≡ map edge_data (edges_of p (table_of t))
  edges_are fits =
      sym (ap (map edge_data) (edges_listed p t fits)
      ∙ map_map edge_data (λ (e : CallEdge). e.edge) t.edges.items)

-- ---- nodes

pub node_found : (p : Program) (f : FnId) (c : ContextTable) (n : ℕ) (at : NodeTable) (s : AState)
    → at ≡ get_or c.nodes.items n at → n < vec_len c.nodes → at.state ≡ Some s
    → state_data p f n (state_of s) ∷ [] ≡ node_of p f (states_in c.nodes.items) n
unfolding node_of
node_found p f c n at s read inside found = rw (kept_at c n at read inside ∙ found) refl

pub node_missing : (p : Program) (f : FnId) (c : ContextTable) (n : ℕ) (at : NodeTable)
    (base : List ℕ) → at ≡ get_or c.nodes.items n at → n < vec_len c.nodes → at.state ≡ None
    → base ≡ base ++ with_commas (node_of p f (states_in c.nodes.items) n)
unfolding node_of
node_missing p f c n at base read inside missing =
    rw (kept_at c n at read inside ∙ missing) (commas_none base)

pub points_all : (p : Program) (f : FnId) (states : ℕ → Option AbstractState) (n m : ℕ)
    (base now : List ℕ)
    → now ≡ base ++ flat_map (λ (k : ℕ). with_commas (node_of p f states k)) (range_with_len 0 n)
    → n ≡ m → m ≡ length (nodes_of p f) → now ≡ base ++ with_commas (points_of p f states)
unfolding points_of
points_all p f states n m base now was all nodes =
    was ∙ ap (λ (l : List ℕ). base ++ l) (commas_each (node_of p f states) (range_with_len 0 n)
    ∙ ap (λ (k : ℕ). with_commas (flat_map (node_of p f states) (range_with_len 0 k)))
    (all ∙ nodes))
