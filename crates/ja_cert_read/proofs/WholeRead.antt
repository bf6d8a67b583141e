-- A whole certificate, from its parts.
use Rattle.std.specs.Prelude.{◌≡◌, ℕ, false, List, [], ◌∷◌, map, Option, Some, None, All}
use Rattle.std.specs.List.{AllByRecursion}
use Rattle.std.specs.Option.{option_and_then, option_map_or}
use Rattle.std.specs.String.{string_bytes}
use Rattle.std.proofs.Common.{refl, sym, subst, ap, ◌∙◌}
use Rattle.std.proofs.lemmas.List.Elements.{All-from_recursion}
use Rattle.serde_json.specs.Data.{Data, string}
use Rattle.serde_json.specs.Read.{read}
use Rattle.ja_cert_json.specs.View.{view}
use Rattle.ja_base.proofs.Lists.{all_weaker, map_after}
use Rattle.ja_graph.specs.declared.program.Program.{Program}
use Rattle.ja_load.specs.Loading.{IsProgramOf}
use Rattle.ja_rows.specs.Listed.{contexts_of, edges_of}
use Rattle.ja_rows.specs.Table.{Table}
use Rattle.ja_aheap.specs.Entries.{entries_of}
use Rattle.ja_table.specs.declared.table.ATable.{ATable}
use Rattle.ja_table.specs.declared.table.CallEdge.{CallEdge}
use Rattle.ja_table.specs.declared.table.ContextTable.{ContextTable}
use Rattle.ja_table.specs.Order.{AreContextsOrdered, AreEdgesOrdered}
use Rattle.ja_table.specs.Tables.{find_context, no_entries, states_in, table_of, FitsContext, FitsEdge, FitsListed}
use Rattle.ja_table.proofs.Ascending.{ascends-map, Ascends}
use Rattle.ja_table.proofs.ListedContexts.{contexts_kept, find_kept, Comes}
use Rattle.ja_table.proofs.ListedEdges.{edges_kept}
use Rattle.ja_cert_read.specs.declared.certificate.Certificate.{Certificate}
use Rattle.ja_cert_read.specs.declared.contexts.ContextAt.{ContextAt}
use Rattle.ja_cert_read.specs.declared.reading.Body.{Body}
use Rattle.ja_cert_read.specs.declared.reading.Head.{Head}
use Rattle.ja_cert.specs.Certificate.{certificate_data, context_data, device_data, edge_data, listed, points_data}
use Rattle.ja_cert_read.specs.Certified.{HasHead, IsCertificate}
use Rattle.ja_cert.specs.Wrong.{certificate_keys, late_fields_wrong, wrong_before_loading, wrong_of}
use Rattle.ja_cert_read.specs.code.Contexts.{listed_data, own_data, AreTablesOf}
use Rattle.ja_cert_read.specs.code.Whole.{call_edge_data, data_in, IsBodyOf, IsHeadOf}
use Rattle.ja_cert_read.proofs.ContextsRight.{contexts_ascend, ComesBefore}
use Rattle.ja_cert_read.proofs.EdgesRight.{contexts_ordered, edge_fits, edges_ascend, edges_between, edges_ordered, IsBetween}
use Rattle.ja_cert_read.proofs.ObjectLemmas.{object_is}
use Rattle.ja_cert_read.proofs.Said.{table_said}
use Rattle.ja_cert_read.proofs.Told.{right_found}

-- ---- each context of a table

map_each : {A B : Type 0} (f g : A → B) (xs : List A) → AllByRecursion (λ x. f x ≡ g x) xs
    → map f xs ≡ map g xs
map_each f g [] all = refl
map_each f g (x ∷ xs) all = let here = all.0 in let more = map_each f g xs all.1 in
    λ i. here i ∷ more i

-- a table with what is found of a context
abbrev of_found : Option ContextTable → Table
of_found o = record {
  context = λ x. false;
  state = λ x n. option_and_then (λ (c : ContextTable). states_in c.nodes.items n) o;
  entry = λ x. option_map_or (λ (c : ContextTable). entries_of c.entries) o no_entries;
  edge = λ e. false;
}

own_is : (p : Program) (t : ATable) (c : ContextTable)
    → find_context c.context t.contexts.items ≡ Some c
    → context_data p (table_of t) c.context ≡ own_data p c
unfolding context_data own_data points_data
own_is p t c found = ap (λ o. context_data p (of_found o) c.context) found

pub contexts_written : (p : Program) (t : ATable) → All (FitsContext p) t.contexts.items
    → AreContextsOrdered t.contexts.items
    → map (context_data p (table_of t)) (contexts_of p (table_of t))
    ≡ map (own_data p) t.contexts.items
contexts_written p t each ordered =
    ap (map (context_data p (table_of t))) (contexts_kept p t each ordered)
    ∙ map_after (λ (c : ContextTable). c.context) (context_data p (table_of t))
    (λ (c : ContextTable). context_data p (table_of t) c.context) (λ c. refl) t.contexts.items
    ∙ map_each (λ (c : ContextTable). context_data p (table_of t) c.context) (own_data p)
    t.contexts.items (all_weaker
    (λ (c : ContextTable). find_context c.context t.contexts.items ≡ Some c)
    (λ (c : ContextTable). context_data p (table_of t) c.context ≡ own_data p c)
    (λ c found. own_is p t c found) t.contexts.items (find_kept t.contexts.items ordered))

-- ---- the table

contexts_of_data : (xs : List ContextAt) → Ascends ComesBefore xs
    → Ascends Comes (map (λ (x : ContextAt). x.context) xs)
contexts_of_data xs a =
    ascends-map ComesBefore Comes (λ (x : ContextAt). x.context) (λ x y h. h) xs a

pub table_fits : (p : Program) (h : Head) (b : Body) (t : ATable) → IsBodyOf p h b
    → AreTablesOf p b.contexts.items t.contexts.items → t.edges.items ≡ b.edges.items
    → FitsListed p t
table_fits p h b t body built edges =
    let xs = b.contexts.items in
    let between = edges_between p (map (listed_data p) xs) b.edges.items body.edges_right in
    let fit : AllByRecursion (λ (d : CallEdge). FitsEdge p t d.edge) b.edges.items =
    all_weaker (λ (d : CallEdge). IsBetween p (map (listed_data p) xs) d.edge)
    (λ (d : CallEdge). FitsEdge p t d.edge)
    (λ d is. edge_fits p xs t d.edge built.contexts_are is) b.edges.items between in
    record {
      each = All-from_recursion (FitsContext p) t.contexts.items built.fit;
      ordered =
          contexts_ordered t.contexts.items (subst (Ascends Comes) (sym built.contexts_are)
          (contexts_of_data xs (contexts_ascend p xs body.contexts_right)));
      edges =
          All-from_recursion (λ (d : CallEdge). FitsEdge p t d.edge) t.edges.items
          (subst (AllByRecursion (λ (d : CallEdge). FitsEdge p t d.edge)) (sym edges) fit);
      edges_ordered =
          subst AreEdgesOrdered (sym edges) (edges_ordered b.edges.items
          (edges_ascend p (map (listed_data p) xs) b.edges.items body.edges_right));
    }

-- ---- the whole

pub written_whole : (p : Program) (d : Data) (h : Head) (b : Body) (t : ATable)
    → IsHeadOf d h → IsBodyOf p h b → AreTablesOf p b.contexts.items t.contexts.items
    → t.edges.items ≡ b.edges.items → FitsListed p t → p.signatures ≡ h.signatures.items
    → string_bytes p.text ≡ h.text.now
    → certificate_data p (table_of t) b.visits.items ≡ d
unfolding certificate_data
written_whole p d h b t head body built edges fits signatures text =
    let contexts : listed (map (context_data p (table_of t)) (contexts_of p (table_of t)))
    ≡ view h.contexts.now =
    ap listed (contexts_written p t fits.each fits.ordered ∙ built.listed) ∙ body.contexts_are in
    let edges_are : listed (map edge_data (edges_of p (table_of t))) ≡ view h.edges.now =
    ap (λ es. listed (map edge_data es)) (edges_kept p t fits.each fits.edges fits.edges_ordered)
    ∙ ap listed (map_after (λ (e : CallEdge). e.edge) edge_data call_edge_data (λ e. refl)
    t.edges.items ∙ ap (map call_edge_data) edges) ∙ body.edges_are in
    rw (
      contexts,
      ap (λ s. listed (map device_data s)) signatures,
      edges_are,
      ap string text,
      body.visits_are,
    ) (sym (object_is certificate_keys d (data_in h) head.members))

pub certificate_read : (bytes : List ℕ) (d : Data) (h : Head) (b : Body) (c : Certificate)
    → read bytes ≡ Some d → wrong_before_loading d ≡ None → IsHeadOf d h
    → IsProgramOf h.text.now h.signatures.items c.program
    → c.program.signatures ≡ h.signatures.items
    → late_fields_wrong c.program (data_in h) ≡ None → IsBodyOf c.program h b
    → AreTablesOf c.program b.contexts.items c.table.contexts.items
    → c.table.edges.items ≡ b.edges.items → c.visits.items ≡ b.visits.items
    → IsCertificate bytes c
unfolding wrong_of
certificate_read bytes d h b c is early head program signatures late body built edges visits =
    let p = c.program in
    let fits = table_fits p h b c.table body built edges in
    let written = written_whole p d h b c.table head body built edges fits signatures
    program.keeps in
    record {
      json = d;
      data_is = record { data_is = is; right = early };
      program =
          subst (λ s. IsProgramOf (string_bytes p.text) s p) (sym signatures)
          (subst (λ t. IsProgramOf t h.signatures.items p) (sym program.keeps) program);
      right = right_found _ (data_in h) (late_fields_wrong p) head.members late;
      written_so =
          ap (certificate_data p (table_of c.table)) visits ∙ written;
      said = table_said p c.table built.said;
      fits = fits;
    }

pub head_of : (d : Data) (h : Head) → IsHeadOf d h → HasHead d h.text.now h.signatures.items
head_of d h head = (view h.contexts.now, view h.edges.now, view h.visits.now, head.members)
