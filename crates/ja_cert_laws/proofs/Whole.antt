-- What is written of a program, a table and visits that can be said is their certificate, and is
-- UTF-8.
use Rattle.std.proofs.Common.{◌≡◌, ◌<◌, ◌^◌, ◌==◌, List, [], ◌∷◌, ◌++◌, map, length, Option, Some, None, refl, sym, ap, subst, ◌∙◌, arith}
use Rattle.std.specs.Prelude.{IfSome, IsTrue, slice_get}
use Rattle.std.specs.List.{AllByRecursion}
use Rattle.std.specs.Option.{option_and_then, option_map_or}
use Rattle.std.specs.String.{string_bytes}
use Rattle.std.proofs.lemmas.Bool.{and_parts, eqb-true, le-leb}
use Rattle.std.specs.Str.{IsUtf8}
use Rattle.std.proofs.lemmas.List.Elements.{All-from_recursion, recursion_from_All}
use Rattle.std.proofs.lemmas.Str.{IsUtf8-string_bytes}
use lib.Chars.{codes}
use Rattle.serde_json.specs.Data.{Data, string, object, member, no_members}
use Rattle.serde_json.specs.Read.{read}
use Rattle.serde_json.specs.Written.{compact_text}
use Rattle.ja_base.proofs.Lists.{all_weaker, map_after, within_from_some}
use Rattle.ja_base.specs.declared.ids.Context.{Context}
use Rattle.ja_base.specs.declared.ids.FnId.{FnId}
use Rattle.ja_graph.specs.declared.program.Function.{Function}
use Rattle.ja_graph.specs.declared.program.Program.{Program}
use Rattle.ja_graph.specs.Program.{nodes_of}
use Rattle.ja_graph.specs.WellFormed.{IsWellFormed}
use Rattle.ja_machine.specs.Frames.{registers_of}
use Rattle.ja_abstract.proofs.Labels.{same_label-true}
use Rattle.ja_abstract.proofs.Lists.{member-map}
use Rattle.ja_aheap.specs.Entries.{entries_of}
use Rattle.ja_lex.specs.Spots.{max_bytes}
use Rattle.ja_rows.specs.declared.table.Edge.{Edge}
use Rattle.ja_rows.specs.declared.table.Item.{Item}
use Rattle.ja_rows.specs.Listed.{contexts_of, edges_of}
use Rattle.ja_rows.specs.Table.{same_context, same_edge}
use Rattle.ja_rows.proofs.Applied.{same_edge-self}
use Rattle.ja_table.specs.Tables.{find_context, no_entries, states_in, table_of, FitsContext, FitsEdge, IsContext, FitsListed}
use Rattle.ja_table.specs.declared.table.ATable.{ATable}
use Rattle.ja_table.specs.declared.table.CallEdge.{CallEdge}
use Rattle.ja_table.specs.declared.table.ContextTable.{ContextTable}
use Rattle.ja_table.proofs.Ascending.{listed, of_each, of_key, of_member, told}
use Rattle.ja_table.proofs.ListedContexts.{find_kept}
use Rattle.ja_table.proofs.ListedEdges.{edges_kept}
use Rattle.ja_cert.specs.Certificate as written
use Rattle.ja_cert.specs.Certificate.{certificate_data, context_data, device_data, edge_data, item_data, whole}
use Rattle.ja_cert.specs.Wrong.{context_wrong, device_wrong, edge_wrong, here, here_unless, is_text, is_version, is_word, item_wrong, list_of, list_wrong, under, wrong_before_loading, wrong_of}
use Rattle.ja_cert_parts.proofs.NumberLemmas.{few_functions, few_nodes}
use Rattle.ja_table.specs.Profile.{IsTableOfProfile}
use Rattle.ja_cert_laws.specs.Back.{CanBeWritten, IsEdgeOf, written as text_of}
use Rattle.ja_cert_read.specs.Certified.{IsCertificate}
use Rattle.ja_cert_read.specs.code.Contexts.{own_data}
use Rattle.ja_cert_read.specs.code.Whole.{call_edge_data}
use Rattle.ja_cert_read.specs.declared.certificate.Certificate.{Certificate}
use Rattle.ja_cert_laws.proofs.Lines.{deeper, line_read, line_utf8, six_back, string_back, whole_back, IsReadBack}
use Rattle.ja_cert_laws.proofs.RightContexts.{contexts_right, IsSaidContext}
use Rattle.ja_cert_laws.proofs.RightDevices.{devices_right}
use Rattle.ja_cert_laws.proofs.RightEdges.{edges_right, items_right, IsSaidEdge}
use Rattle.ja_cert_laws.proofs.Sayable.{table_said, CanBeSaid, IsEntryProperty, IsSayable}
use Rattle.ja_cert_laws.proofs.Written.{contexts_back, devices_back, items_back, kept_edges_back, IsFew}
use Rattle.ja_cert_parts.proofs.ListLemmas.{list_of_listed}
use Rattle.ja_cert_read.proofs.Told.{all_right}
use Rattle.ja_cert_read.proofs.WholeRead.{contexts_written}

-- ---- the whole, by what a table keeps

-- what is written of contexts, edges and visits
unfoldable pub parts_data : Program → List ContextTable → List CallEdge → List Item → Data
parts_data p cs es visits =
    object (member (codes "contexts") (written.listed (map (own_data p) cs))
    (member (codes "devices") (written.listed (map device_data p.signatures))
    (member (codes "edges") (written.listed (map call_edge_data es))
    (member (codes "text") (string (string_bytes p.text))
    (member (codes "version") (whole 1)
    (member (codes "visits") (written.listed (map item_data visits)) no_members))))))

pub parts_are : (p : Program) (t : ATable) (visits : List Item) → FitsListed p t
    → certificate_data p (table_of t) visits ≡ parts_data p t.contexts.items t.edges.items visits
unfolding certificate_data parts_data
parts_are p t visits fits =
    let contexts : map (context_data p (table_of t)) (contexts_of p (table_of t))
    ≡ map (own_data p) t.contexts.items = contexts_written p t fits.each fits.ordered in
    let edges : map edge_data (edges_of p (table_of t)) ≡ map call_edge_data t.edges.items =
    ap (map edge_data) (edges_kept p t fits.each fits.edges fits.edges_ordered)
    ∙ map_after (λ (e : CallEdge). e.edge) edge_data call_edge_data (λ e. refl) t.edges.items in
    λ i. object (member (codes "contexts") (written.listed (contexts i))
    (member (codes "devices") (written.listed (map device_data p.signatures))
    (member (codes "edges") (written.listed (edges i))
    (member (codes "text") (string (string_bytes p.text))
    (member (codes "version") (whole 1)
    (member (codes "visits") (written.listed (map item_data visits)) no_members))))))

-- ---- numbers of a program

registers_few : (p : Program) → IsWellFormed p → (f : FnId) → registers_of p f < 2 ^ 63
registers_few p h f = by_function (slice_get p.functions f.0) refl
  where
    by_function : (o : Option Function) → slice_get p.functions f.0 ≡ o
        → option_map_or (λ (fn : Function). fn.registers) o 0 < 2 ^ 63
    by_function None is = omega arith
    by_function (Some fn) is = omega (arith, (h.each f.0 fn is).few_registers)

few : (p : Program) → IsWellFormed p → IsFew p
few p h = record {
  functions = omega (arith, few_functions p h);
  nodes = λ f. omega (arith, few_nodes p f h);
  registers = registers_few p h;
  sites = omega (arith, h.few_sites);
  names = omega (arith, h.few_names);
}

-- ---- contexts and edges of a table that can be said

module _ (p : Program) (t : ATable) (fits : FitsListed p t) (said : IsSayable p (table_of t)) where
  abbrev kept : List ContextTable
  kept = t.contexts.items

  contexts_fit : AllByRecursion (FitsContext p) kept
  contexts_fit = recursion_from_All (FitsContext p) kept fits.each

  said_context : (c : ContextTable) → find_context c.context kept ≡ Some c → FitsContext p c
      → IsSaidContext p c
  said_context c found h = record {
    fits = h;
    states = λ n. subst (λ (o : Option ContextTable). IfSome (option_and_then
        (λ (d : ContextTable). states_in d.nodes.items n) o) CanBeSaid) found
        (said.states c.context n);
    entries = λ l k. subst (λ (o : Option ContextTable). IfSome (option_map_or
        (λ (d : ContextTable). entries_of d.entries) o no_entries l k) IsEntryProperty) found
        (said.entries c.context l k);
  }

  contexts_said : AllByRecursion (IsSaidContext p) kept
  contexts_said =
      let found = find_kept kept fits.ordered in
      of_each (IsSaidContext p) kept (λ c m.
      said_context c (of_member (λ (d : ContextTable). find_context d.context kept ≡ Some d) kept c
      found m) (of_member (FitsContext p) kept c contexts_fit m))

  same_contexts : (x y : Context) → IsTrue (same_context x y) → x ≡ y
  same_contexts x y h =
      let both = and_parts (x.function.0 == y.function.0) _ h in
      let function = eqb-true x.function.0 y.function.0 both.0 in
      let receiver = same_label-true x.receiver y.receiver both.1 in
      λ i. record { function = record { 0 = function i }; receiver = receiver i }

  reached : (x : Context) → IsTrue ((table_of t).context x) → IsContext p x
  reached x h =
      of_key (λ (c : ContextTable). c.context) (IsContext p) kept
      (All-from_recursion (λ (c : ContextTable). IsContext p c.context) kept
      (all_weaker (FitsContext p) (λ (c : ContextTable). IsContext p c.context) (λ c is. is.context)
      kept contexts_fit)) x
      (listed (λ (c : ContextTable). c.context) same_context same_contexts kept x h)

  edge_of_program : (e : Edge) → FitsEdge p t e → IsEdgeOf p e
  edge_of_program e h = record {
    from = record {
      context = reached e.caller h.caller;
      node = within_from_some (nodes_of p e.caller.function) e.node.0 h.node;
    };
    callee = reached e.callee h.callee;
  }

  edges_fit : AllByRecursion (λ (d : CallEdge). FitsEdge p t d.edge) t.edges.items
  edges_fit = recursion_from_All (λ (d : CallEdge). FitsEdge p t d.edge) t.edges.items fits.edges

  edges_said : AllByRecursion (λ (d : CallEdge). IsSaidEdge p kept d.edge) t.edges.items
  edges_said = of_each (λ (d : CallEdge). IsSaidEdge p kept d.edge) t.edges.items (λ d m.
      let h = of_member (λ (e : CallEdge). FitsEdge p t e.edge) t.edges.items d edges_fit m in
      record {
        edge = edge_of_program d.edge h;
        calls = said.edges d.edge (told (λ (e : CallEdge). e.edge) same_edge same_edge-self
            t.edges.items d.edge (member-map (λ (e : CallEdge). e.edge) d t.edges.items m));
        caller = h.caller;
        callee = h.callee;
      })

-- ---- the certificate

module _ (c : Certificate) (h : CanBeWritten c)
    (profile : IsTableOfProfile (table_of c.table)) where
  abbrev p : Program
  p = c.program

  said : IsSayable p (table_of c.table)
  said = table_said p (table_of c.table) h.shaped profile h.said

  abbrev json : Data
  json = parts_data p c.table.contexts.items c.table.edges.items c.visits.items

  all_back : IsReadBack 8 json
  unfolding parts_data
  all_back =
      let fine = few p h.loaded.well_formed in
      six_back 7 (codes "contexts") _ (codes "devices") _ (codes "edges") _ (codes "text") _
      (codes "version") _ (codes "visits") _ refl refl
      (contexts_back p fine c.table.contexts.items (all_weaker (FitsContext p)
      (λ (d : ContextTable). IsContext p d.context) (λ d is. is.context) c.table.contexts.items
      (contexts_fit p c.table h.fits said)))
      (devices_back p.signatures h.loaded.devices.fit)
      (kept_edges_back p fine c.table.edges.items (all_weaker
      (λ (d : CallEdge). IsSaidEdge p c.table.contexts.items d.edge)
      (λ (d : CallEdge). IsEdgeOf p d.edge) (λ d is. is.edge) c.table.edges.items
      (edges_said p c.table h.fits said)))
      (string_back 7 (string_bytes p.text) (IsUtf8-string_bytes p.text))
      (whole_back 7 1 (omega arith))
      (items_back p fine c.visits.items h.visits)

  early : wrong_before_loading json ≡ None
  unfolding wrong_before_loading parts_data
  early =
      all_right (under (codes "version") (here_unless (is_version (whole 1)))
      ∷ under (codes "text") (here_unless (is_word is_text (string (string_bytes p.text))))
      ∷ under (codes "devices")
      (list_wrong device_wrong (written.listed (map device_data p.signatures))) ∷ []) (
        refl,
        (
          ap (λ b. under (codes "text") (here_unless b))
              (le-leb (length (string_bytes p.text)) max_bytes h.loaded.text),
          (ap (under (codes "devices")) (devices_right p.signatures h.loaded.devices), tt),
        ),
      )

  late : wrong_of p json ≡ None
  unfolding wrong_of parts_data
  late =
      let contexts : List Data = map (own_data p) c.table.contexts.items in
      let edges : Data = written.listed (map call_edge_data c.table.edges.items) in
      all_right (under (codes "contexts") (list_wrong (context_wrong p) (written.listed contexts))
      ∷ under (codes "edges") (option_map_or (λ (cs : List Data). list_wrong (edge_wrong p cs)
      edges) (list_of (written.listed contexts)) here)
      ∷ under (codes "visits")
      (list_wrong (item_wrong p) (written.listed (map item_data c.visits.items))) ∷ []) (
        ap (under (codes "contexts")) (contexts_right p c.table.contexts.items
            (contexts_said p c.table h.fits said) h.fits.ordered),
        (
          ap (λ (o : Option (List Data)). under (codes "edges") (option_map_or
              (λ (cs : List Data). list_wrong (edge_wrong p cs) edges) o here))
              (list_of_listed contexts)
              ∙ ap (under (codes "edges")) (edges_right p c.table.contexts.items c.table.edges.items
              (edges_said p c.table h.fits said) h.fits.edges_ordered),
          (ap (under (codes "visits")) (items_right p c.visits.items h.visits), tt),
        ),
      )

  pub written_is_certificate : IsCertificate (text_of c) c
  written_is_certificate =
      let same = parts_are p c.table c.visits.items h.fits in
      record {
        json = json;
        data_is = record {
          data_is = ap (λ d. read (compact_text d ++ codes "\n")) same
              ∙ line_read json (deeper 8 127 json (omega arith) all_back);
          right = early;
        };
        program = h.loaded.program;
        right = late;
        written_so = same;
        fits = h.fits;
        said = h.said;
      }

  pub written_is_utf8 : IsUtf8 (text_of c)
  written_is_utf8 =
      let same = parts_are p c.table c.visits.items h.fits in
      subst (λ d. IsUtf8 (compact_text d ++ codes "\n")) (sym same) (line_utf8 8 json all_back)
