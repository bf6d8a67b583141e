-- The parts of a report, one behind the other.
use Rattle.std.proofs.Common.{◌≡◌, ◌++◌, ◌∙◌, ℕ, Bool, List, [], ap, sym, length, vec_len, append_assoc}
use Rattle.std.specs.List.{flat_map}
use Rattle.std.proofs.lemmas.List.Folds.{flat_map-map}
use lib.Chars.{codes}
use Rattle.ja_graph.specs.declared.program.Program.{Program}
use Rattle.ja_rows.specs.Listed.{contexts_of, edges_of}
use Rattle.ja_rows.specs.declared.table.Item.{Item}
use Rattle.ja_rows.specs.declared.table.Warning.{Warning}
use Rattle.ja_table.specs.declared.table.ATable.{ATable}
use Rattle.ja_table.specs.declared.table.CallEdge.{CallEdge}
use Rattle.ja_table.specs.Order.{edge_of}
use Rattle.ja_table.specs.Tables.{table_of, Fits}
use Rattle.ja_table.proofs.ListedContexts.{contexts_count}
use Rattle.ja_table.proofs.ListedEdges.{edges_listed}
use Rattle.ja_report.specs.Lines.{line_sites, line_text, table_lines}
use Rattle.ja_report.specs.Report.{contexts_line, edge_sites, item_sites, report_head, report_sites, report_text, visits_text}

-- the sites of the call edges, of the lines, and of the visits, one behind the other
module _ (p : Program) (t : ATable) (visits : List Item) (fits : Fits p t) where
  abbrev kept_sites : List ℕ
  kept_sites = flat_map (λ (e : CallEdge). edge_sites e.edge) t.edges.items

  abbrev its_sites : List ℕ
  its_sites = flat_map (line_sites p) (table_lines p (table_of t))

  edges_named : kept_sites ≡ flat_map edge_sites (edges_of p (table_of t))
  edges_named =
      sym (ap (flat_map edge_sites) (edges_listed p t fits)
      ∙ flat_map-map edge_sites edge_of t.edges.items)

  pub sites_named : (none edges lines all : List ℕ) → none ≡ [] → edges ≡ none ++ kept_sites
      → lines ≡ edges ++ its_sites → all ≡ lines ++ flat_map item_sites visits
      → all ≡ report_sites p (table_of t) visits
  sites_named none edges lines all none_is edges_is lines_is all_is =
      let first : edges ≡ flat_map edge_sites (edges_of p (table_of t)) =
      edges_is ∙ ap (λ (l : List ℕ). l ++ kept_sites) none_is ∙ edges_named in
      all_is ∙ ap (λ (l : List ℕ). l ++ flat_map item_sites visits)
      (lines_is ∙ ap (λ (l : List ℕ). l ++ its_sites) first)

parts : (h c l v e : List ℕ) → (((h ++ c) ++ l) ++ v) ++ e ≡ h ++ (c ++ l) ++ v ++ e
parts h c l v e = simp append_assoc

module _ (p : Program) (t : ATable) (visits : List Item) (built : Bool) (ws : List Warning)
    (fits : Fits p t) where
  abbrev whole_head : List ℕ
  whole_head = report_head p (table_of t) built ws (report_sites p (table_of t) visits)

  abbrev whole_count : List ℕ
  whole_count = contexts_line (length (contexts_of p (table_of t)))

  abbrev whole_lines : List ℕ
  whole_lines = flat_map (line_text p) (table_lines p (table_of t))

  pub report_whole : (named lines : List ℕ) (n : ℕ) (a b c d e f : List ℕ)
      → named ≡ report_sites p (table_of t) visits → lines ≡ whole_lines → n ≡ vec_len t.contexts
      → a ≡ [] → b ≡ a ++ report_head p (table_of t) built ws named → c ≡ b ++ contexts_line n → d ≡ c ++ lines
      → e ≡ d ++ visits_text p visits → f ≡ e ++ codes "end\n"
      → f ≡ report_text p (table_of t) visits built ws
  unfolding report_text
  report_whole named lines n a b c d e f named_is lines_is n_is a_is b_is c_is d_is e_is f_is =
      let headed : b ≡ whole_head =
      b_is ∙ ap (λ (l : List ℕ). l ++ report_head p (table_of t) built ws named) a_is
      ∙ ap (report_head p (table_of t) built ws) named_is in
      let counted : c ≡ whole_head ++ whole_count =
      c_is ∙ ap (λ (l : List ℕ). l ++ contexts_line n) headed
      ∙ ap (λ (k : ℕ). whole_head ++ contexts_line k) (n_is ∙ contexts_count p t fits) in
      let listed : d ≡ (whole_head ++ whole_count) ++ whole_lines =
      d_is ∙ ap (λ (l : List ℕ). l ++ lines) counted
      ∙ ap (λ (l : List ℕ). (whole_head ++ whole_count) ++ l) lines_is in
      f_is ∙ ap (λ (l : List ℕ). l ++ codes "end\n")
      (e_is ∙ ap (λ (l : List ℕ). l ++ visits_text p visits) listed)
      ∙ parts whole_head whole_count whole_lines (visits_text p visits) (codes "end\n")
