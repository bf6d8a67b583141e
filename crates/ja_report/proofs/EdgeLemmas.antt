-- The call edges that a table keeps, as they are written.
use Rattle.std.specs.Prelude.{◌≡◌, ℕ, vec_len, List, ◌++◌}
use Rattle.std.specs.List.{flat_map}
use Rattle.std.specs.Fmt.{decimal}
use lib.Chars.{codes}
use Rattle.std.proofs.Common.{sym, ap, ◌∙◌}
use Rattle.std.proofs.lemmas.List.Folds.{flat_map-map}
use Rattle.ja_graph.specs.declared.program.Program.{Program}
use Rattle.ja_rows.specs.declared.table.Edge.{Edge}
use Rattle.ja_rows.specs.Listed.{edges_of}
use Rattle.ja_table.specs.declared.table.ATable.{ATable}
use Rattle.ja_table.specs.declared.table.CallEdge.{CallEdge}
use Rattle.ja_table.specs.Order.{edge_of}
use Rattle.ja_table.specs.Tables.{table_of, Fits}
use Rattle.ja_table.proofs.ListedEdges.{edges_count, edges_listed}
use Rattle.ja_report.specs.Report.{edge_text, edges_text}

pub edges_text_listed : (p : Program) (t : ATable) → Fits p t
    → edges_text p (edges_of p (table_of t)) ≡ codes "edges " ++ decimal (vec_len t.edges)
    ++ codes "\n" ++ flat_map (λ (e : CallEdge). edge_text p e.edge ++ codes "\n") t.edges.items
unfolding edges_text
edges_text_listed p t fits =
    let lines : List Edge → List ℕ = flat_map (λ (e : Edge). edge_text p e ++ codes "\n") in
    ap (λ (n : ℕ). codes "edges " ++ decimal n ++ codes "\n" ++ lines (edges_of p (table_of t)))
    (sym (edges_count p t fits))
    ∙ ap (λ (ls : List ℕ). codes "edges " ++ decimal (vec_len t.edges) ++ codes "\n" ++ ls)
    (ap lines (edges_listed p t fits)
    ∙ flat_map-map (λ (e : Edge). edge_text p e ++ codes "\n") edge_of t.edges.items)
