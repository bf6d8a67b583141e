use Rattle.std.proofs.Common.{◌≡◌, ◌++◌, take}
use Rattle.std.specs.List.{flat_map}
use Rattle.ja_table.specs.declared.table.CallEdge.{CallEdge}
use Rattle.ja_report.specs.Report.{edge_sites}
use Rattle.ja_report.proofs.naming.name_edges.Given as goal

abbrev pub invariant-loop-kept : goal.invariant-loop-kept
invariant-loop-kept l =
    l.named.items ≡ l.initial.named.items ++ flat_map (λ (e : CallEdge). edge_sites e.edge)
    (take l.kept-index l.edges)
