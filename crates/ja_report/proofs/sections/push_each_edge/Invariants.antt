use Rattle.std.proofs.Common.{◌≡◌, ◌++◌, take}
use Rattle.std.specs.List.{flat_map}
use lib.Chars.{codes}
use Rattle.ja_table.specs.declared.table.CallEdge.{CallEdge}
use Rattle.ja_report.specs.Report.{edge_text}
use Rattle.ja_report.proofs.sections.push_each_edge.Given as goal

abbrev pub invariant-loop-kept : goal.invariant-loop-kept
invariant-loop-kept l =
    l.text.items ≡ l.initial.text.items
    ++ flat_map (λ (e : CallEdge). edge_text l.program e.edge ++ codes "\n")
    (take l.kept-index l.edges)
