use Rattle.std.proofs.Common.{◌∙◌, ◌++◌, List, ap}
use Rattle.std.specs.List.{flat_map}
use Rattle.ja_table.specs.declared.table.CallEdge.{CallEdge}
use Rattle.ja_report.specs.Report.{edge_sites}
use Rattle.ja_report.proofs.WholeLemmas.{sites_named}
use Rattle.ja_report.proofs.whole.lines_of.Goals as goal

pub returns-clause-named : goal.returns-clause-named
returns-clause-named c =
    let p = c.args.program.now in
    let t = c.args.table.now in
    let none = c.new-lines.result.named.items in
    let of_edges = λ (l : List CallEdge). flat_map (λ (e : CallEdge). edge_sites e.edge) l in
    sites_named p t c.args.visits.now c.requires.fits _ _ _ _ c.new-lines.ensures.named
    (c.in_ok-name_edges.ensures ∙ ap (λ l. none ++ of_edges l) c.deref.ensures.value)
    c.in_ok-push_contexts.ensures.named c.in_ok-name_items.ensures
