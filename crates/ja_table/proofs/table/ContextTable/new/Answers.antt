use Rattle.std.proofs.Common.{ap, length, subst, sym, ◌∙◌}
use Rattle.ja_base.specs.declared.ids.Context.{Context}
use Rattle.ja_graph.specs.Program.{nodes_of}
use Rattle.ja_table.specs.Tables.{IsContext}
use Rattle.ja_table.specs.code.Growing.{no_nodes}
use Rattle.ja_table.proofs.TableLemmas.{fits_new}
use Rattle.ja_table.proofs.table.ContextTable.new.Goals as goal

pub returns-clause-fits : goal.returns-clause-fits
returns-clause-fits c =
    let p = c.args.program.now in
    let is = c.from_parts.ensures.context in
    fits_new p c.from_parts.result (subst (IsContext p) (sym is) c.requires)
    (c.from_parts.ensures.nodes ∙ c.in_ok-nodes.ensures
    ∙ ap no_nodes (c.node_count.ensures
    ∙ ap (λ (x : Context). length (nodes_of p x.function)) (sym is)))
    (c.from_parts.ensures.entries ∙ c.new-entries.ensures)
