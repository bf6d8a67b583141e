-- By the state and the place that are found.
use Rattle.std.proofs.Common.{◌∙◌, subst, sym}
use Rattle.ja_rows.specs.declared.table.Item.{Item}
use Rattle.ja_rows.specs.Table.{IsItem}
use Rattle.ja_table.specs.Tables.{table_of}
use Rattle.ja_solve.specs.code.Sweeps.{program_of}
use Rattle.ja_table.proofs.Found.{at_some}
use Rattle.ja_rules.proofs.Lent.{item_there}
use Rattle.ja_solve.proofs.Turns.{edge_item}
use Rattle.ja_solve.proofs.solver.Work.has_item.Goals as goal

pub returns-in-Some : goal.returns-in-Some
returns-in-Some c = λ some.
    let s = c.args.self.now in
    subst (λ (i : Item). IsItem (program_of s) (table_of s.table) i) (sym c.in-Step.is)
    (item_there (program_of s) s.table c.in-Step.context c.in-Some.own.now
    (at_some s.table c.in-Step.context c.at.result c.at.ensures c.requires.fits.ordered
    c.in-Some.own c.in-Some.is) c.requires.fits c.in-Step.node c.state.result c.state.ensures
    (sym c.is_some.ensures ∙ some))

pub returns-in-Fill : goal.returns-in-Fill
returns-in-Fill c = λ some.
    let s = c.args.self.now in
    subst (λ (i : Item). IsItem (program_of s) (table_of s.table) i) (sym c.in-Fill.is)
    (edge_item s.table c.in-Fill.edge c.place_of_edge.result
    (c.place_of_edge.ensures.found c.requires.fits.edges_ordered) c.place_of_edge.ensures.within
    (sym c.is_some-in-Fill.ensures ∙ some))

pub returns-in-Back : goal.returns-in-Back
returns-in-Back c = λ some.
    let s = c.args.self.now in
    subst (λ (i : Item). IsItem (program_of s) (table_of s.table) i) (sym c.in-Back.is)
    (edge_item s.table c.in-Back.edge c.place_of_edge-in-Back.result
    (c.place_of_edge-in-Back.ensures.found c.requires.fits.edges_ordered)
    c.place_of_edge-in-Back.ensures.within (sym c.is_some-in-Back.ensures ∙ some))
