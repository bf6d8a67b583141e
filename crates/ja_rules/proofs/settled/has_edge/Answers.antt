use Rattle.std.proofs.Common.{◌∙◌, sym}
use Rattle.ja_table.proofs.TableLemmas.{edge_told}
use Rattle.ja_rules.proofs.settled.has_edge.Goals as goal

pub returns : goal.returns
returns c =
    c.is_some.ensures
    ∙ sym (edge_told c.args.program.now c.args.table.now c.args.edge.now c.place_of_edge.result
    c.requires c.place_of_edge.ensures.found c.place_of_edge.ensures.within)
