use Rattle.std.proofs.Common.{◌∙◌, sym}
use Rattle.ja_table.specs.Tables.{table_of}
use Rattle.ja_rules.proofs.Settling.{entry_telling}
use Rattle.ja_table.proofs.TableLemmas.{context_told, edge_told}
use Rattle.ja_rules.proofs.settled.has_entry.Goals as goal

pub has_state-requires-clause-state : goal.has_state-requires-clause-state
has_state-requires-clause-state c = c.requires.entry.state

pub has_demands-is_demanded-requires-clause-ordered : goal.has_demands-is_demanded-requires-clause-ordered
has_demands-is_demanded-requires-clause-ordered c = c.requires.fits.ordered

pub has_demands-is_demanded-requires-clause-context : goal.has_demands-is_demanded-requires-clause-context
has_demands-is_demanded-requires-clause-context c = c.requires.entry.caller

pub returns : goal.returns
returns c =
    let p = c.args.program.now in
    let t = c.args.table.now in
    let e = c.args.entry.now in
    entry_telling (table_of t) e c.is_some-is_reached.result c.in_ok-is_joined.is_joined
    c.has_demands-is_demanded.result c.is_some-is_called.result
    (context_told p t e.edge.callee c.place_of.result c.requires.fits c.place_of.ensures.found
    c.place_of.ensures.within ∙ sym c.is_some-is_reached.ensures) c.in_ok-is_joined.ensures
    c.has_demands-is_demanded.ensures
    (edge_told p t e.edge c.place_of_edge.result c.requires.fits c.place_of_edge.ensures.found
    c.place_of_edge.ensures.within ∙ sym c.is_some-is_called.ensures)
