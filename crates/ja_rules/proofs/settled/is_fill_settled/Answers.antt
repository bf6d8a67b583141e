use Rattle.std.proofs.Common.{subst}
use Rattle.ja_rows.specs.Table.{effects_fill}
use Rattle.ja_table.specs.Tables.{table_of}
use Rattle.ja_rules.specs.code.Filling.{IsFilled}
use Rattle.ja_rules.proofs.Lent.{edge_fits}
use Rattle.ja_rules.proofs.SettledItems.{fill_settled}
use Rattle.ja_rules.proofs.Settling.{none_told}
use Rattle.ja_table.proofs.Told.{told_some}
use Rattle.ja_rules.proofs.VisitEffects.{none_visited}
use Rattle.ja_rules.proofs.settled.is_fill_settled.Goals as goal

pub returns-in_default : goal.returns-in_default
returns-in_default c =
    let p = c.args.program.now in
    let t = table_of c.args.table.now in
    let e = c.args.edge in
    told_some (none_visited p t e.caller e.node (effects_fill t e)
    (subst (IsFilled p t e) c.in_default.is c.in_ok-values.ensures))

pub has_demands-is_demanded-requires-clause-ordered : goal.has_demands-is_demanded-requires-clause-ordered
has_demands-is_demanded-requires-clause-ordered c = c.requires.fits.ordered

pub has_demands-is_demanded-requires-clause-context : goal.has_demands-is_demanded-requires-clause-context
has_demands-is_demanded-requires-clause-context c =
    (edge_fits c.args.program.now c.args.table.now c.args.edge c.requires.fits
    c.requires.item).caller

pub returns : goal.returns
returns c =
    let p = c.args.program.now in
    let t = table_of c.args.table.now in
    let e = c.args.edge in
    let f = c.in-Some.field-0 in
    fill_settled p t e f c.is_empty.result c.has_demands-is_demanded.result
    (subst (IsFilled p t e) c.in-Some.is c.in_ok-values.ensures)
    (none_told f.values.items _ c.is_empty.result f.values.ok.0 c.is_empty.ensures)
    c.has_demands-is_demanded.ensures
