use Rattle.std.proofs.Common.{subst, sym}
use Rattle.std.specs.Prelude.{IsTrue}
use Rattle.ja_rows.specs.declared.table.Item.TheVariants.{Fill}
use Rattle.ja_rows.specs.Table.{effects_fill, Table}
use Rattle.ja_table.specs.Tables.{table_of}
use Rattle.ja_rules.specs.code.Filling.{IsFilled}
use Rattle.ja_rules.proofs.Lent.{edge_fits, entry_pairs}
use Rattle.ja_table.proofs.SameMeaning.{keys_both, keys_same}
use Rattle.ja_rules.proofs.Steps.{fill_demands, fill_done}
use Rattle.ja_rules.proofs.VisitEffects.{none_visited}
use Rattle.ja_rules.proofs.Visiting.{values_of_pairs, visit_nothing}
use Rattle.ja_rules.proofs.visits.visit_fill.Goals as goal

pub returns-in_err-values-clause-kept : goal.returns-in_err-values-clause-kept
returns-in_err-values-clause-kept c = keys_same c.args.table.now

pub returns-in_default-clause-visited : goal.returns-in_default-clause-visited
returns-in_default-clause-visited c =
    let p = c.args.program.now in
    let t = table_of c.args.table.now in
    let e = c.args.edge in
    visit_nothing p (Fill e) t (none_visited p t e.caller e.node (effects_fill t e)
    (subst (IsFilled p t e) c.in_default.is c.in_ok-values.ensures))

pub returns-in_default-clause-kept : goal.returns-in_default-clause-kept
returns-in_default-clause-kept c = keys_same c.args.table.now

pub set_values_at-requires-clause-context : goal.set_values_at-requires-clause-context
set_values_at-requires-clause-context c =
    (edge_fits c.args.program.now c.args.table.now c.args.edge c.requires.fits
    c.requires.item).callee

pub returns-in_err-is_filled-clause-kept : goal.returns-in_err-is_filled-clause-kept
returns-in_err-is_filled-clause-kept c = c.set_values_at.ensures.kept

pub demand_at-requires-clause-ordered : goal.demand_at-requires-clause-ordered
demand_at-requires-clause-ordered c =
    let p = c.args.program.now in
    let t = c.args.table.now in
    let e = c.args.edge in
    let h = subst (IsFilled p (table_of t) e) c.in-Some.is c.in_ok-values.ensures in
    (c.in_ok-is_filled.ensures.fits p (values_of_pairs p ((table_of t).entry e.callee)
    c.in-Some.field-0.values.items _ h.3 (entry_pairs p t e.callee c.requires.fits))
    c.requires.fits).ordered

pub demand_at-requires-clause-context : goal.demand_at-requires-clause-context
demand_at-requires-clause-context c =
    subst (λ (u : Table). IsTrue (u.context c.args.edge.caller))
    (sym c.in_ok-is_filled.ensures.set)
    (edge_fits c.args.program.now c.args.table.now c.args.edge c.requires.fits
    c.requires.item).caller

pub returns-in_err-is_demanded-clause-kept : goal.returns-in_err-is_demanded-clause-kept
returns-in_err-is_demanded-clause-kept c =
    keys_both c.args.table.now c.set_values_at.new.table c.demand_at.new.table c.set_values_at.ensures.kept
    c.demand_at.ensures.kept

pub returns-clause-visited : goal.returns-clause-visited
returns-clause-visited c =
    let p = c.args.program.now in
    let t = table_of c.args.table.now in
    let e = c.args.edge in
    let h = subst (IsFilled p t e) c.in-Some.is c.in_ok-values.ensures in
    fill_done p c.requires.program t e (table_of c.set_values_at.new.table)
    (table_of c.demand_at.new.table) c.in-Some.field-0 c.in_ok-is_filled.is_filled
    c.in_ok-is_demanded.is_demanded h c.in_ok-is_filled.ensures.set c.in_ok-is_filled.ensures.told
    c.in_ok-is_demanded.ensures.demanded c.in_ok-is_demanded.ensures.changed
    c.in_ok-is_demanded.ensures.same

pub returns-clause-kept : goal.returns-clause-kept
returns-clause-kept c =
    keys_both c.args.table.now c.set_values_at.new.table c.demand_at.new.table c.set_values_at.ensures.kept
    c.demand_at.ensures.kept

pub returns-clause-fits : goal.returns-clause-fits
returns-clause-fits c =
    let p = c.args.program.now in
    let t = c.args.table.now in
    let e = c.args.edge in
    let h = subst (IsFilled p (table_of t) e) c.in-Some.is c.in_ok-values.ensures in
    let pairs = entry_pairs p t e.callee c.requires.fits in
    c.in_ok-is_demanded.ensures.fits p
    (fill_demands p c.requires.program (table_of t) e c.in-Some.field-0 h
    (λ l k some. (pairs l k some).1))
    (c.in_ok-is_filled.ensures.fits p (values_of_pairs p ((table_of t).entry e.callee)
    c.in-Some.field-0.values.items _ h.3 pairs) c.requires.fits)
