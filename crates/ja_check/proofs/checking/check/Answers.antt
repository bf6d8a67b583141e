-- The program's own context is reached where the table has its opening, so the table fits.
use Rattle.std.proofs.Common.{◌∙◌, subst, sym}
use Rattle.std.specs.Prelude.{All, IfErr}
use Rattle.std.proofs.lemmas.Result.{on_ok_weaker}
use Rattle.ja_graph.specs.declared.program.Program.{Program}
use Rattle.ja_graph.specs.WellFormed.{IsWellFormed}
use Rattle.ja_rows.specs.Table.{IsItem}
use Rattle.ja_table.specs.Tables.{table_of, Fits}
use Rattle.ja_rules.specs.code.Settled.{IsSettled}
use Rattle.ja_check.specs.code.Checking.{StopsAt}
use Rattle.ja_check.proofs.ItemLemmas.{all_items, closed_by, explained_by}
use Rattle.ja_check.proofs.Opening.{fits_opened, opening_reached}
use Rattle.ja_check.proofs.checking.check.Goals as goal

pub items-requires-clause-fits : goal.items-requires-clause-fits
items-requires-clause-fits c =
    let opening = c.in_ok-has_opening.ensures.0 c.if-not-branch.false in
    fits_opened c.args.program.now c.args.table.now c.requires.fits
    (opening_reached c.args.program.now c.args.table.now opening)

pub test_all-requires-clause-program : goal.test_all-requires-clause-program
test_all-requires-clause-program c =
    subst IsWellFormed (sym c.in_ok-analysis.ensures) c.requires.program

pub test_all-requires-clause-fits : goal.test_all-requires-clause-fits
test_all-requires-clause-fits c =
    let opening = c.in_ok-has_opening.ensures.0 c.if-not-branch.false in
    subst (λ (q : Program). Fits q c.args.table.now) (sym c.in_ok-analysis.ensures)
    (fits_opened c.args.program.now c.args.table.now c.requires.fits
    (opening_reached c.args.program.now c.args.table.now opening))

pub test_all-requires-clause-items : goal.test_all-requires-clause-items
test_all-requires-clause-items c =
    let opening = c.in_ok-has_opening.ensures.0 c.if-not-branch.false in
    subst (λ (q : Program). All (IsItem q (table_of c.args.table.now)) c.deref.result.now)
    (sym c.in_ok-analysis.ensures)
    (all_items c.args.program.now c.args.table.now
    (fits_opened c.args.program.now c.args.table.now c.requires.fits
    (opening_reached c.args.program.now c.args.table.now opening)) c.deref.result.now
    (c.deref.ensures.value ∙ c.in_ok-items.ensures))

pub returns-clause-closed : goal.returns-clause-closed
returns-clause-closed c =
    let opening = c.in_ok-has_opening.ensures.0 c.if-not-branch.false in
    on_ok_weaker c.test_all.result
    (λ settled. closed_by c.args.program.now c.args.table.now
    (fits_opened c.args.program.now c.args.table.now c.requires.fits
    (opening_reached c.args.program.now c.args.table.now opening)) opening c.deref.result.now
    (c.deref.ensures.value ∙ c.in_ok-items.ensures)
    (subst (λ (q : Program). All (IsSettled q (table_of c.args.table.now)) c.deref.result.now)
    c.in_ok-analysis.ensures settled)) c.test_all.ensures.settled

pub returns-clause-fits : goal.returns-clause-fits
returns-clause-fits c =
    let opening = c.in_ok-has_opening.ensures.0 c.if-not-branch.false in
    on_ok_weaker c.test_all.result
    (λ settled. fits_opened c.args.program.now c.args.table.now c.requires.fits
    (opening_reached c.args.program.now c.args.table.now opening)) c.test_all.ensures.settled

pub returns-clause-explained : goal.returns-clause-explained
returns-clause-explained c =
    let opening = c.in_ok-has_opening.ensures.0 c.if-not-branch.false in
    explained_by c.args.program.now (table_of c.args.table.now) opening c.deref.result.now
    (c.deref.ensures.value ∙ c.in_ok-items.ensures) c.test_all.result
    (subst (λ (q : Program). IfErr c.test_all.result (StopsAt q (table_of c.args.table.now)
    c.deref.result.now)) c.in_ok-analysis.ensures c.test_all.ensures.fault)
