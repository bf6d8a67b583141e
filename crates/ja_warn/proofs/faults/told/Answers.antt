-- The warnings of what is held of all nodes are the table's, and their values and names are there.
use Rattle.std.proofs.Common.{List, sym, ◌∙◌, subst}
use Rattle.std.specs.List.{AllByRecursion}
use Rattle.ja_rows.specs.Warning.{AreWarnings}
use Rattle.ja_sound.specs.Sound.{WarnsOfFaults}
use Rattle.ja_table.specs.Tables.{table_of}
use Rattle.ja_warn.specs.declared.reached.Told.{Told}
use Rattle.ja_warn.specs.Told.{warnings_in, IsNamed, IsTold}
use Rattle.ja_warn.specs.code.Faults.{told_in}
use Rattle.ja_warn.proofs.Listed.{names_told, values_told, warnings_told}
use Rattle.ja_warn.proofs.faults.told.Goals as goal

pub returns-clause-warnings : goal.returns-clause-warnings
returns-clause-warnings c =
    let p = c.args.program.now in
    let t = table_of c.args.table.now in
    subst (λ (xs : List Told). AreWarnings p t (warnings_in xs))
    (sym (c.from_vec.ensures ∙ c.in_ok-told.ensures.told))
    (warnings_told p c.args.table.now c.requires.fits c.in_ok-found.found
    c.in_ok-told.ensures.ordered c.in_ok-found.ensures)

pub returns-clause-values : goal.returns-clause-values
returns-clause-values c =
    let p = c.args.program.now in
    let t = table_of c.args.table.now in
    subst (AllByRecursion (IsTold p t)) (sym (c.from_vec.ensures ∙ c.in_ok-told.ensures.told))
    (values_told p c.args.table.now c.requires.fits c.in_ok-found.found
    c.in_ok-told.ensures.ordered c.in_ok-found.ensures)

pub returns-clause-names : goal.returns-clause-names
returns-clause-names c =
    let p = c.args.program.now in
    let t = table_of c.args.table.now in
    subst (AllByRecursion (IsNamed p t)) (sym (c.from_vec.ensures ∙ c.in_ok-told.ensures.told))
    (names_told p c.args.table.now c.requires.fits c.in_ok-found.found
    c.in_ok-told.ensures.ordered c.in_ok-found.ensures)

pub returns-clause-faults : goal.returns-clause-faults
returns-clause-faults c closed =
    let p = c.args.program.now in
    let t = table_of c.args.table.now in
    subst (λ (xs : List Told). WarnsOfFaults p (warnings_in xs))
    (sym (c.from_vec.ensures ∙ c.in_ok-told.ensures.told))
    (c.warned_of_faults.ensures p t (warnings_in (told_in c.in_ok-found.found)) c.requires.program
    closed (warnings_told p c.args.table.now c.requires.fits c.in_ok-found.found
    c.in_ok-told.ensures.ordered c.in_ok-found.ensures))
