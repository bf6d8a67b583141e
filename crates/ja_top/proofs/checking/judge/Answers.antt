use Rattle.std.proofs.Common.{refl, subst}
use Rattle.ja_table.specs.Tables.{table_of}
use Rattle.ja_check.specs.Check.{Explains}
use Rattle.ja_top.proofs.Judging.{all_accepted, all_ok, unclosed, unopened}
use Rattle.ja_top.proofs.checking.judge.Goals as goal

pub returns-in-Ok : goal.returns-in-Ok
returns-in-Ok c =
    all_accepted c.args.certificate (table_of c.args.certificate.table) c.deref.result.now
    c.accept.result refl c.deref.ensures.value c.accept.ensures

pub returns-in-Err-NotOpen : goal.returns-in-Err-NotOpen
returns-in-Err-NotOpen c =
    let told = subst (Explains c.args.certificate.program (table_of c.args.certificate.table))
    c.in-Err-NotOpen.field-0-is c.in-Err-NotOpen.ensures.explained in
    all_ok _ _ c.explain_opening.result (λ a. unopened c.args.certificate a told)
    c.explain_opening.ensures

pub returns-in-Err-NotClosed : goal.returns-in-Err-NotClosed
returns-in-Err-NotClosed c =
    let told = subst (Explains c.args.certificate.program (table_of c.args.certificate.table))
    c.in-Err-NotClosed.field-0-is c.in-Err-NotClosed.ensures.explained in
    all_ok _ _ c.explain_item.result
    (λ a. unclosed c.args.certificate a c.in-Err-NotClosed.item told.0 told.1)
    c.explain_item.ensures
