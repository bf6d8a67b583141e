use Rattle.std.proofs.Common.{refl}
use Rattle.std.proofs.lemmas.Result.{err_from_is_err_and}
use Rattle.ja_cert_json.specs.View.{view}
use Rattle.ja_cert_read.specs.Certified.{HasData}
use Rattle.ja_cert.specs.Wrong.{late_fields_wrong, wrong_before_loading}
use Rattle.ja_cert_read.specs.code.Whole.{data_in}
use Rattle.ja_cert_read.proofs.ContextsRight.{contexts_placed}
use Rattle.ja_cert_read.proofs.WholeRead.{certificate_read}
use Rattle.ja_cert_read.proofs.WholeSteps.{early_told, late_told, unloaded_told, unread_told}
use Rattle.ja_cert_read.proofs.reading.read.Goals as goal
use Rattle.ja_cert_read.proofs.reading.read.Goals.{In-Ok}

has_data : (c : In-Ok) → HasData c.args.text.now (view c.in_ok-value.value)
has_data c = record { data_is = c.in_ok-value.ensures.data; right = c.in-Ok.ensures.0 }

pub returns-in_err-value-clause-fault : goal.returns-in_err-value-clause-fault
returns-in_err-value-clause-fault c =
    let p = err_from_is_err_and c.from_residual.result c.from_residual.ensures.1 in
    rw (p.1, p.2) (unread_told c.args.text.now _ c.in_err-value.ensures.fault)

pub returns-in-Err-clause-fault : goal.returns-in-Err-clause-fault
returns-in-Err-clause-fault c =
    let json = view c.in_ok-value.value in
    early_told c.args.text.now json c.told.result c.in_ok-value.ensures.data
    (c.told.ensures (wrong_before_loading json) c.in-Err.ensures)

pub returns-in_err-program-clause-fault : goal.returns-in_err-program-clause-fault
returns-in_err-program-clause-fault c =
    let p = err_from_is_err_and c.from_residual-in_err-program.result
    c.from_residual-in_err-program.ensures.1 in
    rw (p.1, p.2)
    (unloaded_told c.args.text.now (view c.in_ok-value.value) c.in-Ok.head _
    (has_data (goal.at.returns-in_err-program-clause-fault c).In-Ok) c.in-Ok.ensures.1
    c.in_err-program.ensures.fault)

pub returns-in-Err-read_body-clause-fault : goal.returns-in-Err-read_body-clause-fault
returns-in-Err-read_body-clause-fault c =
    let p = c.in_ok-program.program in
    late_told c.args.text.now (view c.in_ok-value.value) c.in-Ok.head p
    c.told-in-Err-read_body.result
    (has_data (goal.at.returns-in-Err-read_body-clause-fault c).In-Ok) c.in-Ok.ensures.1
    c.in_ok-program.ensures.program
    (c.told-in-Err-read_body.ensures (late_fields_wrong p (data_in c.in-Ok.head))
    c.in-Err-read_body.ensures)

pub table_with-requires-clause-right : goal.table_with-requires-clause-right
table_with-requires-clause-right c =
    contexts_placed c.in_ok-program.program c.in-Ok-read_body.body.contexts.items
    c.in-Ok-read_body.ensures.1.contexts_right c.in-Ok-read_body.ensures.1.contexts_have

pub returns-clause-ok : goal.returns-clause-ok
returns-clause-ok c =
    certificate_read c.args.text.now (view c.in_ok-value.value) c.in-Ok.head
    c.in-Ok-read_body.body _ c.in_ok-value.ensures.data c.in-Ok.ensures.0 c.in-Ok.ensures.1
    c.in_ok-program.ensures.program c.in_ok-program.ensures.signatures c.in-Ok-read_body.ensures.0
    c.in-Ok-read_body.ensures.1 c.in_ok-table.ensures.contexts
    (λ i. (c.in_ok-table.ensures.edges i).items) refl
