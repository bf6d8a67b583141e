-- Each statement is listed as what was called for it lists.
use Rattle.ja_lower_statements.specs.code.Standing.{around_of}
use Rattle.ja_lower_statements.proofs.StatementLemmas.{does_block, does_variables, does_empty, does_expression, does_if_alone, does_do, does_while, does_for, does_for_in, does_continue, does_break, does_return, does_labelled, does_switch, does_throw, does_function}
use Rattle.ja_lower_statements.proofs.+statements.Goals as goal

pub statement_list::statement-returns-in-Block : goal.statement_list::statement-returns-in-Block
statement_list::statement-returns-in-Block t c =
    let e = does_block c.in-Block.body c.in-Block.place (around_of c.args.around.now) c.args.base
    c.args.draft.now in
    let h = rw c.as_slice.ensures at c.statements.ensures in
    rw (c.in-Block.is, e) h

pub statement_list::statement-returns-in-Variables :
    goal.statement_list::statement-returns-in-Variables
statement_list::statement-returns-in-Variables t c =
    let e = does_variables c.in-Variables.declarations c.in-Variables.place
    (around_of c.args.around.now) c.args.base c.args.draft.now in
    let h = rw c.as_slice-in-Variables.ensures at c.declare_all.ensures in
    rw (c.in-Variables.is, e) h

pub statement_list::statement-returns-in-Empty : goal.statement_list::statement-returns-in-Empty
statement_list::statement-returns-in-Empty t c =
    let e = does_empty c.in-Empty.place (around_of c.args.around.now) c.args.base
    c.args.draft.now in
    rw c.in-Empty.is e

pub statement_list::statement-returns-in-Expression :
    goal.statement_list::statement-returns-in-Expression
statement_list::statement-returns-in-Expression t c =
    let e = does_expression c.in-Expression.value c.in-Expression.place
    (around_of c.args.around.now) c.args.base c.args.draft.now in
    rw (c.in-Expression.is, e) c.evaluate.ensures

pub statement_list::statement-returns-in-None : goal.statement_list::statement-returns-in-None
statement_list::statement-returns-in-None t c =
    let e = does_if_alone c.in-If.condition c.in-If.then c.in-If.place (around_of c.args.around.now)
    c.args.base c.args.draft.now in
    let h = rw c.get.ensures at c.if_alone.ensures in
    rw (c.in-If.is, c.in-None.is, e) h

pub statement_list::statement-returns-in-Do : goal.statement_list::statement-returns-in-Do
statement_list::statement-returns-in-Do t c =
    let e = does_do c.in-Do.body c.in-Do.condition c.in-Do.place (around_of c.args.around.now)
    c.args.base c.args.draft.now in
    let h = rw c.get-in-Do.ensures at c.do_loop.ensures in
    rw (c.in-Do.is, e) h

pub statement_list::statement-returns-in-While : goal.statement_list::statement-returns-in-While
statement_list::statement-returns-in-While t c =
    let e = does_while c.in-While.condition c.in-While.body c.in-While.place
    (around_of c.args.around.now) c.args.base c.args.draft.now in
    let h = rw c.get-in-While.ensures at c.while_loop.ensures in
    rw (c.in-While.is, e) h

pub statement_list::statement-returns-in-For : goal.statement_list::statement-returns-in-For
statement_list::statement-returns-in-For t c =
    let e = does_for c.in-For.first c.in-For.condition c.in-For.update c.in-For.body c.in-For.place
    (around_of c.args.around.now) c.args.base c.args.draft.now in
    let h = rw c.get-in-For.ensures at c.for_loop.ensures in
    rw (c.in-For.is, e) h

pub statement_list::statement-returns-in-ForIn : goal.statement_list::statement-returns-in-ForIn
statement_list::statement-returns-in-ForIn t c =
    let e = does_for_in c.in-ForIn.target c.in-ForIn.object c.in-ForIn.body c.in-ForIn.place
    (around_of c.args.around.now) c.args.base c.args.draft.now in
    let h = rw (c.get-in-ForIn.ensures, c.get-in-ForIn-2.ensures) at c.for_in_loop.ensures in
    rw (c.in-ForIn.is, e) h

pub statement_list::statement-returns-in-Continue :
    goal.statement_list::statement-returns-in-Continue
statement_list::statement-returns-in-Continue t c =
    let e = does_continue c.in-Continue.label c.in-Continue.place (around_of c.args.around.now)
    c.args.base c.args.draft.now in
    rw (c.in-Continue.is, e) c.jump_out.ensures

pub statement_list::statement-returns-in-Break : goal.statement_list::statement-returns-in-Break
statement_list::statement-returns-in-Break t c =
    let e = does_break c.in-Break.label c.in-Break.place (around_of c.args.around.now) c.args.base
    c.args.draft.now in
    rw (c.in-Break.is, e) c.jump_out-in-Break.ensures

pub statement_list::statement-returns-in-Return : goal.statement_list::statement-returns-in-Return
statement_list::statement-returns-in-Return t c =
    let e = does_return c.in-Return.value c.in-Return.place (around_of c.args.around.now)
    c.args.base c.args.draft.now in
    rw (c.in-Return.is, e) c.return_from.ensures

pub statement_list::statement-returns-in-Labelled :
    goal.statement_list::statement-returns-in-Labelled
statement_list::statement-returns-in-Labelled t c =
    let e = does_labelled c.in-Labelled.label c.in-Labelled.body (around_of c.args.around.now)
    c.args.base c.args.draft.now in
    let h = rw c.get-in-Labelled.ensures at c.labelled.ensures in
    rw (c.in-Labelled.is, e) h

pub statement_list::statement-returns-in-Switch : goal.statement_list::statement-returns-in-Switch
statement_list::statement-returns-in-Switch t c =
    let e = does_switch c.in-Switch.value c.in-Switch.cases c.in-Switch.place
    (around_of c.args.around.now) c.args.base c.args.draft.now in
    let h = rw c.as_slice-in-Switch.ensures at c.switch.ensures in
    rw (c.in-Switch.is, e) h

pub statement_list::statement-returns-in-Throw : goal.statement_list::statement-returns-in-Throw
statement_list::statement-returns-in-Throw t c =
    let e = does_throw c.in-Throw.value c.in-Throw.place (around_of c.args.around.now) c.args.base
    c.args.draft.now in
    rw (c.in-Throw.is, e) c.throw.ensures

pub statement_list::statement-returns-in-Function :
    goal.statement_list::statement-returns-in-Function
statement_list::statement-returns-in-Function t c =
    let e = does_function c.in-Function.field-0 (around_of c.args.around.now) c.args.base
    c.args.draft.now in
    rw c.in-Function.is e
