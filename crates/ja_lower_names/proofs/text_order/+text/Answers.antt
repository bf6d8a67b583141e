use Rattle.std.proofs.lemmas.Result.{on_ok_weaker}
use Rattle.ja_lower_names.proofs.TextOrderLemmas.{of_if, of_for_in, of_try}
use Rattle.ja_lower_names.proofs.text_order.+text.Goals as goal

pub add_statement-returns-in_ok-add_statement-in-If :
    goal.add_statement-returns-in_ok-add_statement-in-If
add_statement-returns-in_ok-add_statement-in-If t c = on_ok_weaker c.add_otherwise.result (λ h.
    let e = of_if c.args.parts.now c.in-If.condition c.in-If.then c.in-If.otherwise c.in-If.place in
    cc (c.in_ok-add_expression-in-If.ensures, c.in_ok-add_statement-in-If.ensures))
    c.add_otherwise.ensures

pub add_statement-returns-in_ok-add_expression-in-ForIn :
    goal.add_statement-returns-in_ok-add_expression-in-ForIn
add_statement-returns-in_ok-add_expression-in-ForIn t c =
    on_ok_weaker c.add_statement-in-ForIn.result (λ h.
    let e = of_for_in c.args.parts.now c.in-ForIn.target c.in-ForIn.object c.in-ForIn.body
    c.in-ForIn.place in
    cc (c.in_ok-add_target-in-ForIn.ensures, c.in_ok-add_expression-in-ForIn.ensures))
    c.add_statement-in-ForIn.ensures

pub add_statement-returns-in_ok-add_catch-in-Try : goal.add_statement-returns-in_ok-add_catch-in-Try
add_statement-returns-in_ok-add_catch-in-Try t c = on_ok_weaker c.add_finally.result (λ h.
    let e = of_try c.args.parts.now c.in-Try.block c.in-Try.catch c.in-Try.finally c.in-Try.place in
    cc (c.in_ok-add_statements-in-Try.ensures, c.in_ok-add_catch-in-Try.ensures))
    c.add_finally.ensures
