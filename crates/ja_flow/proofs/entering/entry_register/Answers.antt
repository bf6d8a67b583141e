use Rattle.std.proofs.Common.{sym, ap, ◌∙◌}
use Rattle.std.proofs.lemmas.Result.{IfOk-weaker}
use Rattle.std.specs.Prelude.{vec_len}
use Rattle.ja_abstract.specs.AbstractValue.{of_label}
use Rattle.ja_value.specs.Value.{value_of}
use Rattle.ja_flow.proofs.Entries.{entry_at, entry_later}
use Rattle.ja_flow.proofs.entering.entry_register.Goals as goal

pub returns-then-register-2 : goal.returns-then-register-2
returns-then-register-2 c =
    let called = c.args.called.now in
    IfOk-weaker c.copy.result _ _ (λ v is g are. is
    ∙ ap (entry_at (vec_len c.args.given.now.parameters) (of_label c.args.receiver)
    (value_of called.chain) (value_of called.callee) g) (sym c.if-register-2.true))
    c.copy.ensures

pub returns-then-register-5 : goal.returns-then-register-5
returns-then-register-5 c =
    let called = c.args.called.now in
    IfOk-weaker c.later_register.result _ _ (λ v is g are. is g are
    ∙ entry_later (vec_len c.args.given.now.parameters) (of_label c.args.receiver)
    (value_of called.chain) (value_of called.callee) g c.args.register c.if-register-5.true)
    c.later_register.ensures
