use Rattle.std.proofs.Common.{sym, ◌∙◌}
use Rattle.std.proofs.lemmas.Result.{IfOk-weaker}
use Rattle.ja_astate.specs.Looks.{view_of}
use Rattle.ja_value.specs.Value.{value_of}
use Rattle.ja_astate.proofs.Throws.{none_throws, accepted_throw}
use Rattle.ja_astate.proofs.puts.put_may_throw.Goals as goal

pub returns-then-not-may_be_wrong : goal.returns-then-not-may_be_wrong
returns-then-not-may_be_wrong c =
    none_throws (view_of c.args.reader.now) c.args.labels.now c.args.keys.now
    (value_of c.args.value.now)
    (sym c.in_ok-may_be_wrong.ensures ∙ c.if-not-may_be_wrong.true)

pub returns : goal.returns
returns c =
    IfOk-weaker c.some_accept.result _ _ (λ _ is. is
    ∙ accepted_throw (view_of c.args.reader.now) c.args.labels.now c.args.keys.now
    (value_of c.args.value.now)
    (sym c.in_ok-may_be_wrong.ensures ∙ c.if-not-may_be_wrong.false)) c.some_accept.ensures
