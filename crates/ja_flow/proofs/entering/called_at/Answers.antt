use Rattle.std.proofs.Common.{sym, ◌∙◌}
use Rattle.std.proofs.lemmas.Result.{IfOk-weaker}
use Rattle.ja_aheap.specs.Objects.{demands_in}
use Rattle.ja_astate.specs.Looks.{view_of}
use Rattle.ja_flow.proofs.Chains.{demanded_alone}
use Rattle.ja_flow.proofs.entering.called_at.Goals as goal

pub returns-then-is_conversion-clause-demands : goal.returns-then-is_conversion-clause-demands
returns-then-is_conversion-clause-demands c =
    IfOk-weaker c.converting.result _ _ (λ _ _. demanded_alone (view_of c.args.reader.now)
    c.args.node.now c.args.function.0 (sym c.is_conversion.ensures ∙ c.if-is_conversion.true)
    (demands_in c.args.demands.now)) c.converting.ensures.callee
