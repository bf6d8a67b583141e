use Rattle.std.proofs.Common.{arith, ◌<◌, sym, ◌∙◌}
use Rattle.std.proofs.lemmas.Result.{IfOk-weaker}
use Rattle.std.specs.Prelude.{vec_len}
use Rattle.ja_value.specs.Value.{value_of}
use Rattle.ja_flow.proofs.Entries.{element_given, later_parameter}
use Rattle.ja_flow.proofs.entering.later_register.Goals as goal

pub returns-then-number-parameters : goal.returns-then-number-parameters
returns-then-number-parameters c =
    let kept = c.args.given.now.parameters in
    let n = vec_len kept in
    let within : c.args.number < n = omega arith in
    IfOk-weaker c.copy.result _ _ (λ v is g are. later_parameter n g c.args.number (value_of v)
    within (is ∙ element_given value_of g.parameter kept.items n c.args.number c.index.result.now
    are.parameters_are (sym kept.ok.0) within c.index.ensures)) c.copy.ensures
