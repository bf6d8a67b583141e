use Rattle.std.proofs.Common.{sym, ap, ◌∙◌}
use Rattle.std.proofs.lemmas.Result.{IfOk-weaker}
use Rattle.ja_graph.specs.declared.node.Node.{Node}
use Rattle.ja_abstract.specs.AbstractValue.{of_label}
use Rattle.ja_abstract.specs.Composed.{renamed_value}
use Rattle.ja_astate.specs.State.{state_of}
use Rattle.ja_value.specs.Value.{value_of}
use Rattle.ja_flow.specs.Flow.{caller_node}
use Rattle.ja_flow.specs.code.Back.{returned_value}
use Rattle.ja_flow.proofs.Exits.{value_returned}
use Rattle.ja_flow.proofs.back.returned_value.Goals as goal

pub returns-in-New : goal.returns-in-New
returns-in-New c =
    let k = c.args.caller.now in
    let this =
    renamed_value (state_of c.args.exit.now).mask (of_label k.edge.callee.receiver) in
    IfOk-weaker c.constructed.result _ _ (λ v is. is
    ∙ ap (λ (n : Node). returned_value n this (value_of c.args.value.now)) (sym c.in-New.is))
    c.constructed.ensures

pub returns-in_default : goal.returns-in_default
returns-in_default c =
    let k = c.args.caller.now in
    let this =
    renamed_value (state_of c.args.exit.now).mask (of_label k.edge.callee.receiver) in
    IfOk-weaker c.copy.result _ _ (λ v is. is
    ∙ value_returned (caller_node k) this (value_of c.args.value.now) c.in_default.not-New)
    c.copy.ensures
