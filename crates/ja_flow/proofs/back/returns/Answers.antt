use Rattle.std.proofs.Common.{◌≡◌, ◌<◌, sym, subst, ap, ◌∙◌, vec_len}
use Rattle.std.proofs.lemmas.Result.{IfOk-weaker}
use Rattle.std.specs.Option.{IfSome}
use Rattle.ja_base.specs.declared.ids.Reg.{Reg}
use Rattle.ja_abstract.specs.AbstractValue.{of_label}
use Rattle.ja_abstract.specs.Composed.{composed, renamed_value}
use Rattle.ja_rows.specs.Calls as calls
use Rattle.ja_rows.specs.Out.{sets_in}
use Rattle.ja_rows.specs.Table.{point}
use Rattle.ja_astate.specs.State.{state_of}
use Rattle.ja_value.specs.Value.{value_of}
use Rattle.ja_flow.specs.Flow.{caller_node, caller_view}
use Rattle.ja_flow.specs.code.Back.{returned_value}
use Rattle.ja_flow.proofs.AtNode.{destination_within}
use Rattle.ja_flow.proofs.Exits.{returned_to, returned_nowhere}
use Rattle.ja_flow.proofs.Giving.{given_none, given_as}
use Rattle.ja_flow.proofs.back.returns.Goals as goal

pub returns-in_default : goal.returns-in_default
returns-in_default c =
    let k = c.args.caller.now in
    let w = caller_view k in
    let exit = state_of c.args.exit.now in
    let a = composed w.program
    (calls.calling_state w (caller_node k) k.edge.callee.function.0) exit in
    given_as k _ _ c.args.states.now c.args.states.now (returned_nowhere w a k.info.now
    (renamed_value exit.mask (of_label k.edge.callee.receiver)) (exit.register c.args.src.0)
    (caller_node k) (sym c.in_default.ensures)) (given_none k c.args.states.now)

pub sets-requires-clause-dst : goal.sets-requires-clause-dst
sets-requires-clause-dst c =
    let k = c.args.caller.now in
    subst (λ o. IfSome o (λ (d : Reg). d.0 < vec_len k.reader.state.now.registers))
    (sym c.in-Some.ensures)
    (destination_within k.reader.program.now (point k.edge.caller k.edge.node k.info.now)
    k.reader.state.now c.requires.caller.at_node)

pub sets-requires-clause-sites : goal.sets-requires-clause-sites
sets-requires-clause-sites c =
    c.requires.caller.at_node.state_is.heap.sites ∙ sym c.requires.exit.heap.sites

pub sets-requires-clause-names : goal.sets-requires-clause-names
sets-requires-clause-names c =
    c.requires.caller.at_node.state_is.heap.names ∙ sym c.requires.exit.heap.names

pub returns : goal.returns
returns c =
    let k = c.args.caller.now in
    let w = caller_view k in
    let n = caller_node k in
    let exit = state_of c.args.exit.now in
    let this = renamed_value exit.mask (of_label k.edge.callee.receiver) in
    let a = composed w.program (calls.calling_state w n k.edge.callee.function.0) exit in
    let v = exit.register c.args.src.0 in
    let value_is : value_of c.in_ok-value.value ≡ returned_value n this v =
    c.in_ok-value.ensures ∙ ap (returned_value n this) c.register.ensures in
    IfOk-weaker c.sets.result _ _ (λ _ given. given_as k _ _ c.args.states.now c.sets.new.states
    ((λ i. sets_in w (composed w.program (c.requires.calling.state i) exit) c.in-Some.dst
    (value_is i) k.info.now.next)
    ∙ returned_to w a k.info.now this v n c.in-Some.dst (sym c.in-Some.ensures)) given)
    c.sets.ensures
