use Rattle.std.proofs.Common.{◌≡◌, arith, sym, ◌∙◌}
use Rattle.std.proofs.lemmas.Result.{IfOk-weaker}
use Rattle.ja_machine.specs.Frames.{thrown}
use Rattle.ja_abstract.specs.Composed.{composed}
use Rattle.ja_rows.specs.Out.{sets_in}
use Rattle.ja_rows.specs.Table.{point}
use Rattle.ja_astate.specs.State.{state_of}
use Rattle.ja_value.specs.Value.{value_of}
use Rattle.ja_flow.specs.Flow.{caller_view}
use Rattle.ja_flow.proofs.AtNode.{fixed_within}
use Rattle.ja_flow.proofs.Giving.{given_as}
use Rattle.ja_flow.proofs.back.escapes.Goals as goal

pub sets-requires-clause-dst : goal.sets-requires-clause-dst
sets-requires-clause-dst c =
    let k = c.args.caller.now in
    omega (
      arith,
      fixed_within k.reader.program.now
          (point k.edge.caller k.edge.node k.info.now) k.reader.state.now c.requires.caller.at_node,
    )

pub sets-requires-clause-sites : goal.sets-requires-clause-sites
sets-requires-clause-sites c =
    c.requires.caller.at_node.state_is.heap.sites ∙ sym c.requires.exit.heap.sites

pub sets-requires-clause-names : goal.sets-requires-clause-names
sets-requires-clause-names c =
    c.requires.caller.at_node.state_is.heap.names ∙ sym c.requires.exit.heap.names

pub returns : goal.returns
returns c =
    let k = c.args.caller.now in
    let w = caller_view k in
    let exit = state_of c.args.exit.now in
    let value_is : value_of c.in_ok-value.value ≡ exit.register thrown.0 =
    c.in_ok-value.ensures ∙ c.register.ensures in
    IfOk-weaker c.sets.result _ _ (λ _ given. given_as k _ _ c.args.states.now c.sets.new.states
    (λ i. sets_in w (composed w.program (c.requires.calling.state i) exit) thrown (value_is i)
    k.info.now.handler) given) c.sets.ensures
