use Rattle.std.proofs.Common.{◌≡◌, sym, subst, ap, ◌∙◌, vec_len}
use Rattle.ja_abstract.specs.AbstractValue.{of_label}
use Rattle.ja_rows.specs.Calls as calls
use Rattle.ja_aheap.specs.Objects.{demands_in}
use Rattle.ja_astate.specs.State.{state_of}
use Rattle.ja_astate.specs.Looks.{view_of}
use Rattle.ja_value.specs.Value.{value_of}
use Rattle.ja_flow.specs.Flow.{caller_node}
use Rattle.ja_flow.specs.code.Given.{AreArguments}
use Rattle.ja_flow.proofs.AtCalling.{ReadsCalling, callee_there, registers_there, rest_there, view_calling}
use Rattle.ja_flow.proofs.EnteredStates.{entered_state, entered_demands}
use Rattle.ja_flow.proofs.Entries.{counted}
use Rattle.ja_flow.proofs.entering.entered_from.Goals as goal

pub called_at-requires : goal.called_at-requires
called_at-requires c =
    callee_there c.args.caller.now c.args.calling.now c.reader-reader.result c.requires.calling
    (record { view = c.reader-reader.ensures.view; state = c.reader-reader.ensures.state })
    c.requires.caller

pub given-requires-clause-registers : goal.given-requires-clause-registers
given-requires-clause-registers c =
    registers_there c.args.caller.now c.args.calling.now c.reader-reader.result c.requires.calling
    (record { view = c.reader-reader.ensures.view; state = c.reader-reader.ensures.state })
    c.requires.caller

pub given-requires-clause-rest : goal.given-requires-clause-rest
given-requires-clause-rest c =
    rest_there c.args.caller.now c.args.calling.now c.reader-reader.result c.requires.calling
    (record { view = c.reader-reader.ensures.view; state = c.reader-reader.ensures.state })
    c.requires.caller

pub entry_state-requires-clause-parameters : goal.entry_state-requires-clause-parameters
entry_state-requires-clause-parameters c =
    let given = c.in_ok-given.ensures in
    counted c.parameter_count-parameters.result _ c.in_ok-given.given given
    ∙ c.parameter_count-parameters.ensures

pub returns-clause-state : goal.returns-clause-state
returns-clause-state c =
    let k = c.args.caller.now in
    let r = c.reader-reader.result in
    let reads : ReadsCalling k c.args.calling.now r =
    record { view = c.reader-reader.ensures.view; state = c.reader-reader.ensures.state } in
    let ps = c.parameter_count-parameters.result in
    let kept = c.in_ok-given.given in
    let called = c.in_ok-called.called in
    let g = calls.given (view_of r) k.edge.caller.function ps (caller_node k) in
    let many : vec_len kept.parameters ≡ ps = counted ps g kept c.in_ok-given.ensures in
    entered_state k (view_of r) (view_calling k c.args.calling.now r c.requires.calling reads) ps
    c.parameter_count-parameters.ensures (value_of called.chain) (value_of called.callee)
    c.in_ok-called.ensures.called.chain c.in_ok-called.ensures.called.callee
    (state_of c.in_ok-state.state)
    (c.in_ok-state.ensures.state g
    (subst (λ m. AreArguments m g kept) (sym many) c.in_ok-given.ensures)
    ∙ ap (λ m. calls.entry_of m (of_label k.edge.callee.receiver) (value_of called.chain)
    (value_of called.callee) g) many)

pub returns-clause-demands : goal.returns-clause-demands
returns-clause-demands c =
    let k = c.args.caller.now in
    let r = c.reader-reader.result in
    let reads : ReadsCalling k c.args.calling.now r =
    record { view = c.reader-reader.ensures.view; state = c.reader-reader.ensures.state } in
    entered_demands k (view_of r) (view_calling k c.args.calling.now r c.requires.calling reads)
    c.parameter_count-parameters.result c.parameter_count-parameters.ensures
    (demands_in c.args.calling.now.demands) (demands_in c.new-demands.result)
    (demands_in c.called_at.new.demands) (demands_in c.in_ok-given.given.demands)
    (demands_in c.join.new.self) c.requires.calling.demands_are c.new-demands.ensures
    c.in_ok-called.ensures.demands c.in_ok-given.ensures.demands_are c.in_ok-join.ensures.joined
