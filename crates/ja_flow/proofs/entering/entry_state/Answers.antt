use Rattle.std.proofs.Common.{arith, ◌∙◌}
use Rattle.std.proofs.lemmas.Result.{IfOk-weaker}
use Rattle.std.specs.Prelude.{vec_len}
use Rattle.ja_abstract.specs.AbstractValue.{of_label}
use Rattle.ja_value.specs.Value.{value_of}
use Rattle.ja_machine.specs.Frames.{registers_of}
use Rattle.ja_flow.proofs.AtNode.{fixed_of}
use Rattle.ja_flow.proofs.EnteredStates.{is_state}
use Rattle.ja_flow.proofs.Entries.{state_kept}
use Rattle.ja_flow.proofs.entering.entry_state.Goals as goal

pub returns-clause-state : goal.returns-clause-state
returns-clause-state c =
    let p = c.args.program.now in
    let f = c.args.callee.function in
    let called = c.args.called.now in
    IfOk-weaker c.entry.result _ _ (λ _ is g are.
    is ∙ state_kept (vec_len c.args.given.now.parameters) (of_label c.args.callee.receiver)
    (value_of called.chain) (value_of called.callee) g c.in_ok-registers.registers.items
    c.register_count-count.result (omega (
      arith,
      fixed_of p f c.requires.program
          c.requires.function,
      c.requires.parameters,
      c.register_count-count.ensures,
    ))
    (c.in_ok-registers.ensures.values g are)) c.entry.ensures.state

pub returns-clause-shape : goal.returns-clause-shape
returns-clause-shape c =
    let p = c.args.program.now in
    is_state p c.len-sites.result c.len-names.result
    (registers_of p c.args.callee.function) c.entry.result c.len-sites.ensures c.len-names.ensures
    c.entry.ensures.sites c.entry.ensures.names
    (IfOk-weaker c.entry.result _ _ (λ _ long. long ∙ c.in_ok-registers.ensures.count
    ∙ c.register_count-count.ensures) c.entry.ensures.registers)
