use Rattle.std.proofs.Common.{List, ap, ◌∙◌, arith, get_or}
use Rattle.ja_graph.specs.declared.program.Function.{Function}
use Rattle.ja_machine.specs.Frames.{parameters_of}
use Rattle.ja_machine.specs.Machine.{program_function}
use Rattle.ja_rows.specs.Table.{opening_state}
use Rattle.ja_astate.proofs.OpeningLemmas.{given_nothing, registers_count, registers_opening, text_registers}
use Rattle.ja_astate.proofs.state.AState.opening.Goals as goal

pub returns-clause-state : goal.returns-clause-state
returns-clause-state c =
    let p = c.args.program.now in
    let fn = c.index-as_slice-0.result in
    let text = text_registers p c.requires fn (c.index-as_slice-0.is
    ∙ ap (λ (fns : List Function). get_or fns 0 fn) c.as_slice.ensures) in
    let registers = registers_opening c.in_ok-registers.registers.items fn.registers text.0
    c.in_ok-registers.ensures in
    let given = given_nothing (parameters_of p program_function) in
    c.in_ok-state.ensures.state
    ∙ (λ i. record (opening_state p) { register = λ r. (registers r ∙ given r) i })

pub returns-clause-shape : goal.returns-clause-shape
returns-clause-shape c =
    let p = c.args.program.now in
    let fn = c.index-as_slice-0.result in
    let text = text_registers p c.requires fn (c.index-as_slice-0.is
    ∙ ap (λ (fns : List Function). get_or fns 0 fn) c.as_slice.ensures) in
    let count = registers_count c.in_ok-registers.registers.items fn.registers
    c.in_ok-registers.ensures in
    record {
      heap = record {
        sites = c.in_ok-state.ensures.sites ∙ c.len-sites.ensures;
        names = c.in_ok-state.ensures.names ∙ c.len-names.ensures;
      };
      registers = omega (arith, c.in_ok-state.ensures.registers, count, text.1);
    }
