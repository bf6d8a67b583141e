use Rattle.ja_cert_read.proofs.Again.{right_within, state_is}
use Rattle.ja_cert_read.proofs.Said.{built_said}
use Rattle.ja_cert_read.proofs.Starting.{says_all}
use Rattle.ja_cert_read.proofs.states.state_of_parts.Goals as goal

pub built_state-requires-clause-within : goal.built_state-requires-clause-within
built_state-requires-clause-within c =
    right_within c.args.program.now c.args.function c.args.registers.items c.args.heap.items
    c.args.masks.items c.requires.registers c.requires.heap c.requires.masks

pub returns-clause-parts : goal.returns-clause-parts
returns-clause-parts c =
    state_is c.args.program.now c.args.function c.args.registers.items c.args.heap.items
    c.args.masks.items _ c.requires.registers c.requires.heap c.requires.masks
    c.in_ok-state.ensures.shape c.in_ok-state.ensures.state

pub returns-clause-all : goal.returns-clause-all
returns-clause-all c =
    says_all c.args.registers.items c.args.heap.items c.args.masks.items _
    c.in_ok-state.ensures.state

pub returns-clause-said : goal.returns-clause-said
returns-clause-said c =
    built_said c.args.program.now c.args.registers.items c.args.heap.items c.args.masks.items _
    c.requires.own_registers c.requires.own_heap c.in_ok-state.ensures.state
