use Rattle.std.proofs.Common.{subst, sym}
use Rattle.std.specs.List.{AllByRecursion}
use Rattle.ja_base.specs.declared.ids.Context.{Context}
use Rattle.ja_base.specs.declared.ids.Reg.{Reg}
use Rattle.std.proofs.Common.{◌<◌, ℕ}
use Rattle.ja_graph.specs.Node.{registers_named}
use Rattle.ja_machine.specs.Frames.{registers_of}
use Rattle.ja_astate.specs.State.{IsStateOf}
use Rattle.ja_table.proofs.Found.{state_some}
use Rattle.ja_rules.proofs.NodeFacts.{named_registers}
use Rattle.ja_rules.proofs.visits.add_given.Goals as goal

pub give_back-requires-clause-exit : goal.give_back-requires-clause-exit
give_back-requires-clause-exit c =
    let p = c.args.caller.now.reader.program.now in
    subst (λ (y : Context). IsStateOf p (registers_of p y.function) c.in-Some.exit.now)
    c.requires.callee
    (c.requires.fits.states c.args.node.0 c.in-Some.exit.now
    (state_some c.args.callee.now.nodes.items c.args.node.0 c.state.result c.in-Some.exit
    c.state.ensures c.in-Some.is))

pub give_back-requires-clause-registers : goal.give_back-requires-clause-registers
give_back-requires-clause-registers c =
    let p = c.args.caller.now.reader.program.now in
    let f = c.args.callee.now.context.function in
    let kept = c.requires.fits.states c.args.node.0 c.in-Some.exit.now
    (state_some c.args.callee.now.nodes.items c.args.node.0 c.state.result c.in-Some.exit
    c.state.ensures c.in-Some.is) in
    subst (λ (n : ℕ). AllByRecursion (λ (r : Reg). r.0 < n)
    (registers_named c.node_info-info.result.now.node)) (sym kept.registers)
    (named_registers p c.requires.caller.at_node.well_formed f c.args.node
    c.node_info-info.result.now c.node_info-info.ensures)
