use Rattle.std.proofs.Common.{arith, ◌<◌, sym, subst, ap, vec_len}
use Rattle.std.specs.List.{AllByRecursion}
use Rattle.std.proofs.lemmas.Result.{IfOk-weaker}
use Rattle.ja_base.specs.declared.ids.Reg.{Reg}
use Rattle.ja_graph.specs.declared.node.Node.{Node}
use Rattle.ja_graph.specs.Node.{registers_named}
use Rattle.ja_rows.specs.Calls as calls
use Rattle.ja_astate.specs.State.{state_of}
use Rattle.ja_flow.specs.Flow.{caller_view}
use Rattle.ja_flow.proofs.AtNode.{fixed_of}
use Rattle.ja_flow.proofs.Exits.{no_exit}
use Rattle.ja_flow.proofs.Giving.{given_none, given_as}
use Rattle.ja_flow.proofs.back.give_back.Goals as goal

pub returns-requires-clause-src : goal.returns-requires-clause-src
unfolding registers_named
returns-requires-clause-src c =
    (subst (λ (n : Node). AllByRecursion (λ (r : Reg). r.0 < vec_len c.args.exit.now.registers)
    (registers_named n)) c.in-Return.is c.requires.registers).0

pub returns-in-Return : goal.returns-in-Return
returns-in-Return c =
    let k = c.args.caller.now in
    IfOk-weaker c.returns.result _ _ (λ _ given. given_as k _ _ c.args.states.now
    c.returns.new.states (ap (calls.given_back (caller_view k) k.edge k.info.now
    (state_of c.args.exit.now)) (sym c.in-Return.is)) given) c.returns.ensures

pub escapes-requires-clause-registers : goal.escapes-requires-clause-registers
escapes-requires-clause-registers c =
    let k = c.args.caller.now in
    omega (
      arith,
      c.requires.exit.registers,
      fixed_of k.reader.program.now k.edge.callee.function
          c.requires.caller.at_node.well_formed c.requires.caller.callee,
    )

pub returns-in-Escape : goal.returns-in-Escape
returns-in-Escape c =
    let k = c.args.caller.now in
    IfOk-weaker c.escapes.result _ _ (λ _ given. given_as k _ _ c.args.states.now
    c.escapes.new.states (ap (calls.given_back (caller_view k) k.edge k.info.now
    (state_of c.args.exit.now)) (sym c.in-Escape.is)) given) c.escapes.ensures

pub returns-in_default : goal.returns-in_default
returns-in_default c =
    let k = c.args.caller.now in
    given_as k _ _ c.args.states.now c.args.states.now (no_exit (caller_view k) k.edge k.info.now
    (state_of c.args.exit.now) c.args.node.now c.in_default.not-Return c.in_default.not-Escape)
    (given_none k c.args.states.now)
