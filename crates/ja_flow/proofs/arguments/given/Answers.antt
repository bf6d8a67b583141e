use Rattle.std.proofs.Common.{◌<◌, sym, subst, vec_len}
use Rattle.std.specs.List.{AllByRecursion}
use Rattle.ja_base.specs.declared.ids.Reg.{Reg}
use Rattle.ja_graph.specs.declared.node.Node.{Node}
use Rattle.ja_graph.specs.Node.{registers_named}
use Rattle.ja_flow.proofs.arguments.given.Goals as goal

pub given_args-requires-clause-registers : goal.given_args-requires-clause-registers
unfolding registers_named
given_args-requires-clause-registers c =
    (subst (λ (n : Node).
    AllByRecursion (λ (r : Reg). r.0 < vec_len c.args.reader.now.state.now.registers)
    (registers_named n)) c.in-Call.is c.requires.registers).1.1

pub listed-requires : goal.listed-requires
unfolding registers_named
listed-requires c =
    let within = λ (r : Reg). r.0 < vec_len c.args.reader.now.state.now.registers in
    subst (AllByRecursion within) (sym c.as_slice.ensures)
    (subst (λ (n : Node). AllByRecursion within (registers_named n)) c.in-New.is
    c.requires.registers).1
