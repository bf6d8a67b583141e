use Rattle.std.proofs.Common.{◌∙◌, arith, length, sym}
use Rattle.ja_graph.specs.Program.{nodes_of}
use Rattle.ja_rules.specs.code.Exits.{is_left}
use Rattle.ja_rules.proofs.NodeFacts.{few_nodes, node_there, none_range, some_range}
use Rattle.ja_rules.proofs.visits.has_exit.Goals as goal

pub overflow_cast-node : goal.overflow_cast-node
overflow_cast-node c =
    omega (
      arith,
      few_nodes c.args.program.now c.requires.program c.args.callee.now.context.function,
      c.requires.fits.nodes,
    )

pub is_left-requires-clause-node : goal.is_left-requires-clause-node
is_left-requires-clause-node c =
    node_there c.args.program.now c.args.callee.now.context.function c.loop-node.node
    (omega (arith, c.requires.fits.nodes))

pub returns-then-is_left : goal.returns-then-is_left
returns-then-is_left c =
    sym (some_range (is_left c.args.program.now c.args.callee.now) 0
    (length (nodes_of c.args.program.now c.args.callee.now.context.function)) c.loop-node.node
    (omega arith) (omega (arith, c.requires.fits.nodes))
    (sym c.is_left.ensures ∙ c.if-is_left.true))

pub returns : goal.returns
returns c =
    sym (none_range (is_left c.args.program.now c.args.callee.now) 0
    (length (nodes_of c.args.program.now c.args.callee.now.context.function))
    (λ k low high. c.loop-node.invariant k (omega (arith, c.requires.fits.nodes))))
