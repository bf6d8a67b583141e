use Rattle.std.proofs.Common.{arith, sym, ◌∙◌}
use Rattle.std.proofs.lemmas.Bool.{false≢true}
use Rattle.ja_rules.proofs.NodeFacts.{few_nodes}
use Rattle.ja_table.proofs.Told.{told_none, told_some}
use Rattle.ja_check.proofs.Meanings.{nodes_same}
use Rattle.ja_check.proofs.same_contexts.are_same_states.Goals as goal

pub overflow_cast-node : goal.overflow_cast-node
overflow_cast-node c =
    omega (
      arith,
      few_nodes c.args.program.now c.requires.program c.args.own.now.context.function,
      c.requires.own.nodes,
    )

pub returns-then-not-same : goal.returns-then-not-same
returns-then-not-same c =
    told_none (λ e. false≢true (sym c.if-not-same.true
    ∙ c.in_ok-same.ensures.1 (λ i. e i c.loop-node.node)))

pub returns : goal.returns
returns c =
    told_some (nodes_same c.args.program.now c.args.own.now c.args.other.now c.requires.own
    c.requires.other c.requires.context c.loop-node.node (omega arith) c.loop-node.invariant)
