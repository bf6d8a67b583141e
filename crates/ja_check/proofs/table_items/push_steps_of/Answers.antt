use Rattle.std.proofs.Common.{arith, ap, ◌∙◌, ◌++◌}
use Rattle.std.specs.List.{flat_map, range_with_len}
use Rattle.ja_table.specs.Tables.{states_in}
use Rattle.ja_rules.proofs.NodeFacts.{few_nodes}
use Rattle.ja_check.specs.Check.{step_at}
use Rattle.ja_check.proofs.Lists.{range_next}
use Rattle.ja_check.proofs.table_items.push_steps_of.Goals as goal

pub overflow_cast-node : goal.overflow_cast-node
overflow_cast-node c =
    omega (
      arith,
      few_nodes c.args.program.now c.requires.program c.args.own.now.context.function,
      c.requires.fits.nodes,
    )

pub loop-node-preserved : goal.loop-node-preserved
loop-node-preserved c =
    let own = c.args.own.now in
    range_next (step_at own.context (states_in own.nodes.items)) c.args.items.now.items
    c.loop-node.items.items c.push_step.new.items.items c.loop-node.node c.loop-node.invariant
    c.in_ok-push_step.ensures

pub returns : goal.returns
returns c =
    let own = c.args.own.now in
    c.loop-node.invariant
    ∙ ap (λ n. c.args.items.now.items ++ flat_map (step_at own.context (states_in own.nodes.items))
    (range_with_len 0 n)) (omega (arith, c.requires.fits.nodes))
