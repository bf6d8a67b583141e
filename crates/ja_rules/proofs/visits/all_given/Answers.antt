use Rattle.std.proofs.Common.{◌++◌, ◌∙◌, ap, arith, length, sym}
use Rattle.std.specs.List.{flat_map, range_with_len}
use Rattle.std.proofs.lemmas.List.{length-map}
use Rattle.ja_graph.specs.Program.{nodes_of}
use Rattle.ja_transfer.specs.Outcomes.{given_by}
use Rattle.ja_rows.specs.Out.{Given as Gives}
use Rattle.ja_rules.specs.code.Exits.{given_at}
use Rattle.ja_rules.proofs.NodeFacts.{few_nodes, node_there, one_more}
use Rattle.ja_rules.proofs.visits.all_given.Goals as goal

pub loop-node-init : goal.loop-node-init
loop-node-init c = record {
  given = c.new-states.ensures;
  fit =
      λ k d h. absurd (omega (
        arith,
        h,
        ap length c.new-states.ensures,
        length-map c.new-states.result.list.items given_by,
      ));
}

pub overflow_cast-node : goal.overflow_cast-node
overflow_cast-node c =
    omega (
      arith,
      few_nodes c.args.caller.now.reader.program.now c.requires.caller.at_node.well_formed
          c.args.callee.now.context.function,
      c.requires.fits.nodes,
    )

pub add_given-requires-clause-node : goal.add_given-requires-clause-node
add_given-requires-clause-node c =
    node_there c.args.caller.now.reader.program.now c.args.callee.now.context.function
    c.loop-node.node (omega (arith, c.requires.fits.nodes))

pub loop-node-preserved : goal.loop-node-preserved
loop-node-preserved c =
    let f = given_at c.args.caller.now c.args.callee.now in
    record {
      given =
          c.in_ok-add_given.ensures.given
          ∙ ap (λ (g : Gives). g ++ f c.loop-node.node) c.loop-node.invariant.given
          ∙ sym (one_more f c.loop-node.node);
      fit = c.in_ok-add_given.ensures.fits c.loop-node.invariant.fit;
    }

pub returns : goal.returns
returns c =
    let p = c.args.caller.now.reader.program.now in
    let count = length (nodes_of p c.args.callee.now.context.function) in
    record {
      states =
          c.loop-node.invariant.given
          ∙ ap (λ n. flat_map (given_at c.args.caller.now c.args.callee.now)
          (range_with_len 0 n)) (omega (arith, c.requires.fits.nodes));
      fit = c.loop-node.invariant.fit;
      demands_are = c.in_ok-calling.ensures.demands_are;
    }
