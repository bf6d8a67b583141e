use Rattle.std.proofs.Common.{◌≡◌, length, sym, ◌∙◌, ap, arith}
use Rattle.std.specs.Prelude.{Some, slice_get}
use Rattle.std.specs.List.{flat_map, range_with_len}
use Rattle.std.proofs.lemmas.Option.{slice_get-get_or}
use Rattle.ja_graph.specs.Program.{nodes_of}
use Rattle.ja_rules.proofs.NodeFacts.{few_nodes}
use Rattle.ja_warn.specs.code.Faults.{found_at, held, reached_at}
use Rattle.ja_warn.proofs.Held.{held_next}
use Rattle.ja_warn.proofs.faults.add_context.Goals as goal

pub overflow_cast-number : goal.overflow_cast-number
overflow_cast-number c =
    omega (
      arith,
      few_nodes c.args.program.now c.requires.program c.args.own.now.context.function,
      ap length c.nodes-nodes.ensures,
    )

pub add_node-requires-clause-info : goal.add_node-requires-clause-info
add_node-requires-clause-info c =
    let n = c.loop-node.node in
    let info = c.index-nodes-node.result in
    ap (λ xs. slice_get xs n) (sym c.nodes-nodes.ensures)
    ∙ slice_get-get_or c.nodes-nodes.result.now n info (omega arith)
    ∙ ap Some (sym c.index-nodes-node.is)

pub loop-node-preserved : goal.loop-node-preserved
loop-node-preserved c =
    λ k. held_next c.args.program.now c.args.own.now k c.loop-node.node
    (found_at c.args.found.now k) _ _ (c.loop-node.invariant k) (c.in_ok-add_node.ensures k)

pub returns : goal.returns
returns c =
    let own = c.args.own.now in
    let f = own.context.function in
    let count : c.loop-node.node ≡ length (nodes_of c.args.program.now f) =
    omega (arith, ap length c.nodes-nodes.ensures) in
    λ k. c.loop-node.invariant k ∙ ap (λ n. held k (found_at c.args.found.now k)
    (flat_map (reached_at c.args.program.now own) (range_with_len 0 n))) count
