use Rattle.std.proofs.Common.{◌≡◌, ℕ, Some, length, slice_get, refl, ap, arith}
use Rattle.ja_graph.specs.declared.node.NodeInfo.{NodeInfo}
use Rattle.ja_graph.specs.WellFormed.{IsNodeWellFormed}
use Rattle.ja_graph.proofs.EachLemmas.{read_at, below_more, below_all}
use Rattle.ja_graph.proofs.well_formed_functions.are_nodes_well_formed.Goals as goal

pub loop-info-preserved : goal.loop-info-preserved
loop-info-preserved c =
    let fn = c.args.function.now in
    let i = c.loop-info.info-index in
    let found : slice_get fn.nodes i ≡ Some c.info-item.result = read_at fn.nodes i
    c.info-item.result (omega (arith, ap length c.as_slice-info-items.ensures)) (cc) in
    below_more (λ (n : ℕ) (info : NodeInfo). IsNodeWellFormed c.args.program.now fn info) fn.nodes i
    c.info-item.result c.loop-info.invariant found (c.if-not-is_node_well_formed.ensures.0 refl)

pub returns : goal.returns
returns c =
    let fn = c.args.function.now in (
      λ _. below_all (λ (n : ℕ) (info : NodeInfo). IsNodeWellFormed c.args.program.now fn info)
          fn.nodes c.loop-info.info-index (omega (arith, ap length c.as_slice-info-items.ensures))
          c.loop-info.invariant,
      λ _. refl,
    )
