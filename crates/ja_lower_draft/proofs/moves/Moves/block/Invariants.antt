use Rattle.std.proofs.Common.{◌≡◌, map, take}
use Rattle.ja_lower_draft.specs.Copies.{moved_node}
use Rattle.ja_lower_draft.proofs.moves.Moves.block.Given as goal

abbrev pub invariant-loop-node : goal.invariant-loop-node
invariant-loop-node l =
    l.nodes.items ≡ map (moved_node l.self.temporary l.self.above l.self.by)
    (take l.node-index l.block.nodes)
