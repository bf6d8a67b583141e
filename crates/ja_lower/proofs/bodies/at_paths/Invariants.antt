use Rattle.std.proofs.Common.{◌≡◌, ◌++◌}
use Rattle.std.specs.Vec.Iter.{into_iter_items}
use Rattle.ja_lower.specs.Lowering as spec
use Rattle.ja_lower.proofs.bodies.at_paths.Given as goal

abbrev pub invariant-loop-body : goal.invariant-loop-body
invariant-loop-body l =
    l.list.items ++ spec.at_paths l.left (into_iter_items l.body-iterator)
    ≡ spec.at_paths l.paths l.fn.bodies.items
