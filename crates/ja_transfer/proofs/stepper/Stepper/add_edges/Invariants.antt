use Rattle.std.proofs.Common.{◌≡◌, ◌++◌, map, take}
use Rattle.ja_rows.specs.Edges.{edge}
use Rattle.ja_transfer.specs.Outcomes.{point_of}
use Rattle.ja_transfer.proofs.stepper.Stepper.add_edges.Given as goal

abbrev pub invariant-loop-receiver : goal.invariant-loop-receiver
invariant-loop-receiver l =
    l.edges.items ≡ l.initial.edges.items ++ map (edge (point_of l.self) l.function.0)
    (take l.receiver-index l.receivers)
