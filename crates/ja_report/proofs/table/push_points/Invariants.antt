use Rattle.ja_table.specs.Tables.{states_in}
use Rattle.ja_report.specs.code.Output.{Adds}
use Rattle.ja_report.proofs.PointLemmas.{node_front}
use Rattle.ja_report.proofs.table.push_points.Given as goal

abbrev pub invariant-loop-node : goal.invariant-loop-node
invariant-loop-node l =
    Adds l.program
    (node_front l.program l.own.context.function (states_in l.own.nodes.items) l.node)
    l.initial.out l.out
