use Rattle.std.proofs.Common.{◌≡◌, ◌++◌, ℕ}
use Rattle.std.specs.List.{flat_map, range_with_len}
use Rattle.ja_table.specs.Tables.{states_in}
use Rattle.ja_cert.specs.code.Writing.{node_of, with_commas}
use Rattle.ja_cert.proofs.write_contexts.push_nodes.Given as goal

abbrev pub invariant-loop-node : goal.invariant-loop-node
invariant-loop-node l =
    l.text.items ≡ l.initial.text.items ++ flat_map (λ (n : ℕ). with_commas
    (node_of l.program l.own.context.function (states_in l.own.nodes.items) n))
    (range_with_len 0 l.node)
