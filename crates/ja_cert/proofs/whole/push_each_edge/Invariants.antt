use Rattle.std.proofs.Common.{◌≡◌, ◌++◌, [], ◌∷◌, take}
use Rattle.std.specs.List.{flat_map}
use Rattle.ja_table.specs.declared.table.CallEdge.{CallEdge}
use Rattle.ja_cert.specs.Certificate.{edge_data}
use Rattle.ja_cert.specs.code.Writing.{with_commas}
use Rattle.ja_cert.proofs.whole.push_each_edge.Given as goal

abbrev pub invariant-loop-kept : goal.invariant-loop-kept
invariant-loop-kept l =
    l.text.items ≡ l.initial.text.items ++ flat_map (λ (e : CallEdge). with_commas
    (edge_data e.edge ∷ [])) (take l.kept-index l.edges)
