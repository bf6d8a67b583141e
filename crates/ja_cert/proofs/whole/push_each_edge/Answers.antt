use Rattle.ja_table.specs.declared.table.CallEdge.{CallEdge}
use Rattle.ja_cert.specs.Certificate.{edge_data}
use Rattle.ja_cert.proofs.Commas.{commas_listed}
use Rattle.ja_cert.proofs.Floats.{edge_none, none_of}
use Rattle.ja_cert.proofs.whole.push_each_edge.Goals as goal

pub push_member-requires : goal.push_member-requires
push_member-requires c = none_of _ _ c.in_ok-edge.ensures (edge_none _)

pub returns : goal.returns
returns c =
    commas_listed (λ (e : CallEdge). edge_data e.edge) _ _ _ _ c.loop-kept.invariant
    c.loop-kept-test.false
