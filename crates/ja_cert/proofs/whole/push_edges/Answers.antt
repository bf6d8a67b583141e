use Rattle.std.proofs.Common.{◌≡◌, ◌++◌, ◌∙◌, List, ap, map, rules, length, vec_len}
use Rattle.serde_json.specs.Data.{Data}
use Rattle.ja_table.specs.declared.table.CallEdge.{CallEdge}
use Rattle.ja_cert.specs.Certificate.{edge_data}
use Rattle.ja_cert.specs.code.Writing.{with_commas}
use Rattle.ja_cert.proofs.Commas.{list_closed}
use Rattle.ja_cert.proofs.ContextLemmas.{edges_are}
use Rattle.ja_cert.proofs.whole.push_edges.Goals as goal

pub returns : goal.returns
returns c =
    let opened = c.push.new.self in
    let size : vec_len opened ≡ length opened.items = search rules in
    list_closed _ _ _ _ _ _ c.in_ok-push.ensures.items (c.len-start.ensures ∙ size)
    (c.in_ok-push_each_edge.ensures ∙ ap (λ (ds : List Data). opened.items ++ with_commas ds)
    (ap (map (λ (e : CallEdge). edge_data e.edge)) c.deref.ensures.value
    ∙ edges_are c.args.program.now c.args.table.now c.requires.fits)) c.in_ok-close_list.ensures
