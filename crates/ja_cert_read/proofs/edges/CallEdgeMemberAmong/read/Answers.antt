use Rattle.std.proofs.Common.{◌≡◌, ◌&&◌, ◌∙◌, map, rules, sym}
use Rattle.std.proofs.lemmas.Result.{err_from_is_err_and}
use Rattle.ja_cert_json.specs.View.{view}
use Rattle.ja_cert.specs.Wrong.{are_listed, edge_number, is_above, is_calling}
use Rattle.ja_cert_read.specs.code.Contexts.{listed_data}
use Rattle.ja_cert_read.specs.code.Whole.{call_edge_data}
use Rattle.ja_cert_read.proofs.EdgeSteps.{above_edges, call_edge_right, leads_between, told_behind, told_ends, told_shape}
use Rattle.ja_cert_read.proofs.Told.{right_test, tells_test}
use Rattle.ja_cert_read.proofs.edges.CallEdgeMemberAmong.read.Goals as goal
use Rattle.ja_cert_read.proofs.edges.CallEdgeMemberAmong.read.Goals.{After-is_behind, After-is_between}

-- the edge is compared with those before it, and its ends are sought
order : (c : After-is_behind)
    → c.is_behind.result ≡ is_above edge_number (map call_edge_data c.args.before.now)
    (view c.args.value.now)
order c =
    c.is_behind.ensures
    ∙ sym (above_edges c.args.before.now _ c.in_ok-edge.edge c.in_ok-edge.ensures.1)

between : (c : After-is_between)
    → c.is_between.result ≡ (are_listed (map (listed_data c.args.rule.now.program.now)
    c.args.rule.now.contexts.now) (view c.args.value.now)
    && is_calling c.args.rule.now.program.now (view c.args.value.now))
between c =
    c.is_between.ensures
    ∙ leads_between c.args.rule.now.program.now c.args.rule.now.contexts.now _ c.in_ok-edge.edge
    c.in_ok-edge.ensures.1

pub returns-in_err-edge : goal.returns-in_err-edge
returns-in_err-edge c = search (rules, told_shape)

pub returns-in_err-here_unless : goal.returns-in_err-here_unless
returns-in_err-here_unless c =
    let p = err_from_is_err_and c.from_residual-in_err-here_unless.result
    c.from_residual-in_err-here_unless.ensures.1 in
    let at = goal.at.returns-in_err-here_unless c in
    rw (p.1, p.2) (told_behind _ _ _ _ _ c.in_ok-edge.ensures.0
    (tells_test c.is_behind.result _ _ (order at.After-is_behind) c.in_err-here_unless.ensures))

pub returns-in_err-here_unless-2 : goal.returns-in_err-here_unless-2
returns-in_err-here_unless-2 c =
    let p = err_from_is_err_and c.from_residual-in_err-here_unless-2.result
    c.from_residual-in_err-here_unless-2.ensures.1 in
    let at = goal.at.returns-in_err-here_unless-2 c in
    let placed = right_test c.is_behind.result _ (order at.After-is_behind)
    c.in_ok-here_unless.ensures.0 in
    rw (p.1, p.2) (told_ends _ _ _ _ _ c.in_ok-edge.ensures.0 placed
    (tells_test c.is_between.result _ _ (between at.After-is_between)
    c.in_err-here_unless-2.ensures))

pub returns : goal.returns
returns c =
    let at = goal.at.returns c in
    let placed = right_test c.is_behind.result _ (order at.After-is_behind)
    c.in_ok-here_unless.ensures.0 in
    let joined = right_test c.is_between.result _ (between at.After-is_between)
    c.in_ok-here_unless-2.ensures.0 in (
      call_edge_right _ _ _ _ c.in_ok-edge.ensures.0 placed joined,
      (c.in_ok-edge.ensures.1, tt),
    )
