use Rattle.std.proofs.Common.{◌≡◌, ◌∙◌, None, ap, map, sym}
use Rattle.std.proofs.lemmas.Result.{err_from_is_err_and}
use Rattle.std.specs.List.{AllByRecursion}
use lib.Chars.{codes}
use Rattle.ja_cert_json.specs.View.{view}
use Rattle.ja_cert.specs.Certificate.{listed}
use Rattle.ja_cert.specs.Wrong.{context_wrong, edge_wrong, list_wrong, under}
use Rattle.ja_cert_read.specs.code.Contexts.{listed_data, HasOwnParts}
use Rattle.ja_cert_read.proofs.Told.{inside_err, inside_ok, under_none}
use Rattle.ja_cert_read.proofs.WholeSteps.{body_right, body_told_contexts, body_told_edges, body_told_visits, contexts_wrong, edges_among, edges_wrong, listed_right}
use Rattle.ja_cert_read.proofs.reading.read_body.Goals as goal
use Rattle.ja_cert_read.proofs.reading.read_body.Goals.{After-deref}

contexts : (c : After-deref) → (contexts_wrong c.args.program.now c.args.head.now ≡ None)
    × ((listed (map (listed_data c.args.program.now) c.in_ok-contexts.contexts.items)
    ≡ view c.args.head.now.contexts.now)
    × AllByRecursion (HasOwnParts c.args.program.now) c.in_ok-contexts.contexts.items)
contexts c =
    inside_ok (codes "contexts") _ _ c.read_list.result c.in_ok-contexts.contexts
    c.read_list.ensures c.in_ok-contexts.ensures.same

-- what is wrong of edges, where they lead between these contexts
between : (c : After-deref) → edges_wrong c.args.program.now c.args.head.now
    ≡ under (codes "edges") (list_wrong (edge_wrong c.args.program.now
    (map (listed_data c.args.program.now) c.deref.result.now)) (view c.args.head.now.edges.now))
between c =
    let p = c.args.program.now in
    edges_among p c.args.head.now (map (listed_data p) c.deref.result.now)
    (ap (λ xs. listed (map (listed_data p) xs)) c.deref.ensures.value ∙ (contexts c).1.0)

pub returns-in_err-contexts : goal.returns-in_err-contexts
returns-in_err-contexts c =
    let p = err_from_is_err_and c.from_residual.result c.from_residual.ensures.1 in
    rw (p.1, p.2) (body_told_contexts c.args.program.now c.args.head.now _
    (inside_err (codes "contexts") _ _ c.read_list.result _ c.read_list.ensures
    c.in_err-contexts.ensures.told))

pub returns-in_err-edges : goal.returns-in_err-edges
returns-in_err-edges c =
    let p = err_from_is_err_and c.from_residual-in_err-edges.result
    c.from_residual-in_err-edges.ensures.1 in
    rw (p.1, p.2) (body_told_edges c.args.program.now c.args.head.now _
    (contexts (goal.at.returns-in_err-edges c).After-deref).0
    (rw (between (goal.at.returns-in_err-edges c).After-deref) (inside_err (codes "edges") _ _
    c.read_list-2.result _ c.read_list-2.ensures c.in_err-edges.ensures.told)))

pub returns-in_err-visits : goal.returns-in_err-visits
returns-in_err-visits c =
    let p = err_from_is_err_and c.from_residual-in_err-visits.result
    c.from_residual-in_err-visits.ensures.1 in
    let edges = inside_ok (codes "edges") _ _ c.read_list-2.result c.in_ok-edges.edges
    c.read_list-2.ensures c.in_ok-edges.ensures.same in
    rw (p.1, p.2) (body_told_visits c.args.program.now c.args.head.now _
    (contexts (goal.at.returns-in_err-visits c).After-deref).0
    (rw (between (goal.at.returns-in_err-visits c).After-deref) edges.0)
    (inside_err (codes "visits") _ _ c.read_list-3.result _ c.read_list-3.ensures
    c.in_err-visits.ensures.told))

pub returns : goal.returns
returns c =
    let p = c.args.program.now in
    let h = c.args.head.now in
    let read = contexts (goal.at.returns c).After-deref in
    let edges = inside_ok (codes "edges") _ _ c.read_list-2.result c.in_ok-edges.edges
    c.read_list-2.ensures c.in_ok-edges.ensures.same in
    let visits = inside_ok (codes "visits") _ _ c.read_list-3.result c.in_ok-visits.visits
    c.read_list-3.ensures c.in_ok-visits.ensures.same in
    let deref = ap (map (listed_data p)) c.deref.ensures.value in (
      body_right p h read.0 (rw (between (goal.at.returns c).After-deref) edges.0) visits.0,
      record {
        contexts_are = read.1.0;
        contexts_right = listed_right (context_wrong p) _ _ read.1.0
            (under_none (codes "contexts") _ read.0);
        contexts_have = read.1.1;
        edges_are = edges.1.0;
        edges_right =
            rw (sym deref) (listed_right (edge_wrong p (map (listed_data p) c.deref.result.now)) _ _
            edges.1.0 (under_none (codes "edges") _ edges.0));
        visits_are = visits.1.0;
      },
    )
