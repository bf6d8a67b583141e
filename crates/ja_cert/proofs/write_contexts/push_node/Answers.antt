use Rattle.std.proofs.Common.{◌++◌, ◌∙◌, List, ap}
use Rattle.serde_json.specs.Data.{Data}
use Rattle.ja_report.proofs.PointLemmas.{node_fits}
use Rattle.ja_cert.specs.code.Writing.{with_commas}
use Rattle.ja_cert.proofs.Commas.{commas_one}
use Rattle.ja_cert.proofs.ContextLemmas.{node_found, node_missing}
use Rattle.ja_cert.proofs.write_contexts.push_node.Goals as goal

pub push_state-requires-clause-state : goal.push_state-requires-clause-state
push_state-requires-clause-state c =
    node_fits _ c.args.own.now _ c.index.result.now _ c.requires.fits c.index.ensures
    c.requires.node c.in-Some.is

pub returns-in_ok-push : goal.returns-in_ok-push
returns-in_ok-push c =
    commas_one _ _ _ _ c.in_ok-push_state.ensures c.in_ok-push.ensures.items
    ∙ ap (λ (ds : List Data). c.args.text.now.items ++ with_commas ds)
    (node_found _ _ c.args.own.now _ c.index.result.now _ c.index.ensures c.requires.node
    c.in-Some.is)

pub returns-in_default : goal.returns-in_default
returns-in_default c =
    node_missing _ _ c.args.own.now _ c.index.result.now _ c.index.ensures c.requires.node
    c.in_default.is
