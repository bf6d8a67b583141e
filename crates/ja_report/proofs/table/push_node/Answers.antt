use Rattle.ja_report.proofs.PointLemmas.{node_fits, node_found, node_missing}
use Rattle.ja_report.proofs.table.push_node.Goals as goal

pub push_state-requires-clause-state : goal.push_state-requires-clause-state
push_state-requires-clause-state c =
    node_fits _ c.args.own.now _ c.index.result.now _ c.requires.fits c.index.ensures
    c.requires.node c.in-Some.is

pub returns-in_ok-push_state : goal.returns-in_ok-push_state
returns-in_ok-push_state c =
    node_found _ _ c.args.own.now _ c.index.result.now _ _ _ c.index.ensures c.requires.node
    c.in-Some.is c.in_ok-push_state.ensures

pub returns-in_default : goal.returns-in_default
returns-in_default c =
    node_missing _ _ c.args.own.now _ c.index.result.now _ c.index.ensures c.requires.node
    c.in_default.is
