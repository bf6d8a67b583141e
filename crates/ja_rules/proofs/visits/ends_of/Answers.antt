use Rattle.std.proofs.Common.{Some, ap, sym, ◌∙◌}
use Rattle.ja_table.proofs.Found.{at_reached, at_some, state_some}
use Rattle.ja_rules.proofs.Lent.{are_ends, edge_fits, kept_fits}
use Rattle.ja_rules.proofs.visits.ends_of.Goals as goal

pub returns-in_err-callee : goal.returns-in_err-callee
returns-in_err-callee c =
    let t = c.args.table.now in
    let e = c.args.edge in
    absurd (at_reached t e.callee c.at-2.result c.at-2.ensures c.requires.fits.ordered
    (edge_fits c.args.program.now t e c.requires.fits c.requires.edge).callee
    c.in_err-callee.was)

pub new-requires-clause-heap : goal.new-requires-clause-heap
new-requires-clause-heap c =
    let t = c.args.table.now in
    let e = c.args.edge in
    let own = c.in_ok-own.own.now in
    (kept_fits c.args.program.now t e.caller own
    (at_some t e.caller c.at.result c.at.ensures c.requires.fits.ordered c.in_ok-own.own
    c.in_ok-own.was) c.requires.fits e.node.0 c.in_ok-state.state.now
    (state_some own.nodes.items e.node.0 c.state.result c.in_ok-state.state c.state.ensures
    c.in_ok-state.was)).heap

pub node_info-requires-clause-node : goal.node_info-requires-clause-node
node_info-requires-clause-node c =
    (edge_fits c.args.program.now c.args.table.now c.args.edge c.requires.fits
    c.requires.edge).node

pub returns : goal.returns
returns c =
    let t = c.args.table.now in
    let e = c.args.edge in
    let own = c.in_ok-own.own.now in
    are_ends c.args.program.now c.requires.program t e c.requires.fits own
    (at_some t e.caller c.at.result c.at.ensures c.requires.fits.ordered c.in_ok-own.own
    c.in_ok-own.was) c.new.result c.node_info.result c.in_ok-callee.callee
    (at_some t e.callee c.at-2.result c.at-2.ensures c.requires.fits.ordered
    c.in_ok-callee.callee c.in_ok-callee.was) c.new.ensures.program c.new.ensures.entries
    (state_some own.nodes.items e.node.0 c.state.result c.in_ok-state.state c.state.ensures
    c.in_ok-state.was ∙ ap Some (sym c.new.ensures.state)) c.node_info.ensures
