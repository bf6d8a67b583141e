use Rattle.ja_rules.proofs.visits.outcome_of.Goals as goal

pub transfer-requires-clause-node : goal.transfer-requires-clause-node
transfer-requires-clause-node c = record {
  well_formed = c.requires.program;
  node_is = c.node_info-info.ensures;
  state_is = c.requires.fits.states c.args.node.0 c.args.state.now c.requires.state;
}
