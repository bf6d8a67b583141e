use Rattle.std.proofs.Common.{arith}
use Rattle.ja_astate.specs.State.{state_of}
use Rattle.ja_cert.proofs.StateLemmas.{labels_none, labels_step, labels_to, labels_all}
use Rattle.ja_cert.proofs.write_states.push_properties.Goals as goal

pub sites-init : goal.sites-init
sites-init c = (omega arith, labels_none _ (state_of c.args.state.now).property _)

pub sites-preserved-then-next-site : goal.sites-preserved-then-next-site
sites-preserved-then-next-site c = (
  omega (arith, c.sites-test.true),
  labels_step _ (state_of c.args.state.now).property _ _ _ _ c.sites.invariant.1
      c.in_ok-push_both_labels.ensures,
)

pub sites-preserved : goal.sites-preserved
sites-preserved c = (
  omega (arith, c.min-next.ensures),
  labels_to _ c.args.state.now _ _ _ _ _ c.sites.invariant.1
      (omega (arith, c.sites-test.true, c.min-next.ensures, c.untouched_to.ensures.ahead))
      (omega (arith, c.min-next.ensures)) c.untouched_to.ensures.untouched,
)

pub returns : goal.returns
returns c =
    labels_all _ c.args.state.now _ _ _ c.sites.invariant.1
    (omega (arith, c.sites.invariant.0, c.sites-test.false, c.site_count-sites.ensures))
