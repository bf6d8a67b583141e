use Rattle.std.proofs.Common.{◌∙◌}
use Rattle.ja_base.specs.declared.ids.Site.{Site}
use Rattle.ja_report.proofs.ObjectLemmas.{site_lines_none, site_lines_more, site_lines_all}
use Rattle.ja_report.proofs.lines.push_masks.Goals as goal

pub loop-site-init : goal.loop-site-init
loop-site-init c = site_lines_none _ _ _

pub loop-site-preserved : goal.loop-site-preserved
loop-site-preserved c =
    let d : Site = record { 0 = 0 } in
    site_lines_more _ _ _ _ d _ _ _ _ c.loop-site.invariant c.loop-site-test.true c.mask.ensures
    c.in_ok-push_mask.ensures

pub returns : goal.returns
returns c =
    site_lines_all _ c.args.state.now _ _ _ _ c.loop-site.invariant c.loop-site-test.false
    (c.deref-site-items.ensures.value ∙ c.in_ok-sites.ensures) c.requires.sites
