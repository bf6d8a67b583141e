use Rattle.std.proofs.Common.{◌≡◌, length, take, ap, subst, ◌∙◌, arith}
use Rattle.std.specs.Prelude.{◌||◌, filter}
use Rattle.ja_base.specs.declared.ids.Label.{Label}
use Rattle.ja_base.specs.declared.ids.Site.{Site}
use Rattle.std.specs.Prelude.{List}
use Rattle.ja_abstract.specs.AbstractState.{new, old, sites_below}
use Rattle.ja_value.specs.Value.{labels_in}
use Rattle.ja_lint_text.proofs.SiteLists.{firsts, sites_all}
use Rattle.ja_lint_text.proofs.sites.sites_in.Goals as goal

pub returns : goal.returns
returns c =
    let set = labels_in c.args.labels.now in
    let found = c.loop-label.sites.items in
    let i = c.loop-label.label-index in
    let items_are = c.deref-label-items.ensures.value in
    subst (λ n. found ≡ filter (λ (s : Site). set (new s) || set (old s)) (sites_below n))
    c.site_count.ensures
    (sites_all set c.site_count.result c.in_ok-list.list.items i found
    (c.loop-label.invariant ∙ ap (λ (ls : List Label). firsts set (take i ls)) items_are)
    (omega (arith, ap length items_are)) c.in_ok-list.ensures)
