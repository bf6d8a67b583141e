use Rattle.std.proofs.Common.{◌∙◌, ℕ, List, ap, sym, arith, rules}
use Rattle.std.specs.Ordering.{nat_cmp}
use Rattle.std.specs.BTreeMap.{get}
use Rattle.ja_base.proofs.Lists.{empty_by_length}
use Rattle.ja_base.specs.declared.ids.Site.{Site}
use Rattle.ja_abstract.specs.declared.abstraction.Mask.{Mask}
use Rattle.ja_value.specs.Labels.{mask_in}
use Rattle.ja_aheap.specs.Heap.{masks_with}
use Rattle.ja_aheap.proofs.MapLemmas.{found}
use Rattle.ja_aheap.proofs.MaskLemmas.{masks_filled, set_turn}
use Rattle.ja_aheap.proofs.masks.masks_with.Goals as goal

pub loop-site-preserved : goal.loop-site-preserved
loop-site-preserved c = λ s.
    set_turn c.loop-site.others.items c.pop.new.self.items (c.in-Some.site, c.in-Some.mask)
    c.loop-site.set c.put.new.map c.from.result c.in-Some.ensures.items c.from.ensures
    c.in_ok-put.ensures.placed s
    ∙ c.loop-site.invariant s

pub returns : goal.returns
returns c = λ s.
    ap (λ m. mask_in m s) c.in_ok-new.ensures.ok
    ∙ ap (λ (xs : List (Site × Mask)). masks_with xs (mask_in c.loop-site.set) s)
    (sym (empty_by_length c.loop-site.others.items (omega (arith, c.in_default.ensures.cases.0))))
    ∙ c.loop-site.invariant s
    ∙ (λ i. masks_with c.args.others.items (λ (q : ℕ). (masks_filled _
    (get nat_cmp c.args.masks.now q) (get nat_cmp c.new-set.result q) (get nat_cmp c.fill.new.into q)
    (ap (λ es. found es q) c.new-set.ensures.empty) (c.in_ok-fill.ensures q)
    (λ v w is makes. search rules)) i) s)
