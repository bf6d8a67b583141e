use Rattle.std.proofs.Common.{ℕ, refl, ap, sym, ◌∙◌, rules}
use Rattle.std.proofs.lemmas.Bool.{true≢false}
use Rattle.std.specs.Ordering.{nat_cmp}
use Rattle.std.specs.BTreeMap.{get}
use Rattle.ja_abstract.specs.declared.abstraction.Mask.{Mask}
use Rattle.ja_abstract.specs.AbstractState.{join_masks, exactly_none}
use Rattle.ja_value.specs.Labels.{mask_in}
use Rattle.ja_aheap.proofs.MapLemmas.{found, filled_twice}
use Rattle.ja_aheap.proofs.MaskLemmas.{by_default, turned}
use Rattle.ja_aheap.proofs.masks.joined_masks.Goals as goal

pub returns-clause-joined : goal.returns-clause-joined
returns-clause-joined c = λ s.
    let a = get nat_cmp c.args.masks.now s in
    let b = get nat_cmp c.args.others.now s in
    ap (λ masks. mask_in masks s) c.in_ok-new.ensures.ok
    ∙ by_default (get nat_cmp c.fill-2.new.into s) exactly_none
    ∙ filled_twice _ _ (λ (m : Mask). m) join_masks a b (get nat_cmp c.new-joined.result s)
    (get nat_cmp c.fill.new.into s) (get nat_cmp c.fill-2.new.into s) exactly_none exactly_none
    exactly_none (ap (λ es. found es s) c.new-joined.ensures.empty) (c.in_ok-fill.ensures s)
    (c.in_ok-fill-2.ensures s) (λ v w is makes. search rules) (λ v w is makes. search rules) refl
    ∙ sym (λ i. join_masks (by_default a exactly_none i) (by_default b exactly_none i))

pub returns-clause-changed : goal.returns-clause-changed
returns-clause-changed c = λ same.
    let below = c.leq_masks.ensures.1 (λ s. turned (mask_in c.args.others.now s)
    (mask_in c.args.masks.now s) ∙ sym (returns-clause-joined c s)
    ∙ ap (λ (f : ℕ → Mask). f s) same) in
    true≢false (sym below ∙ c.if-leq_masks.false)
