use Rattle.std.proofs.Common.{◌≡◌, ◌&&◌, true, false, rules, sym, ◌∙◌}
use Rattle.std.proofs.lemmas.Bool.{not-false}
use Rattle.std.specs.List.{list_any}
use Rattle.std.specs.Ordering.{nat_cmp}
use Rattle.ja_base.specs.declared.ids.Label.{Label}
use Rattle.ja_abstract.specs.AbstractState.{labels_below}
use Rattle.std.specs.BTreeMap.{get}
use Rattle.ja_abstract.specs.Resolved.{renamed}
use Rattle.ja_value.specs.Labels.{mask_in}
use Rattle.ja_value.specs.Value.{labels_in, property_of}
use Rattle.ja_aheap.proofs.KeptLemmas.{unmoved, unmoved_apart}
use Rattle.ja_aheap.specs.Objects.{shared_property}
use Rattle.ja_aheap.proofs.ObjectLemmas.{either}
use Rattle.ja_aheap.proofs.object.AObject.is_renamed.Goals as goal

pub returns-else-intersects : goal.returns-else-intersects
returns-else-intersects c = λ said q.
    let all : c.all_listed.result ≡ true = not-false c.all_listed.result said in
    let mask = mask_in c.args.masks.now in
    either shared_property (λ p. renamed mask p ≡ p)
    (get nat_cmp c.args.self.now.listed q) (property_of c.args.self.now.common)
    (λ p is. let none : list_any (λ (l : Label). labels_in p.value.value.labels l
    && labels_in c.args.moved.now l) (labels_below c.args.sites) ≡ false =
    let says = c.all_listed.ensures.held all q p is in search rules in
    unmoved mask (shared_property p) (unmoved_apart mask (labels_in p.value.value.labels)
    (labels_in c.args.moved.now) c.args.sites c.requires.beyond c.requires.moved none))
    (λ none. unmoved mask (property_of c.args.self.now.common)
    (unmoved_apart mask _ (labels_in c.args.moved.now) c.args.sites c.requires.beyond
    c.requires.moved (sym c.intersects.ensures ∙ c.if-intersects.false)))
