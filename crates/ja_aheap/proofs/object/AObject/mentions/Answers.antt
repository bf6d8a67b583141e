use Rattle.std.proofs.Common.{◌≡◌, true, false, rules, sym, ◌∙◌}
use Rattle.std.proofs.lemmas.Bool.{not-false}
use Rattle.std.specs.Ordering.{nat_cmp}
use Rattle.std.specs.BTreeMap.{get}
use Rattle.ja_abstract.specs.AbstractState.{new}
use Rattle.ja_value.specs.Value.{property_of}
use Rattle.ja_aheap.specs.Objects.{shared_property}
use Rattle.ja_aheap.proofs.ObjectLemmas.{either}
use Rattle.ja_aheap.proofs.object.AObject.mentions.Goals as goal

pub returns-else-has_new_label : goal.returns-else-has_new_label
returns-else-has_new_label c = λ said q.
    let all : c.all_listed.result ≡ true = not-false c.all_listed.result said in
    either shared_property (λ p. p.value.label (new c.args.site) ≡ false)
    (get nat_cmp c.args.self.now.listed q) (property_of c.args.self.now.common)
    (λ p is. let says = c.all_listed.ensures.held all q p is in search rules)
    (λ none. sym c.has_new_label.ensures ∙ c.if-has_new_label.false)
