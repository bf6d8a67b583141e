use Rattle.std.proofs.Common.{Bool, ap, ◌∙◌, ◌||◌, is_some}
use Rattle.std.specs.Ordering.{nat_cmp}
use Rattle.std.specs.BTreeMap.{get}
use Rattle.ja_aheap.specs.code.Composed.{lists}
use Rattle.ja_aheap.proofs.ComposedLemmas.{object_composed, none_of_four, nothing_at}
use Rattle.ja_aheap.proofs.sources.Sources.object.Goals as goal

pub returns : goal.returns
returns c =
    let s = c.args.self.now in
    object_composed s
    (record { common = c.in_ok-common.field-0; listed = c.list_if_there-2.new.listed })
    (c.in_ok-list_if_there-2.ensures.right (c.in_ok-list_if_there.ensures.right
    (c.in_ok-list.ensures.right (nothing_at c.new-listed.result _ c.new-listed.ensures.empty))))
    (λ q none. none_of_four (is_some (get nat_cmp s.later.now.listed q)) (lists s.first q)
    (lists s.second q) (is_some (get nat_cmp c.new-listed.result q)) _
    (c.in_ok-list_if_there-2.ensures.listed q
    ∙ ap (λ (b : Bool). lists s.second q || b) (c.in_ok-list_if_there.ensures.listed q
    ∙ ap (λ (b : Bool). lists s.first q || b) (c.in_ok-list.ensures.listed q))) none)
    c.in_ok-common.ensures
