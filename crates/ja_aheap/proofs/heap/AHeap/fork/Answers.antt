use Rattle.std.proofs.Common.{ap, ◌∙◌, List, subst, sym}
use Rattle.ja_value.specs.Labels.{mask_in}
use Rattle.ja_value.specs.Value.{labels_in}
use Rattle.ja_aheap.specs.declared.object.AObject.{AObject}
use Rattle.ja_aheap.specs.code.Mentioned.{AreMentioned}
use Rattle.ja_aheap.proofs.MentionedLemmas.{among_same, mentioned_more}
use Rattle.ja_aheap.proofs.heap.AHeap.fork.Goals as goal

pub invariant_of-result-clause-mentions : goal.invariant_of-result-clause-mentions
invariant_of-result-clause-mentions c =
    let h = c.args.self.now in
    let set = labels_in h.mentioned in
    mentioned_more h.names c.in_ok-fork.field-0 set (labels_in c.in_ok-copy.field-0)
    (among_same set set (labels_in c.in_ok-copy.field-0) c.in_ok-copy.ensures (λ l there. there))
    (subst (λ (os : List AObject). AreMentioned h.names os set) (sym c.in_ok-fork.ensures.ok)
    h.mentions)

pub invariant_of-result-clause-counted : goal.invariant_of-result-clause-counted
invariant_of-result-clause-counted c = λ s beyond.
    ap (λ masks. mask_in masks s) c.in_ok-clone.ensures.cases ∙ c.args.self.now.counted s beyond
