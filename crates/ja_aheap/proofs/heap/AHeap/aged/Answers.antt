use Rattle.std.proofs.Common.{sym, ◌∙◌}
use Rattle.ja_value.specs.Value.{labels_in}
use Rattle.ja_aheap.proofs.HeapLemmas.{aged_by_label}
use Rattle.ja_aheap.proofs.MapLemmas.{ok_from}
use Rattle.ja_aheap.proofs.MentionedLemmas.{unmentioned}
use Rattle.ja_aheap.proofs.heap.AHeap.aged.Goals as goal

pub returns-then-contains-clause-aged : goal.returns-then-contains-clause-aged
returns-then-contains-clause-aged g c =
    let h = c.args.self.now in
    ok_from c.aged_objects.result (λ aged each. aged_by_label h.names c.args.site h.objects aged each)
    c.aged_objects.ensures.aged

pub returns-clause-aged : goal.returns-clause-aged
returns-clause-aged g c =
    let h = c.args.self.now in
    unmentioned h.names c.args.site h.objects c.in_ok-objects.objects (labels_in h.mentioned)
    h.mentions (sym c.contains.ensures ∙ c.if-contains.false) c.in_ok-objects.ensures.ok
