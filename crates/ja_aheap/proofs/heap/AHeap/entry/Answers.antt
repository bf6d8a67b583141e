use Rattle.std.proofs.Common.{◌*◌, refl, ap, ◌∙◌, unwrap_or}
use Rattle.ja_abstract.specs.AbstractState.{label_number, exactly_none}
use Rattle.ja_value.specs.Labels.{mask_in}
use Rattle.ja_aheap.specs.Heap.{property_at}
use Rattle.ja_aheap.specs.code.Own.{own_in_place}
use Rattle.ja_aheap.proofs.MapLemmas.{found}
use Rattle.ja_aheap.proofs.HeapLemmas.{heap_same, shown_everywhere}
use Rattle.ja_aheap.proofs.MentionedLemmas.{mentioned_nowhere}
use Rattle.ja_aheap.proofs.heap.AHeap.entry.Goals as goal

pub returns-clause-heap : goal.returns-clause-heap
returns-clause-heap g c =
    heap_same _ _ refl refl
    (λ l k. ap (λ objects. property_at objects c.args.names l k) c.in_ok-objects.ensures.ok
    ∙ shown_everywhere c.args.names c.entry.result c.entry.ensures (2 * c.args.sites)
    (label_number l) k)
    (λ s. ap (λ masks. mask_in masks s) c.in_ok-masks.ensures.ok
    ∙ ap (λ es. unwrap_or (found es s) exactly_none) c.new-2.ensures.empty)

pub invariant_of-result-clause-counted : goal.invariant_of-result-clause-counted
invariant_of-result-clause-counted g c = λ s beyond.
    ap (λ masks. mask_in masks s) c.in_ok-masks.ensures.ok
    ∙ ap (λ es. unwrap_or (found es s) exactly_none) c.new-2.ensures.empty

pub invariant_of-result-clause-mentions : goal.invariant_of-result-clause-mentions
invariant_of-result-clause-mentions g c =
    mentioned_nowhere c.args.names c.in_ok-objects.objects _
    (λ n k. ap (λ objects. own_in_place c.args.names objects n k) c.in_ok-objects.ensures.ok
    ∙ shown_everywhere c.args.names c.entry.result c.entry.ensures (2 * c.args.sites) n k)
