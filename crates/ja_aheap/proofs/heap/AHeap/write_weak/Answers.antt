use Rattle.std.proofs.Common.{ℕ, ◌≡◌, true, get_or, if◌then◌else◌, ap, sym, ◌∙◌}
use Rattle.std.proofs.lemmas.Result.{IfOk-weaker}
use Rattle.ja_abstract.specs.AbstractValue.{AbstractProperty, join_properties, same_label, entry_property}
use Rattle.ja_abstract.specs.AbstractState.{label_number}
use Rattle.ja_value.specs.Value.{property_of}
use Rattle.ja_aheap.specs.Heap.{heap_of, property_at, with_property_in}
use Rattle.ja_aheap.specs.Objects.{object_of}
use Rattle.ja_aheap.proofs.LabelLemmas.{same_label_is}
use Rattle.ja_aheap.proofs.MapLemmas.{same_number}
use Rattle.ja_aheap.proofs.UpdateLemmas.{object_shown, label_within}
use Rattle.ja_aheap.proofs.heap.AHeap.write_weak.Goals as goal

pub returns-clause-written : goal.returns-clause-written
returns-clause-written g c =
    let h = c.args.self.now in
    let l = c.args.label in
    let k = c.args.key in
    let p = property_of c.args.property.now in
    let o = c.get.result.now in
    let itself : same_label l l ≡ true = same_label_is l l ∙ same_number (label_number l) in
    let read : object_of o k ≡ property_at h.objects h.names l k =
    ap (λ b. if b then object_of o k else entry_property) (sym c.requires.key)
    ∙ object_shown h.objects h.names l o (label_within l h.sites _ c.requires.label h.placed)
    (c.get.ensures ∙ ap (λ (n : ℕ). get_or h.objects n o) c.label_number-number.ensures) l itself k
    in
    let written : property_of c.in_ok-written.written
    ≡ join_properties (property_at h.objects h.names l k) p =
    c.in_ok-written.ensures
    ∙ ap (λ (q : AbstractProperty). join_properties q p) (c.read.ensures ∙ read) in
    IfOk-weaker c.place.result _ _
    (λ x e. e ∙ ap (with_property_in (heap_of h) l k) written) c.place.ensures.placed
