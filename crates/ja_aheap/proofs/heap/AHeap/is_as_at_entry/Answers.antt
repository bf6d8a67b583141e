use Rattle.std.proofs.Common.{ℕ, ◌≡◌, get_or, ap, sym, ◌∙◌}
use Rattle.std.proofs.lemmas.Bool.{lt-ltb}
use Rattle.ja_abstract.specs.AbstractState.{label_number}
use Rattle.ja_abstract.specs.Made.{Own}
use Rattle.ja_aheap.specs.code.Own.{own_below, own_in_place}
use Rattle.ja_aheap.proofs.HeapLemmas.{shown_within}
use Rattle.ja_aheap.proofs.UpdateLemmas.{label_within}
use Rattle.ja_aheap.proofs.heap.AHeap.is_as_at_entry.Goals as goal

pub returns : goal.returns
returns c =
    let h = c.args.self.now in
    let o = c.get.result.now in
    let shown : own_below h.names o ≡ own_in_place h.names h.objects (label_number c.args.label) =
    shown_within h.names h.objects (label_number c.args.label) o
    (label_within c.args.label h.sites _ (lt-ltb _ _ c.if-label-self.false) h.placed)
    (c.get.ensures ∙ ap (λ (n : ℕ). get_or h.objects n o) c.label_number-number.ensures) in (
      λ said k. sym (ap (λ (own : Own). own k) shown) ∙ c.is_as_at_entry.ensures.0 said k,
      λ each. c.is_as_at_entry.ensures.1 (λ k. ap (λ (own : Own). own k) shown ∙ each k),
    )
