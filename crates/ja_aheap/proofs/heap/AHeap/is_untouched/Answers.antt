use Rattle.std.proofs.Common.{◌≡◌, ◌∙◌, sym, arith}
use Rattle.std.proofs.lemmas.Bool.{true≢false}
use Rattle.ja_base.specs.declared.ids.Label.{Label}
use Rattle.ja_abstract.specs.AbstractValue.{entry_property}
use Rattle.ja_abstract.specs.AbstractState.{new, old}
use Rattle.ja_aheap.specs.Heap.{heap_of}
use Rattle.ja_aheap.proofs.LabelLemmas.{both_labels}
use Rattle.ja_aheap.proofs.heap.AHeap.is_untouched.Goals as goal

pub returns-then-is_as_at_entry : goal.returns-then-is_as_at_entry
returns-then-is_as_at_entry c =
    let h = heap_of c.args.self.now in
    let s = c.args.site in (
      λ said l k. both_labels (λ (m : Label). h.property m k ≡ entry_property) s
          (c.is_as_at_entry.ensures.0 c.if-is_as_at_entry.true k)
          (c.is_as_at_entry-then-is_as_at_entry.ensures.0 said k) l,
      λ all. c.is_as_at_entry-then-is_as_at_entry.ensures.1
          (λ k. all (old s) k (omega arith) (omega arith)),
    )

pub returns-else-is_as_at_entry : goal.returns-else-is_as_at_entry
returns-else-is_as_at_entry c =
    let s = c.args.site in (
      λ wrong. absurd (true≢false (sym wrong ∙ c.if-is_as_at_entry.false)),
      λ all. c.is_as_at_entry.ensures.1 (λ k. all (new s) k (omega arith) (omega arith)),
    )
