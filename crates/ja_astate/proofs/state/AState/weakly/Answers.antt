use Rattle.std.proofs.Common.{Bool, if◌then◌else◌, ap, ◌∙◌}
use Rattle.ja_base.specs.declared.ids.Label.{Label}
use Rattle.ja_abstract.specs.declared.abstraction.Key.{Key}
use Rattle.ja_abstract.specs.Writes.{joined_at}
use Rattle.ja_aheap.specs.Heap.{heap_of}
use Rattle.ja_aheap.specs.Objects.{writes_of}
use Rattle.ja_astate.specs.State.{state_of}
use Rattle.ja_astate.proofs.StateLemmas.{state_with, target_label}
use Rattle.ja_astate.proofs.state.AState.weakly.Goals as goal

pub returns-clause-state : goal.returns-clause-state
returns-clause-state c = λ p of.
    let h = heap_of c.args.self.now.heap in
    let each = λ (m : Label) (k : Key). ap (λ (b : Bool). if b
    then joined_at (writes_of c.args.writes) (h.property m k) k else h.property m k)
    (target_label p h.sites c.args.label m of.sites c.requires.label) in
    ap (state_with c.args.self.now.registers.items) c.in_ok-weakly.ensures.written
    ∙ (λ i. record (state_of c.args.self.now) { property = λ m k. (each m k) i })
