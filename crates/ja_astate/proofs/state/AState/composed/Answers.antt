use Rattle.std.proofs.Common.{ap, map, ◌∙◌}
use Rattle.ja_base.specs.declared.ids.Label.{Label}
use Rattle.ja_abstract.specs.declared.abstraction.Key.{Key}
use Rattle.ja_abstract.specs.Composed.{all_of, composed_mask, renamed_value}
use Rattle.ja_abstract.specs.Resolved.{resolved}
use Rattle.ja_value.specs.declared.value.AValue.{AValue}
use Rattle.ja_value.specs.Value.{value_of}
use Rattle.ja_aheap.specs.Heap.{heap_of, half}
use Rattle.ja_astate.specs.State.{register_in}
use Rattle.ja_astate.proofs.RegisterLemmas.{registers_mapped, renamed_undefined}
use Rattle.ja_astate.proofs.MadeLemmas.{own_same}
use Rattle.ja_astate.proofs.state.AState.composed.Goals as goal

pub returns-clause-state : goal.returns-clause-state
returns-clause-state c = λ p of.
    let h = heap_of c.args.self.now.heap in
    let later = heap_of c.args.later.now.heap in
    let registers = registers_mapped (renamed_value later.mask) c.in_ok-registers.registers.items
    c.args.self.now.registers.items (renamed_undefined later.mask)
    (c.in_ok-registers.ensures ∙ ap (map (λ (x : AValue). renamed_value later.mask (value_of x)))
    c.deref.ensures.value) in
    let each = λ (l : Label) (k : Key). own_same p h.names of.names
    (resolved (half later) (all_of (half h)) l) k in
    let heap = c.in_ok-heap.ensures in
    (λ i. record {
      register = λ r. (registers r) i;
      property = (heap i).property;
      mask = (heap i).mask;
    })
    ∙ (λ i. record {
      register = λ r. renamed_value later.mask (register_in c.args.self.now.registers.items r);
      property = λ l k. (each l k) i;
      mask = λ s. composed_mask (h.mask s) (later.mask s);
    })
