use Rattle.std.proofs.Common.{ap, map, ◌∙◌}
use Rattle.ja_abstract.specs.AbstractState.{AbstractState, aged, new, with_made}
use Rattle.ja_value.specs.declared.value.AValue.{AValue}
use Rattle.ja_value.specs.Value.{value_of}
use Rattle.ja_aheap.specs.Heap.{HeapMap, made_in, with_own_in}
use Rattle.ja_aheap.specs.Objects.{own_in}
use Rattle.ja_astate.specs.State.{state_of}
use Rattle.ja_astate.proofs.RegisterLemmas.{registers_mapped, aged_undefined}
use Rattle.ja_astate.proofs.MadeLemmas.{object_made}
use Rattle.ja_astate.proofs.state.AState.with_object.Goals as goal

pub returns-clause-state : goal.returns-clause-state
returns-clause-state c = λ p of.
    let a = c.args.self.now in
    let s = c.args.site in
    let own = own_in c.args.made in
    let registers = registers_mapped (aged s) c.in_ok-registers.registers.items a.registers.items
    (aged_undefined s)
    (c.in_ok-registers.ensures ∙ ap (map (λ (x : AValue). aged s (value_of x)))
    c.deref.ensures.value) in
    let heap = c.in_ok-make.ensures
    ∙ ap (λ (h : HeapMap). with_own_in (made_in h s) (new s) own) c.in_ok-heap.ensures in
    let each = object_made p a.heap s own of.names in
    let made : AbstractState = with_made (state_of a) s in
    (λ i. record {
      register = λ r. (registers r) i;
      property = (heap i).property;
      mask = (heap i).mask;
    })
    ∙ (λ i. record made { property = λ l k. (each l k) i })
