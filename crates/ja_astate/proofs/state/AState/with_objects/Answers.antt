use Rattle.std.proofs.Common.{ap, map, sym, ◌∙◌, arith, length}
use Rattle.ja_abstract.specs.AbstractState.{AbstractState, aged, new, with_made}
use Rattle.ja_value.specs.declared.value.AValue.{AValue}
use Rattle.ja_value.specs.Value.{value_of}
use Rattle.ja_aheap.specs.Heap.{HeapMap, made_in, with_own_in}
use Rattle.ja_aheap.specs.Objects.{own_in}
use Rattle.ja_astate.specs.State.{state_of}
use Rattle.ja_astate.proofs.RegisterLemmas.{registers_mapped, registers_counted, aged_undefined}
use Rattle.ja_astate.proofs.MadeLemmas.{objects_made}
use Rattle.ja_astate.proofs.state.AState.with_objects.Goals as goal

pub returns-clause-state : goal.returns-clause-state
returns-clause-state c = λ p of.
    let a = c.args.self.now in
    let s = c.args.first in
    let t = c.args.second in
    let own = own_in c.args.made in
    let other = own_in c.args.other in
    let once = registers_mapped (aged s) c.in_ok-once.once.items a.registers.items
    (aged_undefined s)
    (c.in_ok-once.ensures ∙ ap (map (λ (x : AValue). aged s (value_of x))) c.deref.ensures.value) in
    let twice = registers_mapped (aged t) c.in_ok-registers.registers.items c.in_ok-once.once.items
    (aged_undefined t)
    (c.in_ok-registers.ensures
    ∙ ap (map (λ (x : AValue). aged t (value_of x))) c.deref-2.ensures.value) in
    let heap = c.in_ok-make_two.ensures
    ∙ ap (λ (h : HeapMap). with_own_in (with_own_in (made_in (made_in h s) t) (new s) own) (new t)
    other) c.in_ok-heap.ensures in
    let each = objects_made p a.heap s t own other c.requires.apart of.names in
    let made : AbstractState = with_made (with_made (state_of a) s) t in
    (λ i. record {
      register = λ r. (twice r ∙ ap (aged t) (once r)) i;
      property = (heap i).property;
      mask = (heap i).mask;
    })
    ∙ (λ i. record made { property = λ l k. (each l k) i })

pub returns-clause-shape : goal.returns-clause-shape
returns-clause-shape c =
    let s = c.args.first in
    let t = c.args.second in
    let heap = c.in_ok-make_two.ensures
    ∙ ap (λ (h : HeapMap). with_own_in (with_own_in (made_in (made_in h s) t) (new s)
    (own_in c.args.made)) (new t) (own_in c.args.other)) c.in_ok-heap.ensures in
    let once = registers_counted (aged s) c.in_ok-once.once.items c.deref.result.now
    c.in_ok-once.ensures in
    let twice = registers_counted (aged t) c.in_ok-registers.registers.items c.deref-2.result.now
    c.in_ok-registers.ensures in
    record {
      sites = sym (ap (λ (h : HeapMap). h.sites) heap);
      names = sym (ap (λ (h : HeapMap). h.names) heap);
      registers =
          omega (
            arith,
            once,
            twice,
            ap length c.deref.ensures.value,
            ap length c.deref-2.ensures.value,
          );
    }
