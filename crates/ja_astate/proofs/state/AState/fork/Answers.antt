use Rattle.std.proofs.Common.{ap, refl, map, ◌∙◌}
use Rattle.ja_abstract.specs.AbstractValue.{AbstractValue}
use Rattle.ja_value.specs.Value.{value_of}
use Rattle.ja_astate.proofs.RegisterLemmas.{registers_mapped}
use Rattle.ja_astate.proofs.state.AState.fork.Goals as goal

pub returns-clause-state : goal.returns-clause-state
returns-clause-state c =
    let registers = registers_mapped (λ (v : AbstractValue). v) c.in_ok-registers.registers.items
    c.args.self.now.registers.items refl
    (c.in_ok-registers.ensures ∙ ap (map value_of) c.deref.ensures.value) in
    let heap = c.in_ok-heap.ensures in
    λ i. record {
      register = λ r. (registers r) i;
      property = (heap i).property;
      mask = (heap i).mask;
    }
