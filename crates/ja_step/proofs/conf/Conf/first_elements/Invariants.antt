use Rattle.ja_machine.specs.Calls.{element}
use Rattle.ja_machine.specs.Heap.{content_at}
use Rattle.ja_machine.specs.Objects.{index_text}
use Rattle.ja_step.proofs.Elements.{AreFirst}
use Rattle.ja_step.proofs.conf.Conf.first_elements.Given as goal

abbrev pub invariant-loop-index : goal.invariant-loop-index
invariant-loop-index l =
    AreFirst (λ i. element (content_at l.self.heap l.a (index_text i))) l.count l.index
    l.values.items
