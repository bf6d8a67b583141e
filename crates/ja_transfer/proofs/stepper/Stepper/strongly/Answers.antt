use Rattle.std.proofs.Common.{ap, ◌∙◌}
use Rattle.ja_abstract.specs.AbstractState.{AbstractState}
use Rattle.ja_abstract.specs.Writes.{strong_update}
use Rattle.ja_aheap.specs.Heap.{heap_of}
use Rattle.ja_aheap.specs.Objects.{writes_of}
use Rattle.ja_transfer.proofs.ShapeLemmas.{one_shape_after, heap_alike, label_of_heap, writes_of_heap}
use Rattle.ja_transfer.proofs.stepper.Stepper.strongly.Goals as goal

pub strongly-requires : goal.strongly-requires
strongly-requires c =
    let r = c.args.self.now.reader in
    let p = r.program.now in
    let a = c.in_ok-state.state in
    let h = heap_of a.heap in
    let of = heap_alike p r.state.now a r.heap_is c.in_ok-state.ensures.shape in
    record {
      label = label_of_heap p h of c.args.label c.requires.label;
      keys = writes_of_heap p h of c.args.writes.list.items c.requires.keys;
    }

pub returns-clause-state : goal.returns-clause-state
returns-clause-state c =
    c.in_ok-strongly.ensures.state
    ∙ ap (λ (a : AbstractState). strong_update a c.args.label (writes_of c.args.writes))
    c.in_ok-state.ensures.state

pub returns-clause-shape : goal.returns-clause-shape
returns-clause-shape c =
    one_shape_after c.args.self.now.reader.state.now c.in_ok-state.state c.strongly.new.self
    c.in_ok-state.ensures.shape c.strongly.ensures.shape
