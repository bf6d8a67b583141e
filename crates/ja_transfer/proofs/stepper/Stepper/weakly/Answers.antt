use Rattle.std.proofs.lemmas.Result.{IfOk-weaker}
use Rattle.ja_aheap.specs.Heap.{heap_of}
use Rattle.ja_transfer.proofs.ShapeLemmas.{one_shape_after, heap_alike, label_of_heap, writes_of_heap}
use Rattle.ja_transfer.proofs.stepper.Stepper.weakly.Goals as goal

pub weakly-requires : goal.weakly-requires
weakly-requires c =
    let r = c.args.self.now.reader in
    let p = r.program.now in
    let h = heap_of c.args.state.now.heap in
    let of = heap_alike p r.state.now c.args.state.now r.heap_is c.requires.shape in
    record {
      label = label_of_heap p h of c.args.label c.requires.label;
      keys = writes_of_heap p h of c.args.writes.list.items c.requires.keys;
    }

pub returns-clause-state : goal.returns-clause-state
returns-clause-state c =
    let r = c.args.self.now.reader in
    let p = r.program.now in
    let of = heap_alike p r.state.now c.args.state.now r.heap_is c.requires.shape in
    IfOk-weaker c.weakly.result _ _ (λ _ told. told p of) c.weakly.ensures.state

pub returns-clause-shape : goal.returns-clause-shape
returns-clause-shape c =
    one_shape_after c.args.self.now.reader.state.now c.args.state.now c.weakly.new.self
    c.requires.shape c.weakly.ensures.shape
