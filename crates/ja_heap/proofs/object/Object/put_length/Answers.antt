use Rattle.std.proofs.Common.{◌∙◌, ap}
use Rattle.ja_machine.specs.Heap.{property_of}
use Rattle.ja_machine.specs.Writes.{object_with_value, property_number}
use Rattle.ja_heap.proofs.Puts.{length_put}
use Rattle.ja_heap.proofs.object.Object.put_length.Goals as goal

pub returns-clause-put : goal.returns-clause-put
returns-clause-put c =
    let o = c.args.self.now in
    length_put o c.set_value.new.self c.cut.new.self c.args.n c.length-old.result
    (c.length-old.ensures ∙ ap (λ l. property_number (property_of o l)) c.requires)
    (c.in_ok-set_value.ensures.written ∙ (λ i.
    object_with_value o (c.requires i) (c.whole_number.ensures i))) c.cut.ensures
