use Rattle.std.proofs.Common.{◌∙◌, ap, sym}
use Rattle.ja_machine.specs.declared.machine.Put.TheVariants.{LengthObject, RangeError}
use Rattle.ja_machine.specs.Writes.{written, put_length, put_length_value}
use Rattle.ja_heap.proofs.Changes.{with_object_same}
use Rattle.ja_heap.proofs.object.Object.put_length_value.Goals as goal

pub returns-in-Object-clause-put : goal.returns-in-Object-clause-put
returns-in-Object-clause-put c =
    λ h a there. ap (λ k. written k LengthObject) (with_object_same h a c.args.self.now there)
    ∙ ap (put_length_value h a c.args.self.now) (sym c.in-Object.is)

pub returns-in-None-clause-put : goal.returns-in-None-clause-put
returns-in-None-clause-put c =
    λ h a there. ap (λ k. written k RangeError) (with_object_same h a c.args.self.now there)
    ∙ (ap (put_length h a c.args.self.now) c.in-None.ensures.value
    ∙ ap (put_length_value h a c.args.self.now) (sym c.in-Primitive.is))
