use Rattle.std.proofs.Common.{◌∙◌, ap}
use Rattle.ja_abstract.specs.AbstractValue.{AbstractProperty, join_properties}
use Rattle.ja_value.specs.Value.{property_of}
use Rattle.ja_aheap.proofs.WriteLemmas.{joined_here}
use Rattle.ja_aheap.proofs.object.AObject.join_at.Goals as goal

pub returns : goal.returns
returns c =
    let each = joined_here c.args.self.now c.args.key (property_of c.join.new.self)
    (property_of c.args.property.now)
    (c.in_ok-join.ensures.joined ∙ ap (λ (q : AbstractProperty).
    join_properties q (property_of c.args.property.now))
    (c.in_ok-joined.ensures ∙ c.read.ensures)) in
    c.in_ok-write.ensures.written ∙ (λ i k. (each k) i)
