use Rattle.ja_abstract.proofs.Order.{property_equal}
use Rattle.ja_value.specs.Value.{property_of}
use Rattle.ja_cert_read.proofs.objects.is_same.Goals as goal

pub returns-then-leq : goal.returns-then-leq
returns-then-leq c = λ back.
    property_equal (property_of c.args.property.now) (property_of c.args.other.now)
    (c.leq.ensures.order.0 c.if-leq.true) (c.leq-then-leq.ensures.order.0 back)
