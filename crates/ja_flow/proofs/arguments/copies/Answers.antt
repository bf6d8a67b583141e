use Rattle.ja_value.specs.Value.{value_of}
use Rattle.ja_flow.proofs.Loops.{listed_more}
use Rattle.ja_flow.proofs.arguments.copies.Goals as goal

pub loop-preserved : goal.loop-preserved
loop-preserved c =
    listed_more value_of (λ j. value_of c.args.value.now) c.loop.values.items
    c.push.new.self.items c.in_ok-copy.field-0 c.loop.counter c.loop.invariant c.in_ok-copy.ensures
    c.in_ok-push.ensures.items
