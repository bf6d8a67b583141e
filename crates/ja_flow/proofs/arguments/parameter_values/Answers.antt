use Rattle.ja_rows.specs.Calls.{listed}
use Rattle.ja_astate.specs.Looks.{view_of}
use Rattle.ja_value.specs.Value.{value_of}
use Rattle.ja_flow.proofs.Loops.{listed_more}
use Rattle.ja_flow.proofs.arguments.parameter_values.Goals as goal

pub loop-number-preserved : goal.loop-number-preserved
loop-number-preserved c =
    listed_more value_of
    (listed (view_of c.args.reader.now) c.args.parameters c.args.list.now).parameter
    c.loop-number.values.items c.push.new.self.items c.in_ok-argument.field-0 c.loop-number.number
    c.loop-number.invariant c.in_ok-argument.ensures c.in_ok-push.ensures.items
