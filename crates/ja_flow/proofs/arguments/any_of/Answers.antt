use Rattle.ja_rows.specs.Out.{at}
use Rattle.ja_astate.specs.Looks.{view_of}
use Rattle.ja_value.specs.Value.{value_of}
use Rattle.ja_flow.proofs.Loops.{value_more}
use Rattle.ja_flow.proofs.arguments.any_of.Goals as goal

pub loop-register-preserved : goal.loop-register-preserved
loop-register-preserved c =
    value_more (at (view_of c.args.reader.now)) c.args.list.now c.loop-register.register-index
    (record { 0 = 0 }) c.loop-register-test.true (value_of c.loop-register.sum)
    (value_of c.register.result.now) (value_of c.join.new.self) c.loop-register.invariant
    c.register.ensures c.in_ok-join.ensures.joined
