use Rattle.std.proofs.Common.{◌∙◌}
use Rattle.ja_prim.proofs.Capping.{times_next, raised_enough}
use Rattle.ja_prim.proofs.capped.raised.Goals as goal

pub times-preserved : goal.times-preserved
times-preserved c =
    times_next c.args.value c.times.product c.min-product.result c.times._time c.times.invariant
    c.min-product.ensures

pub returns : goal.returns
returns c =
    c.times.invariant ∙ raised_enough c.args.value c.times._time c.min-time-end.result c.args.power
    c.min-time-end.ensures c.times-test.false c.times.auto._time-end
