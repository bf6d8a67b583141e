use Rattle.std.proofs.Common.{length, refl, sym, arith, below_more}
use Rattle.ja_value.specs.Value.{value_of}
use Rattle.ja_astate.specs.State.{register_in}
use Rattle.ja_astate.proofs.RegisterLemmas.{register_here, leq_along, leq_end}
use Rattle.ja_astate.proofs.registers.leq_values.Goals as goal

pub loop-register-preserved : goal.loop-register-preserved
loop-register-preserved c =
    let values = c.args.values.now in
    let others = c.args.others.now in
    let i = c.loop-register.register in
    let x = c.index-values-register.result in
    let y = c.index-others-register.result in
    below_more _ _ c.loop-register.invariant
    (leq_along (value_of x) (value_of y) (register_in values i) (register_in others i)
    (register_here values i _ x refl (omega arith) c.index-values-register.is)
    (register_here others i _ y refl (omega arith) c.index-others-register.is)
    (c.leq.ensures.order.0 c.if-not-leq.false))

pub returns : goal.returns
returns c =
    let all = leq_end c.args.values.now c.args.others.now (length c.args.values.now) refl
    (sym c.requires) (λ r below. c.loop-register.invariant r (omega arith)) in
    ((λ said. all), (λ held. refl))
