use Rattle.std.proofs.Common.{rules}
use Rattle.ja_solve.proofs.Sweeps.{both_on, explains_from, goes_both, sweep_settled}
use Rattle.ja_rules.proofs.Visiting.{ok_after}
use Rattle.ja_solve.proofs.solver.Work.sweep.Goals as goal

pub returns-in_err-settle_steps-clause-fault : goal.returns-in_err-settle_steps-clause-fault
returns-in_err-settle_steps-clause-fault c =
    explains_from c.args.self.now c.settle.new.self c.in_ok-settle.ensures.goes_on _
    (search rules)

pub returns-in_err-settle_along-clause-fault : goal.returns-in_err-settle_along-clause-fault
returns-in_err-settle_along-clause-fault c =
    explains_from c.args.self.now c.settle_steps.new.self
    (goes_both c.args.self.now c.settle.new.self c.settle_steps.new.self
    c.in_ok-settle.ensures.goes_on c.in_ok-settle_steps.ensures.goes_on) _ (search rules)

pub returns-clause-goes_on : goal.returns-clause-goes_on
returns-clause-goes_on c =
    ok_after c.settle_along-2.result c.settle_along-2.ensures.goes_on
    (λ last. goes_both c.args.self.now c.settle_along.new.self c.settle_along-2.new.self
    (goes_both c.args.self.now c.settle_steps.new.self c.settle_along.new.self
    (goes_both c.args.self.now c.settle.new.self c.settle_steps.new.self
    c.in_ok-settle.ensures.goes_on c.in_ok-settle_steps.ensures.goes_on)
    c.in_ok-settle_along.ensures.goes_on) last)

pub returns-clause-settled : goal.returns-clause-settled
returns-clause-settled c =
    both_on c.settle_along-2.result c.settle_along-2.ensures.goes_on c.settle_along-2.ensures.settled
    (λ last backs same. sweep_settled c.args.self.now c.settle.new.self
    c.settle_steps.new.self c.settle_along.new.self c.settle_along-2.new.self
    c.in_ok-settle.ensures.goes_on c.in_ok-settle_steps.ensures.goes_on
    c.in_ok-settle_along.ensures.goes_on last c.in_ok-settle.ensures.settled
    c.in_ok-settle_steps.ensures.settled c.in_ok-settle_along.ensures.settled
    backs same)

pub returns-clause-fault : goal.returns-clause-fault
returns-clause-fault c =
    explains_from c.args.self.now c.settle_along.new.self
    (goes_both c.args.self.now c.settle_steps.new.self c.settle_along.new.self
    (goes_both c.args.self.now c.settle.new.self c.settle_steps.new.self
    c.in_ok-settle.ensures.goes_on c.in_ok-settle_steps.ensures.goes_on)
    c.in_ok-settle_along.ensures.goes_on) c.settle_along-2.result c.settle_along-2.ensures.fault
