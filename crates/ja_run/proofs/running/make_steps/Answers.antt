use Rattle.std.proofs.Common.{arith}
use Rattle.ja_step.specs.code.Steps.{conf_of}
use Rattle.ja_run.proofs.Steps.{begun, there, not_given, given_heard, given_steps, given_more, given_ends, given_answered, with_error}
use Rattle.ja_run.proofs.running.make_steps.Goals as goal

pub loop-made-init : goal.loop-made-init
loop-made-init g c =
    let p = c.args.program.now in
    begun p c.args.devices.now c.args.calls.now.items (conf_of c.args.conf.now)
    (c.answers_fit.ensures p c.requires.program) (c.never_stuck.ensures p c.requires.program)
    c.requires.devices c.requires.none c.requires.opening

pub give-requires : goal.give-requires
give-requires g c = there c.loop-made.invariant

pub returns-in_err-answer-clause-memory : goal.returns-in_err-answer-clause-memory
returns-in_err-answer-clause-memory g c =
    with_error c.from_residual.result (not_given c.loop-made.invariant c.give.new.devices
    c.args.limit c.loop-made-test.true c.in_err-answer.ensures.memory)

pub step-requires-clause-fits : goal.step-requires-clause-fits
step-requires-clause-fits g c =
    given_steps c.loop-made.invariant c.give.new.devices c.give.new.calls.items c.in-Answered.answer
    (rw c.in-Answered.is at c.in_ok-answer.ensures.given)

pub returns-in_err-end-clause-memory : goal.returns-in_err-end-clause-memory
returns-in_err-end-clause-memory g c =
    let recorded = c.give.new.calls.items in
    let by = rw c.in-Answered.is at c.in_ok-answer.ensures.given in
    with_error c.from_residual-in_err-end.result (
      recorded,
      given_heard c.loop-made.invariant c.give.new.devices recorded
          c.in-Answered.answer by,
      given_answered c.loop-made.invariant c.give.new.devices recorded
          c.in-Answered.answer c.args.limit c.loop-made-test.true by,
    )

pub returns-in-Some-clause-made : goal.returns-in-Some-clause-made
returns-in-Some-clause-made g c =
    let by = rw c.in-Answered.is at c.in_ok-answer.ensures.given in (
      omega (arith, c.loop-made-test.true),
      given_ends c.loop-made.invariant c.give.new.devices
          c.give.new.calls.items c.in-Answered.answer c.in-Some.end (conf_of c.step.new.conf) by
          (rw c.in-Some.is at c.in_ok-end.ensures),
    )

pub loop-made-preserved : goal.loop-made-preserved
loop-made-preserved g c =
    let by = rw c.in-Answered.is at c.in_ok-answer.ensures.given in
    given_more c.loop-made.invariant c.give.new.devices c.give.new.calls.items c.in-Answered.answer
    (conf_of c.step.new.conf) (c.steps_go_along_edges.ensures c.args.program.now) by
    (rw c.in_default.is at c.in_ok-end.ensures)
