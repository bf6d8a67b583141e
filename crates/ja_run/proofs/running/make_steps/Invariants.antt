use Rattle.ja_step.specs.code.Steps.{conf_of}
use Rattle.ja_run.proofs.Steps.{IsUnderWay}
use Rattle.ja_run.proofs.running.make_steps.Given as goal

-- the steps so far lead to the state, and the devices have answered the calls in them
abbrev pub invariant-loop-made : goal.invariant-loop-made
invariant-loop-made g l =
    IsUnderWay l.program l.fn.devices l.devices l.calls.items l.made (conf_of l.conf)
