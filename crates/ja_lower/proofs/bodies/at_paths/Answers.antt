use Rattle.std.proofs.Common.{sym, ◌∙◌, arith}
use Rattle.ja_lower.proofs.Wholes.{at_paths_done}
use Rattle.ja_lower.proofs.bodies.at_paths.Goals as goal

pub returns : goal.returns
returns c =
    sym (at_paths_done _ _ _ (omega (arith, c.in-None.ensures.steps.0))) ∙ c.loop-body.invariant
