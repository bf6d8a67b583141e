use Rattle.std.proofs.Common.{◌≡◌}
use Rattle.ja_step.proofs.Searches.{IsFurther}
use Rattle.ja_step.proofs.beginning.object_spec.Given as goal

abbrev pub invariant-loop-spec : goal.invariant-loop-spec
invariant-loop-spec l =
    record {
      same : l.opening ≡ l.program.opening;
      further : IsFurther l.site l.opening l.spec-index;
    }
