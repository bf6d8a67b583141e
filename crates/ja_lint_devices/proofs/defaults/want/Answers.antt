-- Where the usual values are refused, it is want of memory.
use Rattle.std.proofs.Common.{Bool, true, false, ap, sym, ◌∙◌}
use Rattle.std.proofs.lemmas.Bool.{false≢true}
use Rattle.ja_lint_devices.specs.declared.refused.Refused.{Refused}
use Rattle.ja_lint_devices.specs.declared.refused.Refused.TheVariants.{Kinds as BadKinds, TooMany, BadName, Twice, Memory}
use Rattle.ja_lint_devices.proofs.Examples.{one_or_other, usual}
use Rattle.ja_lint_devices.proofs.defaults.want.Goals as goal

is_memory : Refused → Bool
is_memory (BadKinds index name fault) = false
is_memory TooMany = false
is_memory (BadName index name) = false
is_memory (Twice first second name) = false
is_memory Memory = true

pub unreachable-requires-in-BadName : goal.unreachable-requires-in-BadName
unfolding is_memory
unreachable-requires-in-BadName c =
    false≢true (sym (ap is_memory c.in-BadName.is)
    ∙ ap is_memory (one_or_other _ _ c.args.fault.now usual c.requires))
