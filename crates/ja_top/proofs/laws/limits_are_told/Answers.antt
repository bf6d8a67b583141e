-- Each text computes.
use Rattle.std.specs.Fmt.{digits}
use Rattle.std.proofs.Common.{refl}
use Rattle.ja_top.proofs.laws.limits_are_told.Goals as goal

pub returns : goal.returns
unfolding digits
returns c = record { bytes = refl; levels = refl; functions = refl; nodes = refl }
