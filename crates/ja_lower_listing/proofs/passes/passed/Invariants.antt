use Rattle.std.proofs.Common.{◌-◌, length, drop}
use Rattle.ja_lower_listing.specs.code.Passes.{HasPassed}
use Rattle.ja_lower_listing.proofs.passes.passed.Given as goal

abbrev pub invariant-loop-done : goal.invariant-loop-done
invariant-loop-done l = HasPassed l.backward l.items (drop (length l.items - l.done) l.items)
