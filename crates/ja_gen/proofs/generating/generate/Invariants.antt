use Rattle.std.proofs.Common.{◌≡◌, ◌-◌}
use Rattle.std.specs.String.{string_bytes}
use Rattle.ja_gen.specs.Generated.{generated_text}
use Rattle.ja_gen.proofs.generating.generate.Given as goal

-- the classes before the next one are written
abbrev pub invariant-loop-i : goal.invariant-loop-i
invariant-loop-i l = string_bytes l.text ≡ generated_text (l.i - 1)
