use Rattle.std.proofs.Common.{◌≡◌, ◌++◌, take}
use Rattle.std.specs.List.{flat_map}
use lib.Chars.{codes}
use Rattle.ja_run.specs.Ends.{primitive_text}
use Rattle.ja_run.proofs.transcript.push_more_arguments.Given as goal

-- the arguments so far are written
abbrev pub invariant-loop-arg : goal.invariant-loop-arg
invariant-loop-arg l =
    l.text.items ≡ l.initial.text.items ++ flat_map (λ r. codes ", " ++ primitive_text r)
    (take l.arg-index l.args)
