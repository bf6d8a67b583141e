use Rattle.std.proofs.Common.{take}
use Rattle.std.specs.List.{flat_map}
use Rattle.ja_report.specs.code.Output.{Adds}
use Rattle.ja_report.proofs.ContextLemmas.{own_lines}
use Rattle.ja_report.proofs.table.push_contexts.Given as goal

abbrev pub invariant-loop-own : goal.invariant-loop-own
invariant-loop-own l =
    Adds l.program (flat_map (own_lines l.program) (take l.own-index l.own-items)) l.initial.out
    l.out
