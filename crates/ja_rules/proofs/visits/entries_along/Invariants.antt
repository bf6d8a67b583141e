-- Each edge so far has its entry.
use Rattle.std.proofs.Common.{take}
use Rattle.ja_astate.specs.Looks.{view_of}
use Rattle.ja_rules.specs.code.Stepping.{AreEntered}
use Rattle.ja_rules.proofs.visits.entries_along.Given as goal

abbrev pub invariant-loop-edge : goal.invariant-loop-edge
invariant-loop-edge l =
    AreEntered l.reader.program.now (view_of l.reader) l.info (take l.edge-index l.edges)
    l.entries.items
