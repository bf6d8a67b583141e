use Rattle.std.proofs.Common.{◌≡◌, map, drop}
use Rattle.ja_lower_statements.specs.code.Standing.{way_of}
use Rattle.ja_lower_statements.specs.Ways as spec
use Rattle.ja_lower_statements.proofs.way.leave_all.Given as goal

abbrev pub invariant-loop-way : goal.invariant-loop-way
invariant-loop-way l =
    spec.leave_all l.scene l.place l.value (map way_of (drop l.way-index l.ways))
    (record { listing = l.draft; kept = l.kept })
    ≡ spec.leave_all l.scene l.place l.value (map way_of l.ways) (spec.leaving l.initial.draft)
