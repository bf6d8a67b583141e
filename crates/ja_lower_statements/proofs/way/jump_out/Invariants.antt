use Rattle.std.proofs.Common.{◌≡◌, map, drop}
use Rattle.ja_lower_statements.specs.code.Standing.{target_of, way_of}
use Rattle.ja_lower_statements.specs.Statements.{label_text}
use Rattle.ja_lower_statements.specs.Ways as spec
use Rattle.ja_lower_statements.proofs.way.jump_out.Given as goal

abbrev pub invariant-loop-way : goal.invariant-loop-way
invariant-loop-way l =
    spec.jump_to l.scene l.place (target_of l.jump (label_text l.label))
    (map way_of (drop l.way-index l.ways)) (record { listing = l.draft; kept = l.kept })
    ≡ spec.jump_to l.scene l.place (target_of l.jump (label_text l.label)) (map way_of l.ways)
    (spec.leaving l.initial.draft)
