use Rattle.std.proofs.Common.{◌≡◌, take}
use Rattle.ja_lower_draft.specs.code.Parts as spec
use Rattle.ja_lower_draft.proofs.part.+lines.Given as goal

abbrev pub invariant-lines-loop-part : goal.invariant-lines-loop-part
invariant-lines-loop-part l = l.items.items ≡ spec.lines_of (take l.part-index l.parts)
