use Rattle.std.proofs.Common.{◌≡◌, ◌++◌, drop, take}
use Rattle.ja_lower.specs.Lowering as spec
use Rattle.ja_lower.proofs.numbering.numbered.Given as goal

abbrev pub invariant-loop-info : goal.invariant-loop-info
invariant-loop-info l =
    take l.info-index l.info-items ++ spec.numbered l.first (drop l.info-index l.info-items)
    ≡ spec.numbered l.first_site l.fn.nodes
