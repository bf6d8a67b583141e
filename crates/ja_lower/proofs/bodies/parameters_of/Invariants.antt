use Rattle.std.proofs.Common.{◌≡◌, map, take}
use Rattle.ja_lower_names.specs.Names.{number}
use Rattle.ja_lower.proofs.bodies.parameters_of.Given as goal

abbrev pub invariant-loop-parameter : goal.invariant-loop-parameter
invariant-loop-parameter l =
    l.ids.items ≡ map (λ p. number l.names p.text) (take l.parameter-index l.list)
