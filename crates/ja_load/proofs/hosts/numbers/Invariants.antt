use Rattle.std.proofs.Common.{◌≡◌, map, take}
use Rattle.ja_lower_names.specs.Names.{number}
use Rattle.ja_load.proofs.hosts.numbers.Given as goal

abbrev pub invariant-loop-signature : goal.invariant-loop-signature
invariant-loop-signature l =
    l.numbers.items ≡ map (λ s. number l.names s.name) (take l.signature-index l.signatures)
