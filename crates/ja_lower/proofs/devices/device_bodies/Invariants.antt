use Rattle.std.proofs.Common.{◌≡◌, ◌++◌, map, drop}
use Rattle.std.specs.List.{enumerate_from}
use Rattle.ja_lower.specs.Lowering as spec
use Rattle.ja_lower.proofs.devices.device_bodies.Given as goal

abbrev pub invariant-loop-which : goal.invariant-loop-which
invariant-loop-which l =
    l.bodies.items ++ map (λ row. spec.device_body row.0 row.1)
    (enumerate_from l.which (drop l.which l.signatures)) ≡ spec.device_bodies l.signatures
