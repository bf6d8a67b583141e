use Rattle.std.proofs.Common.{◌≡◌, ◌++◌, drop, map}
use Rattle.std.specs.List.{enumerate_from}
use Rattle.ja_load.specs.Hosts.{property_named}
use Rattle.ja_load.proofs.hosts.with_devices.Given as goal

abbrev pub invariant-loop-which : goal.invariant-loop-which
invariant-loop-which l =
    l.all.items ++ map (λ row. property_named row.1 row.0)
    (enumerate_from l.which (drop l.which l.names)) ≡ l.initial.all.items
    ++ map (λ row. property_named row.1 row.0) (enumerate_from 0 l.names)
