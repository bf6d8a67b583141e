use Rattle.std.proofs.Common.{◌≡◌, ◌++◌, drop, map}
use Rattle.std.specs.List.{enumerate_from}
use Rattle.ja_load.specs.Hosts.{device_object, opening_with}
use Rattle.ja_load.proofs.hosts.opening_with.Given as goal

abbrev pub invariant-loop-which : goal.invariant-loop-which
invariant-loop-which l =
    l.objects.items ++ map (λ row. device_object row.0)
    (enumerate_from l.which (drop l.which l.signatures)) ≡ opening_with l.names l.signatures
