use Rattle.std.proofs.Common.{◌≡◌, ◌+◌, ◌++◌, drop, map}
use Rattle.std.specs.List.{enumerate_from}
use Rattle.ja_load.specs.Hosts.{device_info, device_sites}
use Rattle.ja_load.proofs.hosts.add_device_sites.Given as goal

abbrev pub invariant-loop-which : goal.invariant-loop-which
invariant-loop-which l =
    l.sites.items ++ map (λ row. device_info (l.first + row.0))
    (enumerate_from l.which (drop l.which l.signatures)) ≡ l.fn.sites.items
    ++ device_sites l.first l.signatures
