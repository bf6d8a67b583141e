use Rattle.std.proofs.Common.{◌≡◌, ◌++◌, map}
use Rattle.ja_load.specs.Hosts.{object_with_devices}
use Rattle.ja_prelude.specs.Table.{opening_objects}
use Rattle.ja_load.proofs.hosts.built_in.Given as goal

abbrev pub invariant-loop-object : goal.invariant-loop-object
invariant-loop-object l =
    l.objects.items ++ map (object_with_devices l.names l.signatures) l.object-iterator.rest.items
    ≡ map (object_with_devices l.names l.signatures) opening_objects
