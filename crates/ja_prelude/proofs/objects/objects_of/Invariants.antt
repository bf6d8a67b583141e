use Rattle.std.proofs.Common.{◌≡◌, map, take}
use Rattle.ja_prelude.specs.Table.{object_with, property_of}
use Rattle.ja_prelude.specs.code.Table.{seen_entry}
use Rattle.ja_prelude.proofs.objects.objects_of.Given as goal

abbrev pub invariant-loop-object : goal.invariant-loop-object
invariant-loop-object l =
    l.objects.items ≡ map (λ row. object_with row.1
    (map (λ e. property_of (seen_entry e)) row.2.now)) (take l.object-index l.table)
