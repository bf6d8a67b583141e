use Rattle.std.proofs.Common.{◌≡◌, map, take}
use Rattle.ja_prelude.specs.Table.{property_of}
use Rattle.ja_prelude.specs.code.Table.{seen_entry}
use Rattle.ja_prelude.proofs.objects.properties_of.Given as goal

abbrev pub invariant-loop-name : goal.invariant-loop-name
invariant-loop-name l =
    l.properties.items ≡ map (λ e. property_of (seen_entry e)) (take l.name-index l.entries)
