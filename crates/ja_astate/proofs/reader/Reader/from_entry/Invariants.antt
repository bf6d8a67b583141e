use Rattle.std.proofs.Common.{◌≡◌, take, map}
use Rattle.std.specs.Option.{option_map_or}
use Rattle.ja_base.specs.declared.ids.Label.{Label}
use Rattle.ja_abstract.specs.AbstractValue.{no_property}
use Rattle.ja_abstract.specs.Resolved.{renamed, join_all}
use Rattle.ja_value.specs.Value.{property_of}
use Rattle.ja_astate.specs.Looks.{view_of}
use Rattle.ja_astate.proofs.reader.Reader.from_entry.Given as goal

abbrev pub invariant-loop-origin : goal.invariant-loop-origin
invariant-loop-origin l =
    property_of l.sum ≡ join_all
    (map (λ (m : Label). option_map_or (renamed (view_of l.self).state.mask)
    ((view_of l.self).entries m l.key) no_property) (take l.origin-index l.origin-items))
