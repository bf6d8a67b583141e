use Rattle.std.proofs.Common.{false}
use Rattle.std.specs.Option.{option_map_or}
use Rattle.ja_base.specs.declared.ids.Label.{Label}
use Rattle.ja_abstract.specs.AbstractValue.{no_property}
use Rattle.ja_abstract.specs.Resolved.{renamed}
use Rattle.ja_value.specs.Value.{property_of}
use Rattle.ja_astate.specs.Looks.{view_of}
use Rattle.ja_astate.proofs.Loops.{joined_more}
use Rattle.ja_astate.proofs.reader.Reader.from_entry.Goals as goal

pub loop-origin-preserved : goal.loop-origin-preserved
loop-origin-preserved c =
    let w = view_of c.args.self.now in
    joined_more (λ (m : Label).
    option_map_or (renamed w.state.mask) (w.entries m c.args.key) no_property)
    c.deref-origin-items.result.now c.loop-origin.origin-index
    (record { site = record { 0 = 0 }; old = false }) c.loop-origin-test.true
    (property_of c.loop-origin.sum) (property_of c.in_ok-property.property)
    (property_of c.join.new.self) c.loop-origin.invariant c.in_ok-property.ensures
    c.in_ok-join.ensures.joined
