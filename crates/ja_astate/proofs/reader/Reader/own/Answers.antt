use Rattle.ja_abstract.specs.declared.abstraction.Key.TheVariants as key
use Rattle.ja_abstract.specs.Resolved.{resolved}
use Rattle.ja_value.specs.Value.{property_of}
use Rattle.ja_astate.specs.Looks.{view_of}
use Rattle.ja_astate.proofs.Loops.{joined_more}
use Rattle.ja_astate.proofs.reader.Reader.own.Goals as goal

pub loop-key-preserved : goal.loop-key-preserved
loop-key-preserved c =
    let w = view_of c.args.self.now in
    joined_more (resolved w.state w.entries c.args.label) c.args.keys.now c.loop-key.key-index
    (key.Name (record { 0 = 0 })) c.loop-key-test.true (property_of c.loop-key.sum)
    (property_of c.in_ok-property.property) (property_of c.join.new.self) c.loop-key.invariant
    c.in_ok-property.ensures c.in_ok-join.ensures.joined
