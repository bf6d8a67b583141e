use Rattle.std.proofs.Common.{◌≡◌, map, take}
use Rattle.ja_machine.specs.Machine.{opening_object, opening_property}
use Rattle.ja_step.proofs.beginning.opening_object.Given as goal

abbrev pub invariant-loop-property : goal.invariant-loop-property
invariant-loop-property l = record {
  same : l.properties ≡ l.spec.properties;
  made : l.object ≡ record (opening_object l.program l.spec)
      { properties = map (opening_property l.program) (take l.property-index l.properties) };
}
