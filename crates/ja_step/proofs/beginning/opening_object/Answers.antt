use Rattle.std.proofs.Common.{◌≡◌, List, Some, refl, subst}
use Rattle.std.specs.Prelude.{slice_get}
use Rattle.std.proofs.lemmas.Option.{slice_get_read}
use Rattle.ja_graph.specs.declared.program.PropertySpec.{PropertySpec}
use Rattle.ja_step.proofs.Opened.{defined_next}
use Rattle.ja_step.proofs.beginning.opening_object.Goals as goal

pub name_text-name-requires : goal.name_text-name-requires
name_text-name-requires c =
    let q : PropertySpec = c.property-item.result in
    let n = c.loop-property.property-index in
    let at : slice_get c.args.spec.now.properties n
    ≡ Some q = subst (λ (xs : List PropertySpec). slice_get xs n ≡ Some q)
    c.as_slice-properties.ensures (slice_get_read c.as_slice-properties.result.now _ n q refl
    c.loop-property-test.true c.property-item.is) in
    c.requires.spec.1.names n q at

pub loop-property-preserved : goal.loop-property-preserved
loop-property-preserved c =
    let q : PropertySpec = c.property-item.result in
    let n = c.loop-property.property-index in
    let at : slice_get c.args.spec.now.properties n
    ≡ Some q = subst (λ (xs : List PropertySpec). slice_get xs n ≡ Some q)
    c.as_slice-properties.ensures (slice_get_read c.as_slice-properties.result.now _ n q refl
    c.loop-property-test.true c.property-item.is) in
    let next = defined_next c.args.program.now c.requires.program c.requires.spec.0 c.args.spec.now
    c.requires.spec.1 n q at in
    record {
      same = c.loop-property.invariant.same;
      made =
          rw (
            c.in_ok-define.ensures.defined,
            c.in_ok-content.ensures,
            c.name_text-name.ensures,
            c.loop-property.invariant.made,
            c.loop-property.invariant.same,
            next,
          ) refl;
    }
