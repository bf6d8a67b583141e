use Rattle.std.proofs.Common.{◌≡◌, ap, ◌∙◌, ◌++◌}
use Rattle.ja_abstract.specs.AbstractValue.{join_properties, no_property}
use Rattle.ja_abstract.specs.Resolved.{known_part}
use Rattle.ja_value.specs.Labels.{mask_in}
use Rattle.ja_value.specs.Value.{property_of}
use Rattle.ja_aheap.specs.code.Composed.{property_list}
use Rattle.ja_aheap.proofs.ComposedLemmas.{with_one, both_joined, composed_entry}
use Rattle.ja_aheap.proofs.sources.composed.Goals as goal

pub returns : goal.returns
returns c =
    let mask = mask_in c.args.masks.now in
    let nothing : property_of (record { value = c.empty.result; attrs = c.unknown_attrs.result })
    ≡ no_property = λ i. record no_property {
      value = c.empty.ensures i;
      attrs = c.unknown_attrs.ensures i;
    } in
    let earlier = c.in_ok-earlier.ensures
    ∙ ap (with_one mask c.args.first)
    (c.in_ok-rest.ensures ∙ ap (with_one mask c.args.second) nothing)
    ∙ both_joined mask c.args.first c.args.second in
    c.in_ok-join.ensures.joined
    ∙ ap (join_properties (known_part (property_of c.in_ok-known.known))) earlier
    ∙ composed_entry mask (property_of c.args.later.now) (property_of c.in_ok-known.known)
    (property_list property_of c.args.first ++ property_list property_of c.args.second)
    c.in_ok-known.ensures c.if-not-known.false
