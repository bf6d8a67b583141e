use Rattle.std.proofs.Common.{◌≡◌, ◌==◌, not, length, subst, ◌∙◌}
use Rattle.std.proofs.lemmas.Bool.{lt-ltb}
use Rattle.ja_machine.specs.Nodes.{bound_attrs}
use Rattle.ja_abstract.specs.declared.abstraction.Key.TheVariants as key
use Rattle.ja_abstract.specs.AbstractValue.{AbstractValue, AbstractProperty, of_attrs}
use Rattle.ja_abstract.specs.Reading.{no_demands}
use Rattle.ja_abstract.specs.Values.{has_labels}
use Rattle.ja_abstract.specs.Writes.{defined}
use Rattle.ja_rows.specs.Out.{out, goes, at}
use Rattle.ja_value.specs.Value.{value_of, labels_in, property_of}
use Rattle.ja_transfer.specs.Outcomes.{at_view, IsOutcome}
use Rattle.ja_transfer.specs.code.Declares.{defined_over}
use Rattle.ja_transfer.proofs.GivenLemmas.{added_as, given_first, outcome_of}
use Rattle.ja_transfer.proofs.MemberLemmas.{members_labels}
use Rattle.ja_nodes.proofs.MemberLemmas.{some_members, defined_is}
use Rattle.ja_nodes.proofs.scopes.bind.Goals as goal

pub defines-requires : goal.defines-requires
defines-requires c =
    let p = c.args.stepper.now.reader.program.now in
    let set = labels_in c.register.result.now.labels in
    record {
      members =
          members_labels p set c.deref.result.now (c.deref.ensures.value ∙ c.in_ok-members.ensures);
      key = lt-ltb _ _ c.requires.name;
    }

pub returns : goal.returns
returns c =
    let s = c.args.stepper.now in
    let w = at_view s in
    let next = s.info.now.next in
    let k = key.Name c.args.name in
    let o = c.outcome.result in
    let u = value_of c.register.result.now in
    let ls = c.deref.result.now in
    let are = c.deref.ensures.value ∙ c.in_ok-members.ensures in
    let property : AbstractValue → AbstractProperty = λ v. record {
      value = v;
      attrs = of_attrs (bound_attrs c.args.read_only);
    } in
    let q = property_of c.with_attrs-property.result in
    let q_is : q ≡ property (at w c.args.src) = c.with_attrs-property.ensures
    ∙ (λ n. record {
      value = (c.in_ok-value.ensures ∙ c.register-2.ensures) n;
      attrs = of_attrs (c.bound_attrs.ensures n);
    }) in
    let told = λ (x : AbstractValue) (y : AbstractProperty).
    out (goes (has_labels w x) next (defined w x.label k y)) no_demands in
    let added : goes (not (length ls == 0)) next (defined_over w ls k q)
    ≡ goes (has_labels w u) next (defined w u.label k q) =
    λ n. goes (some_members w u.label ls are n) next (defined_is w u.label ls are k q n) in
    subst (λ (x : AbstractValue). IsOutcome s (told x (property (at w c.args.src))) o)
    c.register.ensures
    (subst (λ (y : AbstractProperty). IsOutcome s (told u y) o) q_is
    (outcome_of s _ c.new.result _ c.defines.new.states o
    (given_first s _ c.new-states.result c.defines.new.states c.new-states.ensures
    (added_as s _ _ c.new-states.result c.defines.new.states added c.in_ok-defines.ensures))
    c.new.ensures c.outcome.ensures))
