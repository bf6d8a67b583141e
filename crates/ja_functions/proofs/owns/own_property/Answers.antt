use Rattle.std.proofs.Common.{List, ap, ◌∙◌}
use Rattle.ja_abstract.specs.declared.abstraction.Key.{Key}
use Rattle.ja_abstract.specs.Primitives.{of_bools}
use Rattle.ja_abstract.specs.Reading.{demands_at, demands_of_own}
use Rattle.ja_abstract.specs.Operations.{of_own}
use Rattle.ja_astate.specs.Looks.{view_of}
use Rattle.ja_astate.specs.code.Pairs.{demands_over}
use Rattle.ja_value.specs.Value.{value_of, labels_in}
use Rattle.ja_functions.specs.code.Told.{may_hold, may_fail, some_own}
use Rattle.ja_functions.proofs.Labels.{own_at, demands_are}
use Rattle.ja_functions.proofs.owns.own_property.Goals as goal

pub returns : goal.returns
returns c =
    let w = view_of c.args.reader.now in
    let v = value_of c.args.value.now in
    let holds = may_hold w c.args.asked in
    let fails = may_fail w c.args.asked in
    let members = c.in_ok-members.members.items in
    let set = labels_in c.args.value.now.labels in
    let are = c.in_ok-members.ensures in
    let keys = c.in_ok-keys.ensures in
    let told = c.in_ok-holds.ensures in
    record {
      value =
          c.of_bools.ensures
          ∙ (λ n. of_bools
          ((told.holds ∙ (λ m. some_own w holds (c.deref-2.ensures.value m)
          (c.deref.ensures.value m)) ∙ own_at w set members are holds _
          ∙ ap (λ (ks : List Key). (of_own w v ks holds fails).value.flags.is_true) keys) n)
          ((told.fails ∙ (λ m. some_own w fails (c.deref-2.ensures.value m)
          (c.deref.ensures.value m)) ∙ own_at w set members are fails _
          ∙ ap (λ (ks : List Key). (of_own w v ks holds fails).value.flags.is_false) keys) n));
      demands_are =
          c.in_ok-demands.ensures
          ∙ (λ m. demands_over (c.deref-3.ensures.value m)
          (λ l. demands_of_own w l (c.deref-4.ensures.value m)))
          ∙ demands_are w set members are (λ l. demands_of_own w l c.in_ok-keys.keys.items)
          ∙ ap (λ (ks : List Key). demands_at w set (λ l. demands_of_own w l ks)) keys;
    }
