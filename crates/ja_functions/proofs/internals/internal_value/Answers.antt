use Rattle.std.proofs.Common.{List, map, ap, ◌∙◌}
use Rattle.ja_base.specs.declared.ids.Label.{Label}
use Rattle.ja_abstract.specs.Made.{value_key}
use Rattle.ja_abstract.specs.Resolved.{Demands, join_values, demands_of}
use Rattle.ja_astate.specs.Looks.{view_of}
use Rattle.ja_astate.specs.code.Pairs.{demands_over}
use Rattle.ja_value.specs.Value.{labels_in}
use Rattle.ja_functions.specs.code.Told.{held}
use Rattle.ja_functions.proofs.Labels.{values_at, demands_are}
use Rattle.ja_functions.proofs.internals.internal_value.Goals as goal

pub returns : goal.returns
returns c =
    let w = view_of c.args.reader.now in
    let set = labels_in c.args.value.now.labels in
    let members = c.in_ok-members.members.items in
    let are = c.in_ok-members.ensures in
    let each : Label → Demands = λ l. demands_of w.state l value_key in
    record {
      value =
          c.in_ok-value.ensures
          ∙ ap (λ (ls : List Label). join_values (map (held w) ls)) c.deref-2.ensures.value
          ∙ values_at w set members are (held w);
      demands_are =
          c.in_ok-demands.ensures
          ∙ ap (λ (ls : List Label). demands_over ls each) c.deref.ensures.value
          ∙ demands_are w set members are each;
    }
