use Rattle.std.proofs.Common.{List, map, subst, ap, ◌∙◌}
use Rattle.ja_base.specs.declared.ids.Label.{Label}
use Rattle.ja_abstract.specs.AbstractValue.{AbstractValue}
use Rattle.ja_abstract.specs.Operations.{looked}
use Rattle.ja_abstract.specs.Resolved.{join_values}
use Rattle.ja_astate.specs.Looks.{view_of}
use Rattle.ja_value.specs.Value.{labels_in}
use Rattle.ja_functions.specs.code.Told.{IsTold, class_text}
use Rattle.ja_functions.proofs.Labels.{values_at}
use Rattle.ja_functions.proofs.internals.class_of.Goals as goal

pub returns : goal.returns
returns c =
    let w = view_of c.args.reader.now in
    let p = w.program in
    subst (λ (v : AbstractValue). IsTold (looked v) c.value.result)
    (c.in_ok-texts.ensures
    ∙ ap (λ (ls : List Label). join_values (map (class_text p) ls)) c.deref.ensures.value
    ∙ values_at w (labels_in c.args.value.now.labels) c.in_ok-members.members.items
    c.in_ok-members.ensures (class_text p)) c.value.ensures
