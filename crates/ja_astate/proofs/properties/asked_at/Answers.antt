use Rattle.std.proofs.Common.{◌≡◌, ◌||◌, [], ◌∷◌, subst, ap, ◌∙◌}
use Rattle.std.specs.Prelude.{IfOk}
use Rattle.ja_base.specs.declared.ids.Label.{Label}
use Rattle.ja_abstract.specs.AbstractValue.{Labels, same_label}
use Rattle.ja_abstract.specs.Reading.{one_label, get, demands_of_get}
use Rattle.ja_astate.specs.Looks.{view_of, IsLooked}
use Rattle.ja_value.specs.Value.{labels_in}
use Rattle.ja_astate.proofs.properties.asked_at.Goals as goal

pub returns : goal.returns
returns c =
    let w = view_of c.args.reader.now in
    let l = c.args.label in
    let keys = c.args.key ∷ [] in
    let one : labels_in c.insert.new.self ≡ one_label l =
    c.in_ok-insert.ensures.inserted
    ∙ ap {B = Labels} (λ (s : Labels) (m : Label). s m || same_label l m) c.new-one.ensures in
    subst (λ (s : Labels). IfOk c.get.result (IsLooked (get w s keys) (demands_of_get w s keys))) one
    c.get.ensures
