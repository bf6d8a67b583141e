use Rattle.std.proofs.Common.{◌≡◌, ℕ, Bool, ◌&&◌, ◌||◌, ap, subst, ◌∙◌}
use Rattle.std.specs.Prelude.{if◌then◌else◌}
use Rattle.ja_base.specs.declared.ids.Label.{Label}
use Rattle.ja_abstract.specs.AbstractValue.{Labels, AbstractProperty, same_label, is_present, bare, of_label, no_property}
use Rattle.ja_abstract.specs.AbstractState.{labels_below}
use Rattle.ja_abstract.specs.Reading.{one_label, get, demands_of_get, may_have, slot}
use Rattle.ja_abstract.specs.Resolved.{demands_of, outer}
use Rattle.ja_value.specs.Value.{labels_in, property_of}
use Rattle.ja_astate.specs.Looks.{view_of, IsLooked}
use Rattle.ja_astate.specs.code.Asked.{scope_met}
use Rattle.ja_astate.proofs.Asked.{leads_same, demands_same}
use Rattle.ja_astate.proofs.Meetings.{same_meeting}
use Rattle.ja_astate.proofs.scopes.ScopesAsks.ask.Goals as goal

pub returns : goal.returns
returns c =
    let w = view_of c.args.self.now.reader in
    let l = c.args.label in
    let keys = c.args.self.now.keys.now in
    let one : labels_in c.insert.new.self ≡ one_label l =
    c.in_ok-insert.ensures.inserted
    ∙ ap {B = Labels} (λ (s : Labels) (m : Label). s m || same_label l m) c.new-one.ensures in
    let P : Labels → Type 0 = λ s. IsLooked (get w s keys) (demands_of_get w s keys)
    c.in_ok-looked.looked in
    let looked = subst P one c.in_ok-looked.ensures in
    let q = get w (one_label l) keys in
    let lacks = ap (λ (p : AbstractProperty). p.value.flags.absent) looked.property in
    let has = c.is_present-has.ensures
    ∙ ap (λ (n : ℕ). is_present (labels_below n) (property_of c.in_ok-looked.looked.property).value)
    c.args.self.now.reader.sites_are ∙ ap (may_have w) looked.property in
    let next = slot w l outer in
    same_meeting _ (scope_met w keys l)
    (leads_same next.label _ _ _ lacks c.in_ok-next.ensures.labels)
    (c.in_ok-object_if.ensures
    ∙ ap (λ (b : Bool). if b then bare (of_label l) else no_property) has)
    (c.in_ok-next.ensures.may_end ∙ ap (λ (b : Bool). b && next.flags.absent) lacks)
    (demands_same (demands_of_get w (one_label l) keys) (demands_of w.state l outer) _ _ _ _ lacks
    looked.demands_are c.in_ok-next.ensures.demands)
