use Rattle.std.proofs.Common.{◌≡◌, ◌||◌, ap, sym, subst, ◌∙◌}
use Rattle.ja_base.specs.declared.ids.Label.{Label}
use Rattle.ja_value.specs.declared.label_set.LabelSet.{LabelSet}
use Rattle.ja_value.specs.Value.{labels_in}
use Rattle.ja_aheap.proofs.mentioned.Mentioned.add.Goals as goal

pub returns-in_ok-self-inside-clause-joined : goal.returns-in_ok-self-inside-clause-joined
returns-in_ok-self-inside-clause-joined c =
    let copied = c.in_ok-joined.ensures ∙ ap labels_in c.deref-then-not-covers.ensures
    ∙ ap labels_in c.self.view_is in
    ap labels_in c.in_ok-self-inside.ensures.ok ∙ c.in_ok-join.ensures.joined
    ∙ (λ i l. copied i l || labels_in c.args.other.now l)

pub returns-else-not-covers-clause-joined : goal.returns-else-not-covers-clause-joined
returns-else-not-covers-clause-joined c =
    sym (subst (λ (s : LabelSet). (λ (l : Label). labels_in s l || labels_in c.args.other.now l)
    ≡ labels_in s) (c.deref.ensures ∙ c.self.view_is)
    (c.covers.ensures.0 c.if-not-covers.false))
