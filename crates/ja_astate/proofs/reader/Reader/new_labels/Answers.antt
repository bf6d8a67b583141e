use Rattle.std.proofs.Common.{rules, ap, ◌∙◌, not, filter}
use Rattle.std.proofs.lemmas.Fn.{filter_same}
use Rattle.ja_base.specs.declared.ids.Label.{Label}
use Rattle.ja_value.specs.Value.{labels_in}
use Rattle.ja_astate.proofs.reader.Reader.new_labels.Goals as goal

pub returns : goal.returns
returns c =
    filter_same _ (λ (l : Label). not (labels_in c.args.known.now l)) _
    (λ l b f' k. search rules) _ _ c.retain.ensures.filtered
    ∙ ap (filter (λ (l : Label). not (labels_in c.args.known.now l))) c.in_ok-labels.ensures
