use Rattle.std.proofs.Common.{◌+◌, ◌-◌, List, length, take, ap, ◌∙◌}
use Rattle.std.proofs.lemmas.Result.{IfOk-weaker}
use Rattle.ja_base.specs.declared.ids.Site.{Site}
use Rattle.ja_value.specs.Value.{value_of}
use Rattle.ja_lint_text.specs.Values.{most_told}
use Rattle.ja_lint_text.proofs.ValueWords.{whole_value}
use Rattle.ja_lint_text.proofs.values.value_words.Goals as goal

pub returns : goal.returns
returns c =
    let source = c.args.source.now in
    let told = c.first_sites-told.result.now in
    let told_is = c.first_sites-told.ensures
    ∙ ap (λ (ss : List Site). take most_told ss) c.deref.ensures.value in
    let count_is = c.count_of-count.ensures ∙ (λ i. length (c.deref-2.ensures.value i)
    + (length (c.deref-3.ensures.value i) - length told)) in
    IfOk-weaker c.alternatives.result _ _ (λ text is. whole_value source.program.now
    source.files.now source.first_lines.now (value_of c.args.value.now)
    c.in_ok-sites.sites.items told c.in_ok-words.words.items c.count_of-count.result text.items
    c.in_ok-sites.ensures told_is c.in_ok-words.ensures count_is is) c.alternatives.ensures
