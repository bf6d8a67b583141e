-- The messages and the links are in order, and what is written is of them.
use Rattle.std.proofs.Common.{◌∙◌, ap, sym, subst, List, ℕ, map, filter, not}
use Rattle.std.proofs.lemmas.Result.{IfOk-weaker}
use Rattle.ja_rows.specs.declared.table.Warning.{Warning}
use Rattle.ja_table.specs.Tables.{table_of}
use Rattle.ja_warn.specs.Told.{warnings_in}
use Rattle.ja_warn.specs.declared.reached.Told.{Told}
use Rattle.ja_show.specs.Page.{AreLinksOrdered, AreMessagesOrdered}
use Rattle.ja_lint_top.specs.Ending.{is_counted}
use Rattle.ja_lint_top.specs.Lint.{ending_text, link_in}
use Rattle.ja_lint_top.specs.Telling.{AreTold}
use Rattle.ja_lint_top.proofs.Orders.{links_ordered, messages_ordered}
use Rattle.ja_lint_top.proofs.Shown.{shows_page, shows_sarif}
use Rattle.ja_lint_top.proofs.top.shown.Goals as goal

pub page_text-requires-clause-messages : goal.page_text-requires-clause-messages
page_text-requires-clause-messages c =
    let files = c.args.files.now in
    let p = c.args.found.now.program in
    let t = table_of c.args.found.now.table in
    let ms = c.in_ok-messages.messages.items in
    let is_told = λ (w : Warning). not (is_counted c.args.manner.rows w) in
    let told = subst (λ (ts : List Told). AreTold files p t (filter is_told (warnings_in ts)) ms)
    c.as_slice-warnings.ensures c.in_ok-messages.ensures in
    subst AreMessagesOrdered (sym c.deref-in-Html-2.ensures.value)
    (messages_ordered files p t is_told (warnings_in c.args.found.now.warnings) ms
    c.requires.ordered told)

pub page_text-requires-clause-links : goal.page_text-requires-clause-links
page_text-requires-clause-links c =
    let linked = c.in_ok-links-in-Html.ensures in
    let are = c.deref-in-Html-3.ensures.value ∙ linked.2
    ∙ ap (λ (firsts : List ℕ). map (link_in firsts) linked.0) c.requires.lines in
    subst AreLinksOrdered (sym are) (links_ordered c.args.files.now linked.0 linked.1.ordered)

pub returns-in-Html : goal.returns-in-Html
returns-in-Html c =
    let manner = c.args.manner in
    let files = c.args.files.now in
    let found = c.args.found.now in
    let p = found.program in
    let t = table_of found.table in
    let ms = c.in_ok-messages.messages.items in
    let is_told = λ (w : Warning). not (is_counted manner.rows w) in
    let told = subst (λ (ts : List Told). AreTold files p t (filter is_told (warnings_in ts)) ms)
    c.as_slice-warnings.ensures c.in_ok-messages.ensures in
    let ending_is = c.deref-in-Html.ensures.value ∙ c.in_ok-ending.ensures
    ∙ ap (λ (ts : List Told). ending_text manner files (warnings_in ts))
    c.as_slice-warnings.ensures in
    IfOk-weaker c.page_text.result _ _ (λ out printed. shows_page manner files found ms told
    out.items c.in-Html.is c.args.first_lines.now c.requires.lines
    c.in_ok-links-in-Html.links.items c.in_ok-links-in-Html.ensures
    c.deref-in-Html.result.now ending_is c.deref-in-Html-2.result.now
    c.deref-in-Html-2.ensures.value c.deref-in-Html-3.result.now c.deref-in-Html-3.ensures.value
    printed) c.page_text.ensures

pub returns : goal.returns
returns c =
    let manner = c.args.manner in
    let files = c.args.files.now in
    let found = c.args.found.now in
    let p = found.program in
    let t = table_of found.table in
    let ms = c.in_ok-messages.messages.items in
    let is_told = λ (w : Warning). not (is_counted manner.rows w) in
    let told = subst (λ (ts : List Told). AreTold files p t (filter is_told (warnings_in ts)) ms)
    c.as_slice-warnings.ensures c.in_ok-messages.ensures in
    let ending_is = c.deref-in-Sarif-2.ensures.value ∙ c.in_ok-ending.ensures
    ∙ ap (λ (ts : List Told). ending_text manner files (warnings_in ts))
    c.as_slice-warnings.ensures in
    IfOk-weaker c.sarif_text.result _ _ (λ out printed. shows_sarif manner files found ms told
    out.items c.in-Sarif.is c.deref-in-Sarif-2.result.now ending_is c.deref-in-Sarif.result.now
    c.deref-in-Sarif.ensures.value printed) c.sarif_text.ensures
