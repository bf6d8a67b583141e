use Rattle.std.proofs.Common.{◌≡◌, ◌++◌, sym, subst}
use Rattle.std.specs.Prelude.{OnOk, Option}
use Rattle.ja_base.specs.declared.ids.FnId.{FnId}
use Rattle.ja_lint_text.specs.Values.{maker_words}
use Rattle.ja_lint_text.proofs.sites.push_made.Goals as goal

pub returns-in-Some : goal.returns-in-Some
returns-in-Some c =
    let source = c.args.source.now in
    subst (λ (owner : Option FnId). OnOk c.push_owned.result (c.push_owned.new.text.items
    ≡ c.args.text.now.items ++ maker_words source.program.now source.files.now
    source.first_lines.now c.args.info.now owner)) (sym c.in-Some.is) c.push_owned.ensures
