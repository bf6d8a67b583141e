-- The next warning is told, or only counted.
use Rattle.std.proofs.Common.{◌+◌, ◌∙◌, Bool, List, filter, not, take, ap, sym, subst, arith}
use Rattle.ja_table.specs.Tables.{table_of}
use Rattle.ja_rows.specs.declared.table.Warning.{Warning}
use Rattle.ja_show.specs.declared.message.Message.{Message}
use Rattle.ja_warn.specs.Told.{warnings_in}
use Rattle.ja_lint_top.specs.Ending.{is_counted}
use Rattle.ja_lint_top.specs.Telling.{AreTold}
use Rattle.ja_lint_top.proofs.Told.{told_as_before, told_more}
use Rattle.ja_lint_top.proofs.telling.messages_of.Goals as goal
use Rattle.ja_lint_top.proofs.telling.messages_of.Goals.{then-not-is_counted+in_ok-message_of+in_ok-push, else-not-is_counted}

pub loop-told-preserved : goal.loop-told-preserved
loop-told-preserved c =
    let files = c.args.source.now.files.now in
    let p = c.args.source.now.program.now in
    let t = table_of c.args.table.now in
    let xs = c.args.warnings.now in
    let i = c.loop-told.told-index in
    let x = c.told-item.result in
    let kept : Warning → Bool = λ w. not (is_counted c.args.rows w) in
    let before = c.loop-told.messages.items in
    let Said : List Message → Type 0 =
    λ ms. AreTold files p t (filter kept (warnings_in (take (i + 1) xs))) ms in
    elim c.if-not-is_counted.branch [
      | then-not-is_counted+in_ok-message_of+in_ok-push w ↦
          subst (λ v. Said v.items) (sym w.messages-is)
          (subst Said (sym w.in_ok-push.ensures.items)
          (told_more files p t kept xs i x (omega arith) c.told-item.is before
          w.in_ok-message_of.field-0 (ap not (sym c.is_counted.ensures ∙ w.if-not-is_counted.true))
          c.loop-told.invariant w.in_ok-message_of.ensures))
      | else-not-is_counted w ↦
          subst (λ v. Said v.items) (sym w.messages-is)
          (told_as_before files p t kept xs i x (omega arith) c.told-item.is before
          (ap not (sym c.is_counted.ensures ∙ w.if-not-is_counted.false)) c.loop-told.invariant)
    ]
