use Rattle.std.proofs.Common.{[], ap, ◌∙◌}
use Rattle.ja_lex.specs.Marks.{longest}
use Rattle.ja_lex.proofs.Steps.{mark_found}
use Rattle.ja_lex.proofs.marks.mark.Goals as goal

pub returns-in_ok-mark-in_default : goal.returns-in_ok-mark-in_default
returns-in_ok-mark-in_default c =
    rw (c.in_ok-mark-in_default.ensures, c.in_ok-from_ascii-in_default.ensures)
    (mark_found c.args.text.now c.longest.result.now c.in_default.len_at_least
    (c.longest.ensures ∙ ap (λ marks. longest [] marks c.args.text.now) c.marks.ensures))
