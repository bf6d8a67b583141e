use Rattle.std.proofs.Common.{ℕ, List, ◌++◌, ◌∙◌, ap, arith}
use Rattle.ja_lint_top.proofs.Listed.{counted_none, counted_told}
use Rattle.ja_lint_top.proofs.ending.push_counted.Goals as goal

pub returns-in_ok-push : goal.returns-in_ok-push
returns-in_ok-push c =
    counted_told c.args.format _ _ _ _ _ c.args.count (omega arith) c.in_ok-push_so_many.ensures
    c.in_ok-extend_from_slice.ensures.items
    (c.in_ok-extend_from_slice-2.ensures.items
    ∙ ap (λ (w : List ℕ). c.extend_from_slice.new.self.items ++ w) c.option_text.ensures)
    c.in_ok-push.ensures.items

pub returns-else-count-ne0 : goal.returns-else-count-ne0
returns-else-count-ne0 c =
    counted_none c.args.format _ c.args.count (omega (arith, c.if-count-ne0.false))
