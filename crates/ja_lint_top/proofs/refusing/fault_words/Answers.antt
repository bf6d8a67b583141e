-- The greatest number of levels is written out.
use Rattle.std.proofs.Common.{◌∙◌, ap, sym}
use Rattle.std.proofs.lemmas.Result.{IfOk-weaker}
use Rattle.ja_lint_top.specs.Refusals.{fault_words}
use Rattle.ja_lint_top.proofs.Limits.{depth_written}
use Rattle.ja_lint_top.proofs.refusing.fault_words.Goals as goal

pub returns-in-Depth : goal.returns-in-Depth
returns-in-Depth c =
    IfOk-weaker c.words_of-in-Depth.result _ _
    (λ words is. is ∙ depth_written ∙ ap fault_words (sym c.in-Depth.is))
    c.words_of-in-Depth.ensures
