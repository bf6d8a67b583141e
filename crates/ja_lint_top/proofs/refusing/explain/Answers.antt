-- The fault is that of the one text.
use Rattle.std.proofs.Common.{subst}
use Rattle.std.proofs.lemmas.Result.{IfOk-weaker}
use Rattle.ja_top.specs.Findings.{IsUnfound}
use Rattle.ja_lint_top.specs.Refusals.{text_of}
use Rattle.ja_lint_top.specs.code.Answers.{reply_of}
use Rattle.ja_lint_top.proofs.Refused.{spent}
use Rattle.ja_lint_top.proofs.refusing.explain.Goals as goal

pub returns-in-Load : goal.returns-in-Load
returns-in-Load c =
    let text = text_of c.args.files.now in
    IfOk-weaker c.explain_load.result _ _ (λ r refuses signatures unfound. refuses signatures
    (subst (IsUnfound text signatures) c.in-Load.is unfound)) c.explain_load.ensures

pub returns-in-Spent : goal.returns-in-Spent
returns-in-Spent c =
    IfOk-weaker c.refuse.result _ _ (λ r refuses signatures unfound.
    spent c.args.format signatures c.args.files.now (reply_of r)
    (subst (IsUnfound (text_of c.args.files.now) signatures) c.in-Spent.is unfound) refuses)
    c.refuse.ensures
