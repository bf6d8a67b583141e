-- The cause is that of the fault.
use Rattle.std.proofs.Common.{subst}
use Rattle.std.proofs.lemmas.Result.{IfOk-weaker}
use Rattle.ja_lint_top.specs.Reading.{IsUnread}
use Rattle.ja_lint_top.specs.code.Answers.{reply_of}
use Rattle.ja_lint_top.proofs.Refused.{failed, too_long}
use Rattle.ja_lint_top.proofs.refusing.explain_unread.Goals as goal

pub returns-in-Failed : goal.returns-in-Failed
returns-in-Failed c =
    let name = c.args.name.now in
    IfOk-weaker c.fail_about.result _ _ (λ r fails held names among unread.
    failed held names name (reply_of r) among c.in-Failed.reason.now
    (subst (IsUnread held name) c.in-Failed.is unread) fails) c.fail_about.ensures

pub returns-in-TooLong : goal.returns-in-TooLong
returns-in-TooLong c =
    let name = c.args.name.now in
    IfOk-weaker c.fail_about-in-TooLong.result _ _ (λ r fails held names among unread.
    too_long held names name (reply_of r) among
    (subst (IsUnread held name) c.in-TooLong.is unread) fails) c.fail_about-in-TooLong.ensures
