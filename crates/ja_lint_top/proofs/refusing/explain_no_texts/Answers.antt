-- The file of the fault is held under its name.
use Rattle.std.proofs.Common.{subst}
use Rattle.std.proofs.lemmas.Result.{IfOk-weaker}
use Rattle.ja_lint_top.specs.code.Answers.{reply_of, IsNoText}
use Rattle.ja_lint_top.proofs.Refused.{held_at, no_text}
use Rattle.ja_lint_top.proofs.refusing.explain_no_texts.Goals as goal

pub returns-in-At : goal.returns-in-At
returns-in-At c =
    let name = c.in-At.name.now in
    let offset = c.in-At.offset in
    IfOk-weaker c.fail_at_byte.result _ _ (λ r fails held names contents are none.
    let (number, bytes, at, there, invalid, is) = subst (IsNoText names contents) c.in-At.is none in
    let (among, holds) = held_at held names contents number name bytes are at there in
    no_text held names name (reply_of r) among bytes offset holds invalid is fails)
    c.fail_at_byte.ensures
