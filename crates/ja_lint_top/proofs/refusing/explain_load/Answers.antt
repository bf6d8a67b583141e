-- The limits are written out, and the fault is that of the one text.
use Rattle.std.proofs.Common.{inl, subst}
use Rattle.std.proofs.lemmas.Result.{IfOk-weaker}
use Rattle.ja_load.specs.Loading.{HasNone}
use Rattle.ja_lint_top.specs.Refusals.{text_of}
use Rattle.ja_lint_top.specs.code.Answers.{reply_of}
use Rattle.ja_lint_top.proofs.Refused.{many_functions, many_nodes}
use Rattle.ja_lint_top.proofs.refusing.explain_load.Goals as goal

pub returns-in-Parse : goal.returns-in-Parse
returns-in-Parse c =
    let text = text_of c.args.files.now in
    IfOk-weaker c.refuse_joined.result _ _ (λ r refuses signatures none.
    inl (
      c.in-Parse.fault,
      refuses.0,
      subst (HasNone text signatures) c.in-Parse.is none,
      refuses.1,
      refuses.2,
    ))
    c.refuse_joined.ensures

pub returns-in-Functions : goal.returns-in-Functions
returns-in-Functions c =
    IfOk-weaker c.refuse.result _ _ (λ r refuses signatures none.
    many_functions c.args.format signatures c.args.files.now (reply_of r)
    (subst (HasNone (text_of c.args.files.now) signatures) c.in-Functions.is none) refuses)
    c.refuse.ensures

pub returns-in-Nodes : goal.returns-in-Nodes
returns-in-Nodes c =
    IfOk-weaker c.refuse-in-Nodes.result _ _ (λ r refuses signatures none.
    many_nodes c.args.format signatures c.args.files.now (reply_of r)
    (subst (HasNone (text_of c.args.files.now) signatures) c.in-Nodes.is none) refuses)
    c.refuse-in-Nodes.ensures
