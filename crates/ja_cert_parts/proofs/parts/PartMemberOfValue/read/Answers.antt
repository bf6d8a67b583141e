use Rattle.std.proofs.Common.{sym, ◌∙◌}
use Rattle.std.proofs.lemmas.Result.{err_from_is_err_and}
use Rattle.ja_cert_json.specs.View.{view}
use Rattle.ja_cert_parts.specs.code.Parts.{allowed_of, rank_of}
use Rattle.ja_cert_parts.proofs.FaultLemmas.{tells_same}
use Rattle.ja_cert_parts.proofs.PartLemmas.{told_next, wrong_next}
use Rattle.ja_cert_parts.proofs.parts.PartMemberOfValue.read.Goals as goal

pub returns-in_err-part : goal.returns-in_err-part
returns-in_err-part c =
    let p = err_from_is_err_and c.from_residual.result c.from_residual.ensures.1 in
    rw (p.1, p.2) (told_next _ _ _ _ _ c.in_err-part.ensures)

pub returns-in_err-here_unless : goal.returns-in_err-here_unless
returns-in_err-here_unless c =
    let p = err_from_is_err_and c.from_residual-in_err-here_unless.result
    c.from_residual-in_err-here_unless.ensures.1 in
    rw (p.1, p.2)
    (tells_same _ _ _ (wrong_next c.args.rule.now.program.now (allowed_of c.args.rule.now.role)
    c.args.before.now (view c.args.value.now) (rank_of c.in_ok-part.part) c.rank.result
    c.may_follow.result c.requires.right c.in_ok-part.ensures.1.1 c.rank.ensures
    c.may_follow.ensures) c.in_err-here_unless.ensures)

pub returns : goal.returns
returns c = (
  sym (wrong_next c.args.rule.now.program.now (allowed_of c.args.rule.now.role)
      c.args.before.now (view c.args.value.now) (rank_of c.in_ok-part.part) c.rank.result
      c.may_follow.result c.requires.right c.in_ok-part.ensures.1.1 c.rank.ensures
      c.may_follow.ensures) ∙ c.in_ok-here_unless.ensures.0,
  (c.in_ok-part.ensures.1.0, tt),
)
