use Rattle.std.proofs.lemmas.Result.{err_from_is_err_and}
use Rattle.ja_cert_json.specs.View.{view}
use Rattle.ja_cert_parts.proofs.FaultLemmas.{tells_first}
use Rattle.ja_cert_parts.proofs.ListedLemmas.{property_is}
use Rattle.ja_cert_parts.proofs.listed.PropertyAtMemberInProgram.read.Goals as goal

pub returns-in_err-read : goal.returns-in_err-read
returns-in_err-read c =
    let p = err_from_is_err_and c.from_residual.result
    c.from_residual.ensures.1 in
    let is = property_is c.args.rule.now.program.now c.args.before.now (view c.args.value.now)
    c.last_property.result c.last_property.ensures in
    rw (p.1, p.2, is) (tells_first _ _ _ c.in_err-read.ensures)

pub returns-in_err-here_unless : goal.returns-in_err-here_unless
returns-in_err-here_unless c =
    let p = err_from_is_err_and c.from_residual-in_err-here_unless.result
    c.from_residual-in_err-here_unless.ensures.1 in
    let is = property_is c.args.rule.now.program.now c.args.before.now (view c.args.value.now)
    c.last_property.result c.last_property.ensures in
    rw (p.1, p.2, is, c.in_ok-read.ensures.0, ← c.is_entry.ensures) c.in_err-here_unless.ensures

pub returns : goal.returns
returns c =
    let is = property_is c.args.rule.now.program.now c.args.before.now (view c.args.value.now)
    c.last_property.result c.last_property.ensures in (
      rw (is, c.in_ok-read.ensures.0, ← c.is_entry.ensures, c.in_ok-here_unless.ensures.0),
      c.in_ok-read.ensures.1,
    )
