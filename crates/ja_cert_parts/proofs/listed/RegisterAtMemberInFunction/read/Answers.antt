use Rattle.std.proofs.lemmas.Result.{err_from_is_err_and}
use Rattle.ja_cert_json.specs.View.{view}
use Rattle.ja_value.specs.Value.{value_of}
use Rattle.ja_cert.specs.Wrong.{register_wrong}
use Rattle.ja_cert_parts.proofs.FaultLemmas.{passes, read_ok, tells_first}
use Rattle.ja_cert_parts.proofs.ListLemmas.{told_fields}
use Rattle.ja_cert_parts.proofs.ListedLemmas.{register_above, register_is, register_not_two, register_written}
use Rattle.ja_cert_parts.proofs.listed.RegisterAtMemberInFunction.read.Goals as goal

pub returns-in_err-fields : goal.returns-in_err-fields
unfolding register_wrong
returns-in_err-fields c =
    let p = err_from_is_err_and c.from_residual.result
    c.from_residual.ensures.1 in
    rw (p.1, p.2)
    (told_fields 2 _ (view c.args.value.now) _
    (register_not_two c.args.rule.now.program.now c.args.rule.now.function _)
    c.in_err-fields.ensures)

pub returns-in_err-register : goal.returns-in_err-register
returns-in_err-register c =
    let p = err_from_is_err_and c.from_residual-in_err-register.result
    c.from_residual-in_err-register.ensures.1 in
    let is = c.in_ok-fields.ensures.1 in
    let told = c.in_err-register.ensures.told _ (passes _ _ _ c.read_register.ensures) in
    rw (p.1, p.2, register_is _ _ _ _ _ _ is) (tells_first _ _ _ told)

pub returns-in_err-here_unless : goal.returns-in_err-here_unless
returns-in_err-here_unless c =
    let p = err_from_is_err_and c.from_residual-in_err-here_unless.result
    c.from_residual-in_err-here_unless.ensures.1 in
    let is = c.in_ok-fields.ensures.1 in
    let number = read_ok _ _ _ _ c.in_ok-register.ensures.same c.read_register.ensures in
    let above = register_above c.args.rule.now.program.now c.args.before.now _ _ _ _ _ is
    number.1.0 c.is_register_behind.ensures in
    rw (p.1, p.2, register_is _ _ _ _ _ _ is, number.0, above)
    (tells_first _ _ _ c.in_err-here_unless.ensures)

pub returns-in_err-value : goal.returns-in_err-value
returns-in_err-value c =
    let p = err_from_is_err_and c.from_residual-in_err-value.result
    c.from_residual-in_err-value.ensures.1 in
    let is = c.in_ok-fields.ensures.1 in
    let number = read_ok _ _ _ _ c.in_ok-register.ensures.same c.read_register.ensures in
    let above = register_above c.args.rule.now.program.now c.args.before.now _ _ _ _ _ is
    number.1.0 c.is_register_behind.ensures in
    let told = c.in_err-value.ensures.told _ (passes _ _ _ c.read_value.ensures) in
    rw (p.1, p.2, register_is _ _ _ _ _ _ is, number.0, above, c.in_ok-here_unless.ensures.0)
    (tells_first _ _ _ told)

pub returns-in_err-here_unless-2 : goal.returns-in_err-here_unless-2
returns-in_err-here_unless-2 c =
    let p = err_from_is_err_and c.from_residual-in_err-here_unless-2.result
    c.from_residual-in_err-here_unless-2.ensures.1 in
    let is = c.in_ok-fields.ensures.1 in
    let number = read_ok _ _ _ _ c.in_ok-register.ensures.same c.read_register.ensures in
    let above = register_above c.args.rule.now.program.now c.args.before.now _ _ _ _ _ is
    number.1.0 c.is_register_behind.ensures in
    let value = read_ok _ _ _ _ c.in_ok-value.ensures.same c.read_value.ensures in
    rw (
      p.1,
      p.2,
      register_is _ _ _ _ _ _ is,
      number.0,
      above,
      c.in_ok-here_unless.ensures.0,
      value.0,
      ← c.value_is.ensures,
    ) (tells_first _ _ _ c.in_err-here_unless-2.ensures)

pub returns : goal.returns
returns c =
    let is = c.in_ok-fields.ensures.1 in
    let number = read_ok _ _ _ _ c.in_ok-register.ensures.same c.read_register.ensures in
    let above = register_above c.args.rule.now.program.now c.args.before.now _ _ _ _ _ is
    number.1.0 c.is_register_behind.ensures in
    let value = read_ok _ _ _ _ c.in_ok-value.ensures.same c.read_value.ensures in (
      rw (
        register_is _ _ _ _ _ _ is,
        number.0,
        above,
        c.in_ok-here_unless.ensures.0,
        value.0,
        ← c.value_is.ensures,
        c.in_ok-here_unless-2.ensures.0,
      ),
      (
        register_written c.args.rule.now.program.now (view c.args.value.now) _ _
            c.in_ok-register.register (value_of c.in_ok-value.value) is number.1.0 value.1.0,
        value.1.1,
      ),
    )
