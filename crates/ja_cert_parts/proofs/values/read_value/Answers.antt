use Rattle.std.proofs.lemmas.Result.{err_from_is_err_and}
use Rattle.ja_cert_json.specs.View.{view}
use Rattle.ja_value.specs.Value.{value_of}
use Rattle.ja_cert.specs.Wrong.{value_wrong}
use Rattle.ja_cert_parts.specs.code.Parts.{allowed_of}
use Rattle.ja_cert_parts.proofs.ValueLemmas.{read_written}
use Rattle.ja_cert_parts.proofs.values.read_value.Goals as goal

pub returns-in_err-parts : goal.returns-in_err-parts
unfolding value_wrong
returns-in_err-parts c =
    let p = err_from_is_err_and c.from_residual.result c.from_residual.ensures.1 in
    rw (p.1, p.2) c.in_err-parts.ensures

pub returns : goal.returns
unfolding value_wrong
returns c =
    let p = c.args.program.now in (
      c.in_ok-parts.ensures.0,
      read_written p (allowed_of c.args.role) (value_of c.in_ok-value.value)
          (view c.args.value.now) c.in_ok-parts.parts.items c.deref.result.now
          c.in_ok-parts.ensures.0 c.in_ok-parts.ensures.1.0 c.deref.ensures.value
          (c.in_ok-value.ensures p),
    )
