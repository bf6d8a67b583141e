use Rattle.std.proofs.Common.{◌∙◌, ap, not, sym}
use Rattle.std.proofs.lemmas.Result.{err_from_is_err_and}
use Rattle.serde_json.specs.Data.{string}
use Rattle.ja_cert_json.specs.View.{view}
use Rattle.ja_cert_read.proofs.DevicesRight.{name_read}
use Rattle.ja_cert_read.proofs.ObjectLemmas.{text_is}
use Rattle.ja_cert_read.proofs.Told.{right_test, tells_memory, tells_test}
use Rattle.ja_cert_read.proofs.devices.read_name.Goals as goal

pub returns-in_err-name : goal.returns-in_err-name
returns-in_err-name c =
    let p = err_from_is_err_and c.from_residual.result c.from_residual.ensures.1 in
    rw p.1 (tells_memory _ _ p.2)

pub returns-in_err-here_unless : goal.returns-in_err-here_unless
returns-in_err-here_unless c =
    let p = err_from_is_err_and c.from_residual-in_err-here_unless.result
    c.from_residual-in_err-here_unless.ensures.1 in
    let fit = rw c.as_bytes.ensures.value at (sym c.if-not-is_identifier.ensures) in
    let same = name_read c.args.before.now (view c.args.value.now) c.in-Some.word.now
    c.in_ok-name.name c.has_name.result c.in-Some.ensures fit
    (c.in_ok-name.ensures ∙ c.as_bytes-2.ensures.value) c.has_name.ensures in
    rw (p.1, p.2) (tells_test (not c.has_name.result) _ _ same c.in_err-here_unless.ensures)

pub returns : goal.returns
returns c =
    let name = c.in_ok-name.ensures ∙ c.as_bytes-2.ensures.value in
    let fit = rw c.as_bytes.ensures.value at (sym c.if-not-is_identifier.ensures) in
    let same = name_read c.args.before.now (view c.args.value.now) c.in-Some.word.now
    c.in_ok-name.name c.has_name.result c.in-Some.ensures fit name c.has_name.ensures in (
      right_test (not c.has_name.result) _ same c.in_ok-here_unless.ensures.0,
      ap string name ∙ text_is (view c.args.value.now) c.in-Some.word.now (sym c.in-Some.ensures),
    )
