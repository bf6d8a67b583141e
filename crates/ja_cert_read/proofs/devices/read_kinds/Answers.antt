use Rattle.std.proofs.Common.{◌≡◌, ap, not, None}
use Rattle.std.proofs.lemmas.Result.{err_from_is_err_and}
use Rattle.ja_cert_json.specs.View.{view}
use Rattle.ja_cert.specs.Wrong.{here_unless, is_empty_list, kind_wrong, list_wrong}
use Rattle.ja_cert_read.proofs.DevicesRight.{kinds_of_list}
use Rattle.ja_cert_read.proofs.Told.{right_test, tells_later, tells_test}
use Rattle.ja_cert_parts.proofs.FaultLemmas.{tells_first, none_later}
use Rattle.ja_cert_read.proofs.devices.read_kinds.Goals as goal
use Rattle.ja_cert_read.proofs.devices.read_kinds.Goals.{In_ok-here_unless}

-- there are some
some : (c : In_ok-here_unless) → here_unless (not (is_empty_list (view c.args.value.now))) ≡ None
some c =
    right_test (not c.is_empty_list.result) _ (ap not c.is_empty_list.ensures)
    c.in_ok-here_unless.ensures.0

pub returns-in_err-here_unless : goal.returns-in_err-here_unless
returns-in_err-here_unless c =
    let p = err_from_is_err_and c.from_residual.result c.from_residual.ensures.1 in
    rw (p.1, p.2) (tells_first _ _ _ (tells_test (not c.is_empty_list.result) _ _
    (ap not c.is_empty_list.ensures) c.in_err-here_unless.ensures))

pub returns-in_err-kinds : goal.returns-in_err-kinds
returns-in_err-kinds c =
    let p = err_from_is_err_and c.from_residual-in_err-kinds.result
    c.from_residual-in_err-kinds.ensures.1 in
    let at = (goal.at.returns-in_err-kinds c).In_ok-here_unless in
    rw (p.1, p.2) (tells_later (here_unless (not (is_empty_list (view c.args.value.now))))
    (list_wrong kind_wrong (view c.args.value.now)) _ (some at) c.in_err-kinds.ensures)

pub returns : goal.returns
returns c =
    let at = (goal.at.returns c).In_ok-here_unless in (
      none_later (here_unless (not (is_empty_list (view c.args.value.now))))
          (list_wrong kind_wrong (view c.args.value.now)) (some at) c.in_ok-kinds.ensures.0,
      kinds_of_list _ c.in_ok-kinds.kinds.items c.deref.result.now c.kinds_of.result
          c.deref.ensures.value c.kinds_of.ensures c.in_ok-kinds.ensures.0
          c.in_ok-kinds.ensures.1.0,
    )
