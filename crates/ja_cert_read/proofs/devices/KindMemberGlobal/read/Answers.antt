use Rattle.std.proofs.Common.{◌≡◌, ◌∙◌, ap, map, sym}
use Rattle.std.proofs.lemmas.Result.{err_from_is_err_and}
use Rattle.ja_cert_json.specs.View.{view}
use Rattle.ja_cert.specs.Wrong.{is_above, kind_number, kind_wrong}
use Rattle.ja_cert_read.specs.code.Devices.{kind_data}
use Rattle.ja_cert_read.proofs.DevicesRight.{above_kinds, both_here, kind_is, tells_left, tells_right}
use Rattle.ja_cert_read.proofs.Told.{right_test, tells_test}
use Rattle.ja_cert_parts.proofs.FaultLemmas.{unless_none}
use Rattle.ja_cert_read.proofs.devices.KindMemberGlobal.read.Goals as goal
use Rattle.ja_cert_read.proofs.devices.KindMemberGlobal.read.Goals.{After-is_behind}

-- the kind is that of the word, and it is compared with those before it
is : (c : After-is_behind) → kind_data c.kind_at-kind.result ≡ view c.args.value.now
is c = ap kind_data c.kind_at-kind.ensures ∙ kind_is _ c.in_ok-place.place c.in_ok-place.ensures.1

order : (c : After-is_behind)
    → c.is_behind.result ≡ is_above kind_number (map kind_data c.args.before.now)
    (view c.args.value.now)
order c =
    c.is_behind.ensures ∙ sym (above_kinds c.args.before.now _ c.kind_at-kind.result (is c))

pub returns-in_err-place : goal.returns-in_err-place
unfolding kind_wrong
returns-in_err-place c =
    let p = err_from_is_err_and c.from_residual.result c.from_residual.ensures.1 in
    rw (p.1, p.2) (tells_left _ _ _ c.in_err-place.ensures)

pub returns-in_err-here_unless : goal.returns-in_err-here_unless
unfolding kind_wrong
returns-in_err-here_unless c =
    let p = err_from_is_err_and c.from_residual-in_err-here_unless.result
    c.from_residual-in_err-here_unless.ensures.1 in
    let at = (goal.at.returns-in_err-here_unless c).After-is_behind in
    rw (p.1, p.2) (tells_right _ _ _ (unless_none _ c.in_ok-place.ensures.0)
    (tells_test c.is_behind.result _ _ (order at) c.in_err-here_unless.ensures))

pub returns : goal.returns
unfolding kind_wrong
returns c =
    let at = (goal.at.returns c).After-is_behind in (
      both_here _ _ (unless_none _ c.in_ok-place.ensures.0)
          (right_test c.is_behind.result _ (order at) c.in_ok-here_unless.ensures.0),
      (is at, tt),
    )
