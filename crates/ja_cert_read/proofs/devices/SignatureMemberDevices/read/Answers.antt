use Rattle.std.proofs.Common.{◌≡◌, ◌∷◌, [], ◌∙◌, ap, arith, length, map, sym, Some}
use Rattle.std.proofs.lemmas.Bool.{ltb-false, ltb-true}
use Rattle.std.proofs.lemmas.List.{length-map}
use Rattle.std.proofs.lemmas.Result.{err_from_is_err_and}
use Rattle.std.specs.Fmt.{decimal}
use Rattle.ja_cert_json.specs.View.{view}
use Rattle.ja_cert.specs.Certificate.{listed}
use Rattle.ja_cert.specs.Wrong.{list_of}
use Rattle.ja_cert_read.proofs.DevicesRight.{device_right, device_told_count, device_told_kinds, device_told_list, device_told_many, device_told_name, device_written}
use Rattle.ja_cert_read.proofs.ObjectLemmas.{two_read}
use Rattle.ja_cert_read.proofs.Told.{inside_err, inside_ok}
use Rattle.ja_cert_read.proofs.devices.SignatureMemberDevices.read.Goals as goal
use Rattle.ja_cert_read.proofs.devices.SignatureMemberDevices.read.Goals.{in_default-via-then-branch-lt2, in_default-via-else-branch-lt2+else-this-lt3, After-read_name}

-- the name and the kinds of the list
found : (c : After-read_name)
    → let ds = view c.name-item.result ∷ view c.kinds-item.result ∷ [] in
    (list_of (view c.args.value.now) ≡ Some ds) × (listed ds ≡ view c.args.value.now)
found c =
    let values = two_read _ _ _ (omega (arith, c.in-len2.len_at_least, c.in-len2.len_below))
    c.name-item.is c.kinds-item.is in (
      c.in_ok-list.ensures.1.0 ∙ ap (λ vs. Some (map view vs)) values,
      ap (λ vs. listed (map view vs)) (sym values) ∙ c.in_ok-list.ensures.1.1,
    )

pub returns-in_err-here_unless : goal.returns-in_err-here_unless
returns-in_err-here_unless c =
    let p = err_from_is_err_and c.from_residual.result c.from_residual.ensures.1 in
    rw (p.1, p.2) (device_told_many _ _ _ c.in_err-here_unless.ensures)

pub returns-in_err-list : goal.returns-in_err-list
returns-in_err-list c =
    let p = err_from_is_err_and c.from_residual-in_err-list.result
    c.from_residual-in_err-list.ensures.1 in
    rw (p.1, p.2) (device_told_list _ _ c.in_ok-here_unless.ensures.0 _ c.in_err-list.ensures)

pub returns-in_default : goal.returns-in_default
returns-in_default c =
    let values = c.in_ok-list.field-0.now in
    device_told_count _ _ c.in_ok-here_unless.ensures.0 _ _ c.in_ok-list.ensures.1.0
    (λ two. let size : length values ≡ 2 = sym (length-map values view) ∙ two in
    elim c.in_default.branch [
      | in_default-via-then-branch-lt2 w ↦ omega (arith, ltb-true)
      | in_default-via-else-branch-lt2+else-this-lt3 w ↦ omega (arith, ltb-false)
    ]) c.here.ensures

pub returns-in_err-name : goal.returns-in_err-name
returns-in_err-name c =
    let p = err_from_is_err_and c.from_residual-in_err-name.result
    c.from_residual-in_err-name.ensures.1 in
    let all = found (goal.at.returns-in_err-name c).After-read_name in
    rw (p.1, p.2) (device_told_name _ _ c.in_ok-here_unless.ensures.0 all.0 _
    (inside_err _ _ _ c.read_name.result _ c.read_name.ensures c.in_err-name.ensures.told))

pub returns-in_err-kinds : goal.returns-in_err-kinds
returns-in_err-kinds c =
    let p = err_from_is_err_and c.from_residual-in_err-kinds.result
    c.from_residual-in_err-kinds.ensures.1 in
    let all = found (goal.at.returns-in_err-kinds c).After-read_name in
    let name = inside_ok (decimal 0) _ _ c.read_name.result c.in_ok-name.name c.read_name.ensures
    c.in_ok-name.ensures.same in
    rw (p.1, p.2) (device_told_kinds _ _ c.in_ok-here_unless.ensures.0 all.0 _ name.0
    (inside_err _ _ _ c.read_kinds.result _ c.read_kinds.ensures c.in_err-kinds.ensures.told))

pub returns : goal.returns
returns c =
    let all = found (goal.at.returns c).After-read_name in
    let name = inside_ok (decimal 0) _ _ c.read_name.result c.in_ok-name.name c.read_name.ensures
    c.in_ok-name.ensures.same in
    let kinds = inside_ok (decimal 1) _ _ c.read_kinds.result c.in_ok-kinds.kinds
    c.read_kinds.ensures c.in_ok-kinds.ensures.same in (
      device_right _ _ c.in_ok-here_unless.ensures.0 all.0 name.0 kinds.0,
      (device_written _ _ _ _ all.1 name.1 kinds.1, tt),
    )
