-- Behind the tests of its name and its kinds a device is fit, and its position among the others
-- decides.
use Rattle.std.proofs.Common.{◌≡◌, true, map, ap, sym, ◌∙◌, subst}
use Rattle.std.proofs.lemmas.List.{length-map}
use Rattle.ja_prim.specs.declared.signature.Signature.{Signature}
use Rattle.ja_device.specs.Devices.{signature_of}
use Rattle.ja_device.specs.Signatures.{is_fit, is_identifier, has_kind}
use Rattle.ja_device.specs.code.Signatures.{IsFaultBehind}
use Rattle.ja_device.proofs.Signing.{seen_through, fit_by, stands_behind, twice_behind}
use Rattle.ja_device.proofs.refusing.fault_behind.Given.{Over}
use Rattle.ja_device.proofs.refusing.fault_behind.Goals as goal
use Rattle.ja_device.proofs.refusing.fault_behind.Goals.{After-position}

fit : (g : Over) (c : After-position g) → is_fit (signature_of (g.D.Device.seen c.args.device.now))
    ≡ true
fit g c =
    fit_by (signature_of (g.D.Device.seen c.args.device.now))
    (ap is_identifier (sym c.name.ensures ∙ sym c.as_bytes.ensures.value)
    ∙ sym c.is_identifier.ensures ∙ c.if-not-is_identifier.false)
    (ap has_kind (sym c.kinds.ensures) ∙ sym c.has_kind.ensures ∙ c.if-not-has_kind.false)

pub returns-in_err-first : goal.returns-in_err-first
returns-in_err-first g c =
    let signature = λ (d : g.row.D.Denot). signature_of (g.D.Device.seen d) in
    subst (IsFaultBehind (map signature c.args.before.now) (signature c.args.device.now))
    (sym c.from_residual.ensures)
    (stands_behind (map signature c.args.before.now) (signature c.args.device.now) _ _
    (seen_through (λ (s : Signature). s.name) signature c.args.before.now) c.name-2.ensures
    (fit g (goal.at.returns-in_err-first g c).After-position) c.in_err-first.ensures)

pub returns : goal.returns
returns g c =
    let signature = λ (d : g.row.D.Denot). signature_of (g.D.Device.seen d) in
    twice_behind (map signature c.args.before.now) (signature c.args.device.now) _ _
    (seen_through (λ (s : Signature). s.name) signature c.args.before.now) c.name-2.ensures
    (fit g (goal.at.returns g c).After-position)
    c.in_ok-first.first _ (sym (length-map c.args.before.now signature)) c.in_ok-first.ensures
