use Rattle.std.proofs.Common.{◌≡◌, ◌≤◌, None, length, rules, sym}
use Rattle.std.proofs.lemmas.Result.{err_from_is_err_and}
use lib.Chars.{codes}
use Rattle.serde_json.specs.Data.{string}
use Rattle.ja_cert_json.specs.View.{view}
use Rattle.ja_lex.specs.Spots.{max_bytes}
use Rattle.ja_cert.specs.Wrong.{device_wrong, is_version}
use Rattle.ja_cert_read.proofs.DevicesRight.{devices_right}
use Rattle.ja_cert_read.proofs.Told.{inside_err, inside_ok, under_none}
use Rattle.ja_cert_read.proofs.WholeSteps.{head_members, head_right, head_told_devices, head_told_keys, head_told_text, head_told_version, listed_right, text_wrong, version_is, version_wrong}
use Rattle.ja_cert_parts.proofs.FaultLemmas.{unless_none}
use Rattle.ja_cert_read.proofs.reading.read_head.Goals as goal
use Rattle.ja_cert_read.proofs.reading.read_head.Goals.{In_ok-text, In_ok-under}

version : (c : In_ok-under) → version_wrong (view c.args.value.now) c.in_ok-whole.ensures.1 ≡ None
version c =
    rw (sym c.is_version.ensures) (inside_ok (codes "version") _ _ c.here_unless.result _
    c.here_unless.ensures c.in_ok-under.ensures.same).0

text : (c : In_ok-text) → (text_wrong (view c.args.value.now) c.in_ok-whole.ensures.1 ≡ None)
    × ((string c.in_ok-text.text.now ≡ view c.in_ok-whole.whole.fourth.now)
    × (length c.in_ok-text.text.now ≤ max_bytes))
text c =
    inside_ok (codes "text") _ _ c.read_source.result c.in_ok-text.text c.read_source.ensures
    c.in_ok-text.ensures.same

pub returns-in_err-whole : goal.returns-in_err-whole
returns-in_err-whole c = search (rules, head_told_keys)

pub returns-in_err-under : goal.returns-in_err-under
returns-in_err-under c =
    let p = err_from_is_err_and c.from_residual-in_err-under.result
    c.from_residual-in_err-under.ensures.1 in
    rw (p.1, p.2) (head_told_version _ c.in_ok-whole.ensures.1 _
    (rw (sym c.is_version.ensures) (inside_err (codes "version") _ _ c.here_unless.result _
    c.here_unless.ensures c.in_err-under.ensures.told)))

pub returns-in_err-text : goal.returns-in_err-text
returns-in_err-text c =
    let p = err_from_is_err_and c.from_residual-in_err-text.result
    c.from_residual-in_err-text.ensures.1 in
    rw (p.1, p.2) (head_told_text _ c.in_ok-whole.ensures.1 _
    (version (goal.at.returns-in_err-text c).In_ok-under)
    (inside_err (codes "text") _ _ c.read_source.result _ c.read_source.ensures
    c.in_err-text.ensures.told))

pub returns-in_err-signatures : goal.returns-in_err-signatures
returns-in_err-signatures c =
    let p = err_from_is_err_and c.from_residual-in_err-signatures.result
    c.from_residual-in_err-signatures.ensures.1 in
    rw (p.1, p.2) (head_told_devices _ c.in_ok-whole.ensures.1 _
    (version (goal.at.returns-in_err-signatures c).In_ok-under)
    (text (goal.at.returns-in_err-signatures c).In_ok-text).0
    (inside_err (codes "devices") _ _ c.read_list.result _ c.read_list.ensures
    c.in_err-signatures.ensures.told))

pub returns : goal.returns
returns c =
    let found = c.in_ok-whole.ensures.1 in
    let number = view c.in_ok-whole.whole.fifth.now in
    let right = version (goal.at.returns c).In_ok-under in
    let read = text (goal.at.returns c).In_ok-text in
    let devices = inside_ok (codes "devices") _ _ c.read_list.result c.in_ok-signatures.signatures
    c.read_list.ensures c.in_ok-signatures.ensures.same in (
      head_right _ found right read.0 devices.0,
      record {
        members = head_members (view c.args.value.now) found _ _ _ devices.1.0 read.1.0
            (version_is number (unless_none (is_version number) (under_none _ _ right)));
        text = read.1.1;
        devices = devices_right _ (listed_right device_wrong _ _ devices.1.0
            (under_none (codes "devices") _ devices.0));
      },
    )
