use Rattle.std.proofs.Common.{◌∙◌, sym}
use Rattle.ja_cert_json.specs.View.{view}
use Rattle.ja_cert_read.proofs.DevicesRight.{empty_list}
use Rattle.ja_cert_read.proofs.devices.is_empty_list.Goals as goal

pub returns-in-Some : goal.returns-in-Some
returns-in-Some c =
    c.is_empty.ensures
    ∙ sym (empty_list (view c.args.value.now) c.in-Some.values.now c.in-Some.ensures)
