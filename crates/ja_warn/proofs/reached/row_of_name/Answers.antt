use Rattle.std.proofs.Common.{refl}
use Rattle.ja_astate.specs.Looks.{view_of}
use Rattle.ja_rows.specs.Out.{name_keys}
use Rattle.ja_value.specs.Value.{value_of}
use Rattle.ja_warn.proofs.NodeLemmas.{says_name}
use Rattle.ja_warn.proofs.reached.row_of_name.Goals as goal

pub returns : goal.returns
returns c =
    says_name (view_of c.args.reader.now) c.args.base (name_keys c.args.name)
    (value_of c.register-base.result.now) c.in_ok-fault.field-0 _ c.register-base.ensures
    c.in_ok-fault.ensures refl refl
