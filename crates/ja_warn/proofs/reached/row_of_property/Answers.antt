use Rattle.std.proofs.Common.{refl, sym, ap, ◌∙◌}
use Rattle.std.proofs.lemmas.Result.{IfOk-weaker}
use Rattle.ja_astate.specs.Looks.{view_of}
use Rattle.ja_rows.specs.Warning.{one_key}
use Rattle.ja_value.specs.Value.{value_of}
use Rattle.ja_warn.proofs.NodeLemmas.{says_key, says_no_key}
use Rattle.ja_warn.proofs.reached.row_of_property.Goals as goal

pub returns-in-Some : goal.returns-in-Some
returns-in-Some c =
    let w = view_of c.args.reader.now in
    IfOk-weaker c.row.result _ _ (λ a says. says_key w c.args.object c.args.key
    (value_of c.register-object.result.now) c.in-Some.key a c.register-object.ensures
    (ap (one_key w) (sym c.register.ensures) ∙ sym c.one_key.ensures ∙ c.in-Some.is) says)
    c.row.ensures

pub returns-in-None : goal.returns-in-None
returns-in-None c =
    let w = view_of c.args.reader.now in
    says_no_key w c.args.object c.args.key _
    (ap (one_key w) (sym c.register.ensures) ∙ sym c.one_key.ensures ∙ c.in-None.is) refl refl
