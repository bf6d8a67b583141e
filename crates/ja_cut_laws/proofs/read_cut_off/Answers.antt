-- What is read has data, and what is left of a text has none.
use Rattle.std.proofs.Common.{◌∙◌, sym}
use Rattle.std.proofs.lemmas.Result.{IfOk-weaker}
use Rattle.ja_cert_json.specs.View.{view}
use Rattle.ja_cut_laws.proofs.Refused.{cut_is_refused}
use Rattle.ja_cut_laws.proofs.Shapes.{not_found}
use Rattle.ja_cut_laws.proofs.read_cut_off.Goals as goal

pub returns : goal.returns
returns c =
    let none = cut_is_refused c.args.text.now c.requires in
    IfOk-weaker c.read.result _ _ (λ found is. not_found (view found) (sym none ∙ is))
    c.read.ensures.data
