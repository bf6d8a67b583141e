use Rattle.std.proofs.Common.{◌≡◌, [], ◌∷◌, ap, ◌∙◌}
use Rattle.std.proofs.lemmas.Result.{IfOk-weaker}
use lib.Chars.{codes}
use Rattle.ja_abstract.specs.declared.abstraction.Key.{Key}
use Rattle.ja_abstract.specs.Keys.{text_key}
use Rattle.ja_abstract.specs.Reading.{get, demands_of_get}
use Rattle.ja_value.specs.Value.{labels_in}
use Rattle.ja_astate.specs.Looks.{view_of}
use Rattle.ja_flow.proofs.calling.prototype_of.Goals as goal

pub returns : goal.returns
returns c =
    let r = c.args.reader.now in
    let w = view_of r in
    let p = r.program.now in
    let set = labels_in c.args.functions.now in
    let key_is : c.text_key-key.result ≡ text_key p (codes "prototype") =
    c.text_key-key.ensures p r.keys_are ∙ ap (text_key p) c.in_ok-text.ensures in
    let keys_are = ap (λ (k : Key). k ∷ []) key_is in
    IfOk-weaker c.get.result _ _ (λ looked is. record {
      property = is.property ∙ ap (get w set) keys_are;
      demands_are = is.demands_are ∙ ap (demands_of_get w set) keys_are;
    }) c.get.ensures
