use Rattle.std.proofs.Common.{◌≡◌, [], ◌∷◌, sym, ap, subst, ◌∙◌}
use Rattle.std.proofs.lemmas.Result.{IfOk-weaker}
use lib.Chars.{codes}
use Rattle.ja_abstract.specs.declared.abstraction.Key.{Key}
use Rattle.ja_abstract.specs.AbstractValue.{AbstractProperty}
use Rattle.ja_abstract.specs.Keys.{text_key}
use Rattle.ja_abstract.specs.Reading.{get, demands_of_get}
use Rattle.ja_value.specs.Value.{labels_in}
use Rattle.ja_transfer.specs.Outcomes.{at_view}
use Rattle.ja_nodes.specs.code.Instances.{IsPrototype}
use Rattle.ja_nodes.proofs.instances.prototype_of.Goals as goal

pub returns-then-not-is_asked : goal.returns-then-not-is_asked
returns-then-not-is_asked c =
    subst (λ b. IsPrototype (at_view c.args.stepper.now) b (labels_in c.args.functions.now)
    (record { property = c.nothing.result; demands = c.new.result })) (sym c.if-not-is_asked.true)
    (record {
      value = ap (λ (q : AbstractProperty). q.value) c.nothing.ensures;
      demands_are = c.new.ensures;
    })

pub returns : goal.returns
returns c =
    let s = c.args.stepper.now in
    let w = at_view s in
    let p = w.program in
    let set = labels_in c.args.functions.now in
    let key_is : c.text_key-key.result ≡ text_key p (codes "prototype") =
    c.text_key-key.ensures p s.reader.keys_are ∙ ap (text_key p) c.in_ok-text.ensures in
    let keys_are = ap (λ (k : Key). k ∷ []) key_is in
    IfOk-weaker c.get.result _ _ (λ looked is. subst (λ b. IsPrototype w b set looked)
    (sym c.if-not-is_asked.false) (record {
      value =
          ap (λ (q : AbstractProperty). q.value) is.property
          ∙ ap (λ ks. (get w set ks).value) keys_are;
      demands_are = is.demands_are ∙ ap (demands_of_get w set) keys_are;
    })) c.get.ensures
