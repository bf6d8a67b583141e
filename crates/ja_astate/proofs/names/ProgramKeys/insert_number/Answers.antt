use Rattle.std.proofs.Common.{ap, sym, ◌∙◌}
use Rattle.std.proofs.lemmas.Result.{IfOk-weaker}
use Rattle.ja_abstract.specs.declared.abstraction.Key.{Key}
use Rattle.ja_abstract.specs.declared.abstraction.NumberPart.{NumberPart}
use Rattle.ja_abstract.specs.Keys.{text_key}
use Rattle.ja_astate.specs.code.Insertion.{insert_key, with_number}
use Rattle.ja_astate.proofs.ValueLemmas.{no_number}
use Rattle.ja_astate.proofs.names.ProgramKeys.insert_number.Goals as goal

pub returns-in_ok-text-in-One : goal.returns-in_ok-text-in-One
returns-in_ok-text-in-One c =
    let old = c.args.keys.now.items in
    IfOk-weaker c.insert_key.result _ _ (λ _ e p is.
    e ∙ ap (λ (k : Key). insert_key k old) (c.text_key.ensures p is
    ∙ ap (text_key p) c.in_ok-text-in-One.ensures)
    ∙ ap (λ (n : NumberPart). with_number p n old) (sym c.in-One.is)) c.insert_key.ensures

pub returns-in_default : goal.returns-in_default
returns-in_default c = λ p is.
    no_number p c.args.number c.args.keys.now.items (λ z. c.in_default.not-One z)
