use Rattle.std.proofs.Common.{[], ◌∷◌, ◌++◌, List, ap, ◌∙◌, append_assoc, cond}
use Rattle.ja_abstract.specs.declared.abstraction.Key.{Key}
use Rattle.ja_abstract.specs.AbstractState.{name_key}
use Rattle.ja_value.specs.Value.{value_of}
use Rattle.ja_astate.specs.code.Lists.{names_below}
use Rattle.ja_astate.proofs.KeyLemmas.{names_more}
use Rattle.ja_astate.proofs.lists.push_names.Goals as goal

pub loop-number-preserved : goal.loop-number-preserved
loop-number-preserved c =
    let p = c.args.program.now in
    let v = value_of c.args.value.now in
    let n = c.loop-number.number in
    let old = c.args.keys.now.items in
    let is_pushed = c.in_ok-is_pushed.is_pushed in
    let one : List Key = cond is_pushed (name_key n ∷ []) [] in
    c.in_ok-push_if.ensures
    ∙ ap (λ (ks : List Key). ks ++ one) c.loop-number.invariant
    ∙ append_assoc old (names_below p v n) one
    ∙ ap (λ (ks : List Key). old ++ ks)
    (names_more p v n c.name.result.now is_pushed c.name.ensures c.in_ok-is_pushed.ensures)
