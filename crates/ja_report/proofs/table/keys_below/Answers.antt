use Rattle.std.proofs.Common.{◌++◌, [], ◌∷◌, List, ap, sym, ◌∙◌, arith}
use Rattle.std.proofs.lemmas.List.FromFn.{map-range_with_len_more}
use Rattle.ja_abstract.specs.declared.abstraction.Key.{Key}
use Rattle.ja_abstract.specs.AbstractState.{name_key}
use Rattle.ja_report.proofs.table.keys_below.Goals as goal

pub loop-number-preserved : goal.loop-number-preserved
loop-number-preserved c =
    c.in_ok-push.ensures.items ∙ ap (λ (keys : List Key). keys ++ name_key c.loop-number.number
    ∷ []) c.loop-number.invariant ∙ sym (map-range_with_len_more name_key 0 c.loop-number.number
    c.loop-number.number (omega arith))
