use Rattle.std.proofs.Common.{◌∙◌, sym, arith}
use Rattle.std.proofs.lemmas.List.FromFn.{map-range_with_len_more}
use Rattle.ja_value.specs.Value.{value_of}
use Rattle.ja_astate.specs.code.Opening.{opening_register}
use Rattle.ja_astate.proofs.OpeningLemmas.{mapped_push}
use Rattle.ja_astate.proofs.opening.opening_registers.Goals as goal

pub loop-register-preserved : goal.loop-register-preserved
loop-register-preserved c =
    let n = c.loop-register.register in
    mapped_push value_of _ _ c.in_ok-opening_register.field-0 _ _ c.in_ok-push.ensures.items
    c.loop-register.invariant c.in_ok-opening_register.ensures
    ∙ sym (map-range_with_len_more opening_register 0 n n (omega arith))
