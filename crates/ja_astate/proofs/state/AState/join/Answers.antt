use Rattle.std.proofs.Common.{ℕ, List, Option, Vec, Global, ap, sym, ◌∙◌}
use Rattle.std.specs.Option.{option_map_or}
use Rattle.ja_abstract.specs.AbstractValue.{join}
use Rattle.ja_value.specs.declared.value.AValue.{AValue}
use Rattle.ja_astate.specs.State.{register_in}
use Rattle.ja_astate.proofs.state.AState.join.Goals as goal

pub returns-in-Some-clause-joined : goal.returns-in-Some-clause-joined
returns-in-Some-clause-joined c =
    let heap = c.in_ok-changed.ensures.joined in
    let registers = λ (r : ℕ). ap (λ (o : Option (Vec AValue Global)).
    register_in (option_map_or (λ (v : Vec AValue Global). v.items) o c.deref.result.now) r)
    (sym c.in-Some.is) ∙ c.in_ok-joined.ensures.joined r
    ∙ (λ i. join (register_in (c.deref.ensures.value i) r)
    (register_in (c.deref-2.ensures.value i) r)) in
    λ i. record {
      register = λ r. (registers r) i;
      property = (heap i).property;
      mask = (heap i).mask;
    }

pub returns-in-None-clause-joined : goal.returns-in-None-clause-joined
returns-in-None-clause-joined c =
    let heap = c.in_ok-changed.ensures.joined in
    let registers = λ (r : ℕ).
    ap (λ (xs : List AValue). register_in xs r) (sym c.deref.ensures.value)
    ∙ ap (λ (o : Option (Vec AValue Global)).
    register_in (option_map_or (λ (v : Vec AValue Global). v.items) o c.deref.result.now) r)
    (sym c.in-None.is) ∙ c.in_ok-joined.ensures.joined r
    ∙ (λ i. join (register_in (c.deref.ensures.value i) r)
    (register_in (c.deref-2.ensures.value i) r)) in
    λ i. record {
      register = λ r. (registers r) i;
      property = (heap i).property;
      mask = (heap i).mask;
    }
