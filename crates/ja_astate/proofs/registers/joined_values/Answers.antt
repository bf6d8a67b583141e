use Rattle.std.proofs.Common.{◌≡◌, ℕ, true, false, ap, sym, ◌∙◌}
use Rattle.ja_abstract.specs.AbstractValue.{AbstractValue}
use Rattle.ja_astate.specs.State.{register_in}
use Rattle.ja_astate.proofs.RegisterLemmas.{join_holding, holding_join}
use Rattle.ja_astate.proofs.registers.joined_values.Goals as goal

pub returns-then-leq_values-clause-joined : goal.returns-then-leq_values-clause-joined
returns-then-leq_values-clause-joined c = λ r.
    sym (join_holding (register_in c.args.values.now r) (register_in c.args.others.now r)
    (c.leq_values.ensures.0 c.if-leq_values.true r))

pub returns-clause-changed : goal.returns-clause-changed
returns-clause-changed c = λ same.
    let values = register_in c.args.values.now in
    let others = register_in c.args.others.now in
    let held : c.leq_values.result ≡ true = c.leq_values.ensures.1 (λ r.
    holding_join (values r) (others r) (sym (c.in_ok-joined.ensures.joined r)
    ∙ ap (λ (f : ℕ → AbstractValue). f r) same)) in
    let clash : true ≡ false = sym held ∙ c.if-leq_values.false in
    absurd (cc)
