-- Abstract states, in order as a join tells.
use Rattle.std.specs.Prelude.{◌≡◌, ◌≢◌, ◌↔◌, Bool, true, false, not, IsTrue}
use Rattle.std.proofs.Common.{sym, ◌∙◌, subst}
use Rattle.std.proofs.lemmas.Bool.{not-false, not-true}
use Rattle.ja_abstract.specs.AbstractState.{AbstractState, join_states}
use Rattle.ja_abstract.specs.Order.{LeqState}
use Rattle.ja_abstract.proofs.Least.{state_least, state-join_right}
use Rattle.ja_abstract.proofs.Order.{state_equal, state_same, state-join}
use Rattle.ja_table.proofs.Told.{told_by}

-- what is below another is what a join into it doesn't change
pub state_by_join : (a b : AbstractState) → LeqState a b ↔ (join_states b a ≡ b)
state_by_join a b = (
  (λ h. state_equal (join_states b a) b (state_least b a b (state_same b) h) (state-join b a)),
  (λ e. subst (LeqState a) e (state-join_right b a)),
)

-- so it is told by a join into a copy
pub leq_told : (a b f j : AbstractState) (changed : Bool) → f ≡ b → j ≡ join_states f a
    → (changed ≡ true → j ≢ f) → (changed ≡ false → j ≡ f) → IsTrue (not changed) ↔ LeqState a b
leq_told a b f j changed f_is j_is other same =
    let holds : AbstractState → Type 0 = λ s. join_states s a ≡ s in
    told_by (not changed)
    (λ t. (state_by_join a b).1 (subst holds f_is (sym j_is ∙ same (not-true changed t))))
    (λ t leq. other (not-false changed t)
    (j_is ∙ subst holds (sym f_is) ((state_by_join a b).0 leq)))
