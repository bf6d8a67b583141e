-- Tests that tell facts.
use Rattle.std.specs.Prelude.{◌≡◌, ◌↔◌, ◌&&◌, Bool, true, false, IsTrue, Result, Ok, Err, OnErr}
use Rattle.std.proofs.Common.{refl, inl, inr}
use Rattle.std.proofs.lemmas.Bool.{and_from, and_parts, cases_Bool, false≢true}

pub told_by : {P : Type 0} → (b : Bool) → (b ≡ true → P) → (b ≡ false → P → ⊥) → IsTrue b ↔ P
told_by b then otherwise = (
  then,
  (λ h. elim (cases_Bool b) [ inl e ↦ e | inr e ↦ absurd (otherwise e h) ]),
)

pub told_some : {P : Type 0} → P → IsTrue true ↔ P
told_some holds = ((λ e. holds), (λ h. refl))

pub told_none : {P : Type 0} → (P → ⊥) → IsTrue false ↔ P
told_none never = ((λ e. absurd (false≢true e)), (λ h. absurd (never h)))

pub told_both : {P Q R : Type 0} → (a b : Bool) → IsTrue a ↔ P → IsTrue b ↔ Q → (P → Q → R)
    → (R → P) → (R → Q) → IsTrue (a && b) ↔ R
told_both a b h k from left right = (
  (λ t. let parts = and_parts a b t in from (h.0 parts.0) (k.0 parts.1)),
  (λ r. and_from a b (h.1 (left r)) (k.1 (right r))),
)

-- what holds in any case holds on a fault
pub on_fault : {T E P : Type 0} → (r : Result T E) → P → OnErr r P
on_fault (Ok x) p = tt
on_fault (Err e) p = p
