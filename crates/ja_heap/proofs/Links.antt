-- What is found along a chain, one object after another.
use Rattle.std.proofs.Common.{◌≡◌, ℕ, zero, suc, ◌+◌, ◌-◌, ◌<◌, List, [], ◌∷◌, ◌++◌, drop, Some, None, Option, refl, sym, ap, ◌∙◌, arith, append-nil, append_assoc}
use Rattle.std.specs.Option.{option_and_then}
use Rattle.ja_machine.specs.declared.machine.Addr.{Addr}
use Rattle.ja_machine.specs.declared.machine.Object.{Object}
use Rattle.ja_machine.specs.declared.machine.Heap.{Heap}
use Rattle.ja_machine.specs.Heap.{object_at, chain}

module _ (link : Object → Option Addr) (h : Heap) where
  -- a chain ends where there is no object
  pub ended : (n : ℕ) → chain link h n None ≡ []
  ended zero = refl
  ended (suc n) = refl

  -- the chain behind its first object
  pub rest : (n : ℕ) (a : Addr) → drop 1 (chain link h n (Some a))
      ≡ chain link h (n - 1) (option_and_then link (object_at h a))
  rest zero a = refl
  rest (suc n) a =
      let e : n ≡ suc n - 1 = omega arith in
      ap (λ m. chain link h m (option_and_then link (object_at h a))) e

  -- one object of a chain, and those behind it
  pub next : (n i : ℕ) (a : Addr) → i < n → chain link h (n - i) (Some a) ≡ a
      ∷ chain link h (n - (i + 1)) (option_and_then link (object_at h a))
  next n i a l = let e : n - i ≡ suc (n - (i + 1)) = omega arith in
      ap (λ m. chain link h m (Some a)) e

  -- what was walked is all where the chain ends
  pub walked : (done : List Addr) (n : ℕ) (at : Option Addr) → at ≡ None
      → done ++ chain link h n at ≡ done
  walked done n at e =
      ap (λ r. done ++ chain link h n r) e ∙ (ap (λ xs. done ++ xs) (ended n) ∙ append-nil done)

  -- .. and one object more is walked where it goes on
  pub walked_on : (done : List Addr) (n i : ℕ) (a : Addr) (at : Option Addr) → at ≡ Some a → i < n
      → done ++ chain link h (n - i) at ≡ (done ++ a ∷ [])
      ++ chain link h (n - (i + 1)) (option_and_then link (object_at h a))
  walked_on done n i a at e l =
      ap (λ r. done ++ chain link h (n - i) r) e
      ∙ (ap (λ xs. done ++ xs) (next n i a l)
      ∙ sym (append_assoc done (a ∷ []) (chain link h (n - (i + 1))
      (option_and_then link (object_at h a)))))

pub ruleset walk = (ended, rest, next)
