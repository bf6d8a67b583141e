-- Arguments that are read one after another, up to the first that isn't.
use Rattle.std.proofs.Common.{◌≡◌, ℕ, suc, ◌+◌, ◌-◌, ◌<◌, List, [], ◌∷◌, ◌++◌, map, Result, Ok, Err, refl, sym, ap, ◌∙◌, arith, append_assoc}
use Rattle.std.specs.List.{range_with_len}
use Rattle.ja_base.specs.declared.ids.ScopeKind.{ScopeKind}
use Rattle.ja_machine.specs.declared.machine.Value.{Value}
use Rattle.ja_machine.specs.Calls.{ArgumentsRead, with_first, all_given}
use Rattle.ja_step.specs.code.Arguments.{with_front}

front_first : (vs : List Value) (v : Value) (g : ArgumentsRead)
    → with_front vs (with_first v g) ≡ with_front (vs ++ v ∷ []) g
front_first vs v (Ok ws) =
    ap (λ (xs : List Value). let g : ArgumentsRead = Ok xs in g) (sym (append_assoc vs (v ∷ []) ws))
front_first vs v (Err kind) = refl

module _ (f : ℕ → Result Value ScopeKind) (n : ℕ) where
  -- those from a place on
  abbrev pub rest_from : ℕ → ArgumentsRead
  rest_from i = all_given (map f (range_with_len i (n - i)))

  abbrev pub all : ArgumentsRead
  all = all_given (map f (range_with_len 0 n))

  -- those so far, before the rest, are all
  abbrev pub AreFirst : ℕ → List Value → Type 0
  AreFirst i vs = with_front vs (rest_from i) ≡ all

  next : (i : ℕ) → i < n → rest_from i ≡ all_given
      (f i ∷ map f (range_with_len (i + 1) (n - (i + 1))))
  next i low = let e : n - i ≡ suc (n - (i + 1)) = omega (arith, low) in
      ap (λ k. all_given (map f (range_with_len i k))) e

  at_next : (i : ℕ) (r : Result Value ScopeKind) → i < n → f i ≡ r
      → rest_from i ≡ all_given (r ∷ map f (range_with_len (i + 1) (n - (i + 1))))
  at_next i r low is =
      next i low ∙ ap (λ s. all_given (s ∷ map f (range_with_len (i + 1) (n - (i + 1))))) is

  pub one_more : (i : ℕ) (vs : List Value) (v : Value) → i < n → f i ≡ Ok v → AreFirst i vs
      → AreFirst (i + 1) (vs ++ v ∷ [])
  one_more i vs v low is first =
      sym (front_first vs v (rest_from (i + 1)))
      ∙ ap (with_front vs) (sym (at_next i (Ok v) low is)) ∙ first

  pub stopped : (i : ℕ) (vs : List Value) (kind : ScopeKind) → i < n → f i ≡ Err kind
      → AreFirst i vs → Err kind ≡ all
  stopped i vs kind low is first = ap (with_front vs) (sym (at_next i (Err kind) low is)) ∙ first
