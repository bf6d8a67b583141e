-- The registers at a function's entry.
use Rattle.std.proofs.Common.{arith, ◌≡◌, ◌+◌, ◌-◌, ◌<◌, ◌≤◌, ◌==◌, ℕ, zero, suc, Bool, List, [], ◌∷◌, ◌++◌, if◌then◌else◌, length, map, get_or, Option, refl, sym, ap, ◌∙◌, ⊎_elim}
use Rattle.std.specs.Prelude.{slice_get, unwrap_or, vec_len}
use Rattle.std.specs.List.{range_with_len}
use Rattle.std.proofs.lemmas.Bool.{cases_lt, lt-ltb, le-ltb, eq-eqb, ne_eqb}
use Rattle.std.proofs.lemmas.List.{get_or-map, length-map, length_push}
use Rattle.std.proofs.lemmas.List.FromFn.{get_or-map-range_with_len, length-map-range_with_len}
use Rattle.std.proofs.lemmas.Option.{slice_get_past}
use Rattle.ja_abstract.specs.AbstractValue.{AbstractValue, undefined_value, entry_property}
use Rattle.ja_abstract.specs.AbstractState.{AbstractState, exactly_none}
use Rattle.ja_rows.specs.Calls.{Arguments, entry_of}
use Rattle.ja_value.specs.declared.value.AValue.{AValue}
use Rattle.ja_value.specs.Value.{value_of}
use Rattle.ja_astate.specs.State.{register_in, entry_with}
use Rattle.ja_astate.proofs.RegisterLemmas.{register_past}
use Rattle.ja_flow.specs.code.Given.{later_register, AreArguments}
use Rattle.ja_flow.specs.declared.arguments.Arguments.{Arguments as Kept}

-- an element of a list that is given by numbers
pub element_given : {A B : Type 0} (v : A → B) (f : ℕ → B) (xs : List A) (n i : ℕ) (x : A)
    → map v xs ≡ map f (range_with_len 0 n) → length xs ≡ n → i < n → x ≡ get_or xs i x
    → v x ≡ f i
element_given v f xs n i x are long within is =
    ap v is ∙ sym (get_or-map v xs i x (v x) (omega (arith, long, within)))
    ∙ ap (λ (ys : List _). get_or ys i (v x)) are
    ∙ get_or-map-range_with_len f 0 n i i (v x) within (omega arith)

-- an element of such a list with one more behind
module _ {V : Type 0} (f : ℕ → V) (z u : V) where
  abbrev behind : ℕ → ℕ → ℕ → V
  behind a k n = unwrap_or (slice_get (map f (range_with_len a k) ++ z ∷ []) n) u

  behind-below : (a k n : ℕ) → n < k → behind a k n ≡ f (a + n)
  behind-below a zero n below = absurd (omega arith)
  behind-below a (suc k) zero below = ap f (let e : a ≡ a + 0 = omega arith in e)
  behind-below a (suc k) (suc n) below =
      behind-below (a + 1) k n (omega arith)
      ∙ ap f (let e : a + 1 + n ≡ a + suc n = omega arith in e)

  behind-at : (a k n : ℕ) → n ≡ k → behind a k n ≡ z
  behind-at a zero zero last = refl
  behind-at a zero (suc n) last = absurd (omega arith)
  behind-at a (suc k) zero last = absurd (omega arith)
  behind-at a (suc k) (suc n) last = behind-at (a + 1) k n (omega arith)

  behind-past : (a k n : ℕ) → k < n → behind a k n ≡ u
  behind-past a zero zero past = absurd (omega arith)
  behind-past a zero (suc n) past = refl
  behind-past a (suc k) zero past = absurd (omega arith)
  behind-past a (suc k) (suc n) past = behind-past (a + 1) k n (omega arith)

-- as many parameters as are given
pub counted : (n : ℕ) (g : Arguments) (kept : Kept) → AreArguments n g kept
    → vec_len kept.parameters ≡ n
counted n g kept are =
    kept.parameters.ok.0 ∙ sym (length-map kept.parameters.items value_of)
    ∙ ap length are.parameters_are ∙ length-map-range_with_len g.parameter 0 n

kept_at : (values : List AValue) (r : ℕ)
    → register_in values r ≡ get_or (map value_of values) r undefined_value
kept_at [] r = refl
kept_at (x ∷ xs) zero = refl
kept_at (x ∷ xs) (suc r) = kept_at xs r

-- ---- what stands behind the registers that each function has

module _ (parameters : ℕ) (g : Arguments) where
  pub later_parameter : (n : ℕ) (v : AbstractValue) → n < parameters → v ≡ g.parameter n
      → v ≡ later_register parameters g n
  later_parameter n v within is =
      is ∙ ap (λ (b : Bool).
      if b then g.parameter n else if n == parameters then g.rest else undefined_value)
      (sym (lt-ltb n parameters within))

  pub later_rest : (n : ℕ) (v : AbstractValue) → n ≡ parameters → v ≡ g.rest
      → v ≡ later_register parameters g n
  later_rest n v there is =
      is
      ∙ ap (λ (b : Bool). if b then g.rest else undefined_value)
      (sym (eq-eqb n parameters there))
      ∙ ap (λ (b : Bool).
      if b then g.parameter n else if n == parameters then g.rest else undefined_value)
      (sym (le-ltb n parameters (omega (arith, there))))

  pub later_other : (n : ℕ) (v : AbstractValue) → parameters ≤ n → (n ≡ parameters → ⊥)
      → v ≡ undefined_value → v ≡ later_register parameters g n
  later_other n v past other is =
      is
      ∙ ap (λ (b : Bool). if b then g.rest else undefined_value)
      (sym (ne_eqb n parameters other))
      ∙ ap (λ (b : Bool).
      if b then g.parameter n else if n == parameters then g.rest else undefined_value)
      (sym (le-ltb n parameters past))

  later_is : (n : ℕ) → later_register parameters g n
      ≡ behind g.parameter g.rest undefined_value 0 parameters n
  later_is n =
      ⊎_elim (λ (below : n < parameters). sym (later_parameter n (g.parameter n) below refl)
      ∙ ap g.parameter (let e : n ≡ 0 + n = omega arith in e)
      ∙ sym (behind-below g.parameter g.rest undefined_value 0 parameters n below))
      (λ (from : parameters ≤ n). ⊎_elim (λ (past : parameters < n).
      sym (later_other n undefined_value from (λ e. omega arith) refl)
      ∙ sym (behind-past g.parameter g.rest undefined_value 0 parameters n past))
      (λ (last : n ≤ parameters). let same : n ≡ parameters = omega arith in
      sym (later_rest n g.rest same refl)
      ∙ sym (behind-at g.parameter g.rest undefined_value 0 parameters n same))
      (cases_lt parameters n)) (cases_lt n parameters)

-- ---- the registers

module _ (parameters : ℕ) (receiver chain callee : AbstractValue) (g : Arguments) where
  abbrev pub entry_at : ℕ → AbstractValue
  entry_at = (entry_of parameters receiver chain callee g).register

  -- a register behind those that each function has
  pub entry_later : (r : ℕ) → 5 ≤ r → later_register parameters g (r - 5) ≡ entry_at r
  entry_later r fixed =
      later_is parameters g (r - 5)
      ∙ ap entry_at (let e : suc (suc (suc (suc (suc (r - 5))))) ≡ r = omega arith in e)

  -- one behind them all
  pub entry_past : (r : ℕ) → 6 + parameters ≤ r → entry_at r ≡ undefined_value
  entry_past r past =
      let given = map g.parameter (range_with_len 0 parameters) in
      ap (λ (o : Option AbstractValue). unwrap_or o undefined_value)
      (slice_get_past (undefined_value ∷ receiver ∷ chain ∷ callee ∷ g.count
      ∷ given ++ g.rest ∷ []) r (omega (
        arith,
        length_push given g.rest,
        length-map-range_with_len g.parameter 0 parameters,
      )))

  -- registers that are kept as they are at entry
  pub entry_kept : (values : List AValue) (count : ℕ) → 6 + parameters ≤ count
      → map value_of values ≡ map entry_at (range_with_len 0 count)
      → register_in values ≡ entry_at
  entry_kept values count all are = λ i r. by r i
    where
      long : length values ≡ count
      long =
          sym (length-map values value_of) ∙ ap length are
          ∙ length-map-range_with_len entry_at 0 count

      by : (r : ℕ) → register_in values r ≡ entry_at r
      by r =
          ⊎_elim (λ (within : r < count). kept_at values r
          ∙ ap (λ (ys : List AbstractValue). get_or ys r undefined_value) are
          ∙ get_or-map-range_with_len entry_at 0 count r r undefined_value within (omega arith))
          (λ (past : count ≤ r). register_past values r (omega (arith, long, past))
          ∙ sym (entry_past r (omega (arith, all, past)))) (cases_lt r count)

  pub state_kept : (values : List AValue) (count : ℕ) → 6 + parameters ≤ count
      → map value_of values ≡ map entry_at (range_with_len 0 count)
      → entry_with values ≡ entry_of parameters receiver chain callee g
  state_kept values count all are =
      ap {B = AbstractState} (λ (r : ℕ → AbstractValue).
      record { register = r; property = λ l k. entry_property; mask = λ s. exactly_none })
      (entry_kept values count all are)
