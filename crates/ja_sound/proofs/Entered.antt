-- A function that is entered: the state at its entry holds, and the edge is one of the node's.
use Rattle.std.specs.Prelude.{◌≡◌, ◌<◌, ◌≤◌, ◌+◌, ◌-◌, ◌++◌, ℕ, zero, suc, pos, IsTrue, List, [], ◌∷◌, map, drop, replicate, length, slice_get, unwrap_or, Option, Some}
use Rattle.std.specs.List.{AllByRecursion, range_with_len}
use Rattle.std.proofs.Common.{refl, sym, subst, inr, arith}
use Rattle.std.proofs.lemmas.Option.{none-some, same_Some}
use Rattle.std.proofs.lemmas.List.{length-map}
use Rattle.std.proofs.lemmas.Cmp.{int_eq_equiv}
use Rattle.ja_base.specs.declared.ids.FnId.{FnId}
use Rattle.ja_base.specs.declared.ids.Reg.{Reg}
use Rattle.ja_graph.specs.declared.program.Program.{Program}
use Rattle.ja_machine.specs.declared.machine.Addr.{Addr}
use Rattle.ja_machine.specs.declared.machine.Value.{Value}
use Rattle.ja_machine.specs.declared.machine.Value.TheVariants as value
use Rattle.ja_machine.specs.declared.machine.Heap.{Heap}
use Rattle.ja_machine.specs.declared.machine.Frame.{Frame}
use Rattle.ja_machine.specs.Frames.{undefined, argument, object_or_undefined, entered, parameters_of, registers_of, register_of}
use Rattle.ja_machine.specs.Writes.{whole_number}
use Rattle.ja_abstract.specs.AbstractValue.{AbstractValue, undefined_value}
use Rattle.ja_abstract.specs.AbstractState.{AbstractState}
use Rattle.ja_abstract.specs.Reading.{View}
use Rattle.ja_abstract.specs.Resolved.{join_values}
use Rattle.ja_abstract.specs.Made.{rest_register, whole_constant}
use Rattle.ja_meaning.specs.Meaning.{has_value, Holds}
use Rattle.ja_meaning.proofs.Values.{has_value-join_left, has_value-join_right}
use Rattle.ja_rows.specs.Calls.{Arguments, entry_of}
use Rattle.ja_rows.specs.Calls as calls
use Rattle.ja_rows.specs.Out as abstract

-- ---- arguments

-- what is known of the arguments that a function is given
pub record AreGiven (h : Heap) (parameters : ℕ) (arguments : List Value)
    (g : Arguments) : Type 0 where
  pub parameter : (j : ℕ) → j < parameters → IsTrue
      (has_value h (g.parameter j) (argument arguments j))
  pub rest : (i : ℕ) (v : Value) → parameters ≤ i → slice_get arguments i ≡ Some v
      → IsTrue (has_value h g.rest v)
  pub no_rest : IsTrue (has_value h g.rest undefined)
  pub count : IsTrue (has_value h g.count (whole_number (length arguments)))

-- ---- the registers at an entry

-- what the list has at a place, and undefined past it
abbrev value_at : List AbstractValue → ℕ → AbstractValue
value_at us i = unwrap_or (slice_get us i) undefined_value

of_undefined : (n i : ℕ) (v : Value) → slice_get (replicate n undefined) i ≡ Some v → undefined ≡ v
of_undefined zero i v e = absurd (none-some v e)
of_undefined (suc n) zero v e = same_Some undefined v e
of_undefined (suc n) (suc i) v e = of_undefined n i v e

-- .. behind the parameters: the rest, and the temporaries
tail_has : (h : Heap) (rest : AbstractValue) (i : ℕ) (v : Value)
    → IsTrue (has_value h rest undefined) → undefined ≡ v
    → IsTrue (has_value h (value_at (rest ∷ []) i) v)
tail_has h rest zero v has is = subst (λ x. IsTrue (has_value h rest x)) is has
tail_has h rest (suc i) v has is = subst (λ x. IsTrue (has_value h undefined_value x)) is refl

-- .. and with the parameters
parameters_have : (h : Heap) (fs : ℕ → Value) (gs : ℕ → AbstractValue) (rest : AbstractValue)
    (k a n : ℕ) → IsTrue (has_value h rest undefined)
    → ((j : ℕ) → a ≤ j → j < a + n → IsTrue (has_value h (gs j) (fs j))) → (i : ℕ) (v : Value)
    → slice_get (map fs (range_with_len a n) ++ replicate k undefined) i ≡ Some v
    → IsTrue (has_value h (value_at (map gs (range_with_len a n) ++ rest ∷ []) i) v)
parameters_have h fs gs rest k a zero has each i v e =
    tail_has h rest i v has (of_undefined k i v e)
parameters_have h fs gs rest k a (suc n) has each zero v e =
    subst (λ x. IsTrue (has_value h (gs a) x)) (same_Some (fs a) v e)
    (each a (omega arith) (omega arith))
parameters_have h fs gs rest k a (suc n) has each (suc i) v e =
    parameters_have h fs gs rest k (a + 1) n has (λ j l m. each j (omega arith) (omega arith)) i v e

-- the register of the rest
rest_there : (gs : ℕ → AbstractValue) (rest : AbstractValue) (a n : ℕ)
    → value_at (map gs (range_with_len a n) ++ rest ∷ []) n ≡ rest
rest_there gs rest a zero = refl
rest_there gs rest a (suc n) = rest_there gs rest (a + 1) n

module _ (h : Heap) (p : Program) (steps : ℕ) (f : FnId) (receiver : Addr) (callee : Option Addr)
    (chain : Addr) (arguments : List Value) (this chains callees : AbstractValue) (g : Arguments)
    (this_has : IsTrue (has_value h this (value.Object receiver)))
    (chain_has : IsTrue (has_value h chains (value.Object chain)))
    (callee_has : IsTrue (has_value h callees (object_or_undefined callee)))
    (given : AreGiven h (parameters_of p f) arguments g) where
  abbrev parameters : ℕ
  parameters = parameters_of p f

  abbrev a : AbstractState
  a = entry_of parameters this chains callees g

  abbrev frame : Frame
  frame = entered p steps f receiver callee chain arguments

  register_has : (r : ℕ) (v : Value) → slice_get frame.registers r ≡ Some v
      → IsTrue (has_value h (a.register r) v)
  register_has zero v e =
      subst (λ x. IsTrue (has_value h undefined_value x)) (same_Some undefined v e) refl
  register_has (suc zero) v e =
      subst (λ x. IsTrue (has_value h this x)) (same_Some (value.Object receiver) v e) this_has
  register_has (suc (suc zero)) v e =
      subst (λ x. IsTrue (has_value h chains x)) (same_Some (value.Object chain) v e) chain_has
  register_has (suc (suc (suc zero))) v e =
      subst (λ x. IsTrue (has_value h callees x))
      (same_Some (object_or_undefined callee) v e) callee_has
  register_has (suc (suc (suc (suc zero)))) v e =
      subst (λ x. IsTrue (has_value h g.count x))
      (same_Some (whole_number (length arguments)) v e) given.count
  register_has (suc (suc (suc (suc (suc r))))) v e =
      parameters_have h (argument arguments) g.parameter g.rest
      (registers_of p f - 5 - parameters) 0 parameters given.no_rest
      (λ j l m. given.parameter j (omega arith)) r v e

  rest_has : (i : ℕ) (v : Value) → parameters ≤ i → slice_get arguments i ≡ Some v
      → IsTrue (has_value h (a.register (rest_register parameters)) v)
  rest_has i v l e =
      let place : suc (suc (suc (suc (suc parameters)))) ≡ rest_register parameters = omega arith in
      subst (λ r. IsTrue (has_value h (a.register r) v)) place
      (subst (λ u. IsTrue (has_value h u v)) (sym (rest_there g.parameter g.rest 0 parameters))
      (given.rest i v l e))

  -- the entry state holds of the frame, in the heap with which it is entered
  pub entry_holds : Holds p h h frame a
  entry_holds = record {
    heap = record {
      objects = λ o x there. inr (refl, record { there = there; same = refl });
      some = λ t l. absurd (omega arith);
      none = λ t e. refl;
    };
    registers = register_has;
    rest = rest_has;
  }

-- ---- registers as arguments

module _ (h : Heap) (w : View) (top : Frame) where
  -- the value of a register is in what the view has at it
  abbrev pub Has : Reg → Type 0
  Has r = IsTrue (has_value h (abstract.at w r) (register_of top r))

  listed_has : (list : List Reg) (j : ℕ) → AllByRecursion Has list → IsTrue
      (has_value h (unwrap_or (slice_get (calls.values_of w list) j) undefined_value)
      (argument (map (register_of top) list) j))
  listed_has [] j has = refl
  listed_has (r ∷ rs) zero has = has.0
  listed_has (r ∷ rs) (suc j) has = listed_has rs j has.1

  join_has : (us : List AbstractValue) (vs : List Value) (i : ℕ) (v : Value)
      → ((j : ℕ) (u : Value) → slice_get vs j ≡ Some u
      → (x : AbstractValue) × (slice_get us j ≡ Some x) × IsTrue (has_value h x u))
      → slice_get vs i ≡ Some v → IsTrue (has_value h (join_values us) v)
  join_has us vs i v each e = let (x, at, has_it) = each i v e in in_join us i x v at has_it
    where
      in_join : (xs : List AbstractValue) (n : ℕ) (x : AbstractValue) (u : Value)
          → slice_get xs n ≡ Some x → IsTrue (has_value h x u)
          → IsTrue (has_value h (join_values xs) u)
      in_join [] n x u at b = absurd (none-some x at)
      in_join (y ∷ ys) zero x u at b =
          has_value-join_left h y (join_values ys) u
          (subst (λ z. IsTrue (has_value h z u)) (sym (same_Some y x at)) b)
      in_join (y ∷ ys) (suc n) x u at b =
          has_value-join_right h y (join_values ys) u (in_join ys n x u at b)

  paired : (list : List Reg) → AllByRecursion Has list → (n j : ℕ) (u : Value)
      → slice_get (drop n (map (register_of top) list)) j ≡ Some u
      → (x : AbstractValue) × (slice_get (drop n (calls.values_of w list)) j ≡ Some x)
      × IsTrue (has_value h x u)
  paired [] has zero j u e = absurd (none-some u e)
  paired [] has (suc n) j u e = absurd (none-some u e)
  paired (r ∷ rs) has zero zero u e = (
    abstract.at w r,
    refl,
    subst (λ z. IsTrue (has_value h (abstract.at w r) z))
        (same_Some (register_of top r) u e) has.0,
  )
  paired (r ∷ rs) has zero (suc j) u e = paired rs has.1 zero j u e
  paired (r ∷ rs) has (suc n) j u e = paired rs has.1 n j u e

  -- a place in a list is one in what is left of it
  dropped : (vs : List Value) (n i : ℕ) (v : Value) → n ≤ i → slice_get vs i ≡ Some v
      → slice_get (drop n vs) (i - n) ≡ Some v
  dropped vs zero i v l e =
      subst (λ k. slice_get vs k ≡ Some v) (let z : i ≡ i - 0 = omega arith in z) e
  dropped [] (suc n) i v l e = absurd (none-some v e)
  dropped (x ∷ xs) (suc n) zero v l e = absurd (omega arith)
  dropped (x ∷ xs) (suc n) (suc i) v l e =
      subst (λ k. slice_get (drop n xs) k ≡ Some v)
      (let z : i - n ≡ suc i - suc n = omega arith in z) (dropped xs n i v (omega arith) e)

  pub listed_given : (parameters : ℕ) (list : List Reg) → AllByRecursion Has list
      → AreGiven h parameters (map (register_of top) list) (calls.listed w parameters list)
  listed_given parameters list has = record {
    parameter = λ j l. listed_has list j has;
    rest =
        λ i v l e. has_value-join_right h undefined_value
        (join_values (drop parameters (calls.values_of w list))) v
        (join_has (drop parameters (calls.values_of w list))
        (drop parameters (map (register_of top) list)) (i - parameters) v
        (paired list has parameters) (dropped (map (register_of top) list) parameters i v l e));
    no_rest =
        has_value-join_left h undefined_value (join_values
        (drop parameters (calls.values_of w list))) undefined refl;
    count =
        subst (λ n. IsTrue (has_value h (whole_constant (length list)) (whole_number n)))
        (sym (length-map list (register_of top))) (int_eq_equiv.refl (pos (length list)));
  }
