-- The order of contexts, and their places in it.
use Rattle.std.specs.Prelude.{◌≡◌, ◌⊎◌, ◌<◌, ◌≤◌, ◌+◌, ◌*◌, ◌==◌, ◌&&◌, ℕ, zero, suc, Bool, true, false, if◌then◌else◌, nat_lt, IsTrue, List, [], ◌∷◌, Some, drop, length, slice_get, take}
use Rattle.std.specs.List.{list_any, AllByRecursion}
use Rattle.std.proofs.Common.{refl, subst, ap, inl, inr, arith}
use Rattle.std.proofs.lemmas.Bool.{and_parts, eqb-true, false≢true, ltb-true, or_cases}
use Rattle.std.proofs.lemmas.Nat.{mul-add-lt}
use Rattle.std.proofs.lemmas.Option.{same_Some}
use Rattle.ja_base.specs.declared.ids.Context.{Context}
use Rattle.ja_base.proofs.Options.{none_not_some}
use Rattle.ja_graph.specs.declared.program.Program.{Program}
use Rattle.ja_abstract.specs.AbstractState.{label_number}
use Rattle.ja_table.specs.Order.{below_context}
use Rattle.ja_table.specs.Tables.{IsContext}

-- ---- the order

-- by function, and of one function by receiver
abbrev pub IsBelow : Context → Context → Type 0
IsBelow x y =
    (x.function.0 < y.function.0)
    ⊎ ((x.function.0 ≡ y.function.0) × (label_number x.receiver < label_number y.receiver))

below_is : (x y : Context) → IsTrue (below_context x y) → IsBelow x y
below_is x y h =
    let same : Bool = x.function.0 == y.function.0 in
    let less : Bool = nat_lt (label_number x.receiver) (label_number y.receiver) in
    elim (or_cases (nat_lt x.function.0 y.function.0) (same && less) h) [
      | inl first ↦ inl (ltb-true x.function.0 y.function.0 first)
      | inr second ↦
          let (a, b) = and_parts same less second in
          inr (
            eqb-true x.function.0 y.function.0 a,
            ltb-true (label_number x.receiver) (label_number y.receiver) b,
          )
    ]

-- ---- their numbers

abbrev width : Program → ℕ
width p = 2 * length p.sites

abbrev pub rank : Program → Context → ℕ
rank p x = x.function.0 * width p + label_number x.receiver

abbrev pub ranks : Program → ℕ
ranks p = width p * length p.functions

narrow : (s n : ℕ) (b : Bool) → s < n → 2 * s + (if b then 1 else 0) < 2 * n
narrow s n true h = omega arith
narrow s n false h = omega arith

label_within : (p : Program) (x : Context) → IsContext p x → label_number x.receiver < width p
label_within p x of =
    narrow x.receiver.site.0 (length p.sites) x.receiver.old
    (ltb-true x.receiver.site.0 (length p.sites) of.receiver)

pub rank_within : (p : Program) (x : Context) → IsContext p x → rank p x < ranks p
rank_within p x of =
    mul-add-lt x.function.0 (width p) (label_number x.receiver) (length p.functions) of.function
    (label_within p x of)

rank_by : (p : Program) (x y : Context) → IsContext p x → IsBelow x y → rank p x < rank p y
rank_by p x y of (inl h) =
    let less = mul-add-lt x.function.0 (width p) (label_number x.receiver) y.function.0 h
    (label_within p x of) in
    omega (arith, less)
rank_by p x y of (inr h) =
    let same : x.function.0 * width p ≡ y.function.0 * width p = ap (λ n. n * width p) h.0 in
    let less = h.1 in
    omega (arith, same, less)

pub rank_rises : (p : Program) (x y : Context) → IsContext p x → IsTrue (below_context x y)
    → rank p x < rank p y
rank_rises p x y of h = rank_by p x y of (below_is x y h)

-- ---- places in a list

pub all_taken : {X : Type 0} (P : X → Type 0) (n : ℕ) (xs : List X)
    → AllByRecursion P (take n xs) → (k : ℕ) (x : X) → k < n → slice_get xs k ≡ Some x → P x
all_taken P zero xs all k x h is = absurd (omega arith)
all_taken P (suc n) [] all k x h is = absurd (none_not_some is)
all_taken P (suc n) (y ∷ ys) all zero x h is = subst P (same_Some y x is) all.0
all_taken P (suc n) (y ∷ ys) all (suc k) x h is =
    all_taken P n ys all.1 k x (omega arith) is

pub all_dropped : {X : Type 0} (P : X → Type 0) (n : ℕ) (xs : List X)
    → AllByRecursion P (drop n xs) → (k : ℕ) (x : X) → n ≤ k → slice_get xs k ≡ Some x → P x
all_dropped P n [] all k x h is = absurd (none_not_some is)
all_dropped P zero (y ∷ ys) all zero x h is = subst P (same_Some y x is) all.0
all_dropped P zero (y ∷ ys) all (suc k) x h is =
    all_dropped P zero ys all.1 k x (omega arith) is
all_dropped P (suc n) (y ∷ ys) all zero x h is = absurd (omega arith)
all_dropped P (suc n) (y ∷ ys) all (suc k) x h is =
    all_dropped P n ys all k x (omega arith) is

-- what a test finds has a place
pub record HasPlace {X : Type 0} (test : X → Bool) (xs : List X) : Type 0 where
  pub place : ℕ
  pub element : X
  pub element_is : slice_get xs place ≡ Some element
  pub passes : IsTrue (test element)

pub place_found : {X : Type 0} (test : X → Bool) (xs : List X) → IsTrue (list_any test xs)
    → HasPlace test xs
place_found test [] h = absurd (false≢true h)
place_found test (x ∷ xs) h =
    elim (or_cases (test x) (list_any test xs) h) [
      | inl here ↦ record { place = 0; element = x; element_is = refl; passes = here }
      | inr there ↦
          let rest = place_found test xs there in
          record {
            place = suc rest.place;
            element = rest.element;
            element_is = rest.element_is;
            passes = rest.passes;
          }
    ]
