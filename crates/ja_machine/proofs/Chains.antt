-- Chains of prototypes and of scopes: each object that is met is one of the heap, none is met
-- twice, and the chain ends.
use Rattle.std.proofs.Common.{◌≡◌, ℕ, zero, suc, ◌<◌, ◌≤◌, ◌∷◌, Some, None, Option, refl, ap, subst, arith}
use Rattle.std.specs.Prelude.{slice_get}
use Rattle.std.specs.Option.{is_some, option_and_then}
use Rattle.std.proofs.lemmas.Bool.{false≢true}
use Rattle.std.proofs.lemmas.Option.{same_Some, option_and_then_some}
use Rattle.ja_graph.specs.declared.program.Program.{Program}
use Rattle.ja_machine.specs.declared.machine.Addr.{Addr}
use Rattle.ja_machine.specs.declared.machine.Object.{Object}
use Rattle.ja_machine.specs.declared.machine.Heap.{Heap}
use Rattle.ja_machine.specs.Heap.{size, object_at, chain, prototype_of, outer_of}
use Rattle.ja_machine.specs.Runs.{AreDistinct, IsChained}
use Rattle.ja_machine.specs.State.{IsObjectOf, IsHeap}

module _ (p : Program) (h : Heap) (good : IsHeap p h) (link : Object → Option Addr)
    (before : (a b : Addr) → option_and_then link (object_at h a) ≡ Some b
    → IsObjectOf h b × (good.rank b < good.rank a)) where
  none_met : (n i : ℕ) (b : Addr) → slice_get (chain link h n None) i ≡ Some b → ⊥
  none_met zero i b at = false≢true (ap is_some at)
  none_met (suc n) i b at = false≢true (ap is_some at)

  -- what is met from an address on is an object, and none was made after that of the address
  abbrev Meets : ℕ → Type 0
  Meets n =
      (i : ℕ) (a b : Addr) → IsObjectOf h a → slice_get (chain link h n (Some a)) i ≡ Some b
      → IsObjectOf h b × (good.rank b ≤ good.rank a)

  -- .. behind it each was made before
  met_behind : (n : ℕ) → Meets n → (i : ℕ) (a b : Addr) (r : Option Addr)
      → option_and_then link (object_at h a) ≡ r → slice_get (chain link h n r) i ≡ Some b
      → IsObjectOf h b × (good.rank b < good.rank a)
  met_behind n further i a b None e at = absurd (none_met n i b at)
  met_behind n further i a b (Some d) e at =
      let (there, lower) = before a d e in
      let (object, least) = further i d b there at in
      (object, omega arith)

  met : (n : ℕ) → Meets n
  met zero i a b there at = absurd (false≢true (ap is_some at))
  met (suc n) zero a b there at =
      subst (λ d. IsObjectOf h d × (good.rank d ≤ good.rank a)) (same_Some a b at)
      (there, omega arith)
  met (suc n) (suc i) a b there at =
      let (object, lower) = met_behind n (met n) i a b (option_and_then link (object_at h a)) refl
      at in
      (object, omega arith)

  -- an object is not met again behind itself
  not_behind : (n i : ℕ) (a b : Addr) → a ≡ b
      → slice_get (chain link h n (option_and_then link (object_at h a))) i ≡ Some b → ⊥
  not_behind n i a b e at =
      let (object, lower) = met_behind n (met n) i a b (option_and_then link (object_at h a)) refl
      at in
      let same : good.rank a ≡ good.rank b = ap good.rank e in
      omega arith

  abbrev Once : ℕ → Type 0
  Once n = (a : Addr) → IsObjectOf h a → AreDistinct (chain link h n (Some a))

  once_behind : (n : ℕ) → Once n → (a : Addr) (r : Option Addr)
      → option_and_then link (object_at h a) ≡ r → AreDistinct (chain link h n r)
  once_behind n further a None e i j b at_i at_j = absurd (none_met n i b at_i)
  once_behind n further a (Some d) e i j b at_i at_j = further d (before a d e).0 i j b at_i at_j

  once : (n : ℕ) → Once n
  once zero a there i j b at_i at_j = absurd (false≢true (ap is_some at_i))
  once (suc n) a there zero zero b at_i at_j = refl
  once (suc n) a there zero (suc j) b at_i at_j =
      absurd (not_behind n j a b (same_Some a b at_i) at_j)
  once (suc n) a there (suc i) zero b at_i at_j =
      absurd (not_behind n i a b (same_Some a b at_j) at_i)
  once (suc n) a there (suc i) (suc j) b at_i at_j =
      ap suc (once_behind n (once n) a (option_and_then link (object_at h a)) refl i j b at_i at_j)

  -- from an object of low rank a chain is as long as it gets
  abbrev Ends : ℕ → Type 0
  Ends n =
      (m : ℕ) (a : Addr) → good.rank a < n → good.rank a < m
      → chain link h n (Some a) ≡ chain link h m (Some a)

  ends_behind : (n : ℕ) → Ends n → (m : ℕ) (a : Addr) (r : Option Addr) → good.rank a < suc n
      → good.rank a < suc m → option_and_then link (object_at h a) ≡ r
      → chain link h n r ≡ chain link h m r
  ends_behind zero further zero a None low_n low_m e = refl
  ends_behind zero further (suc m) a None low_n low_m e = refl
  ends_behind (suc n) further zero a None low_n low_m e = refl
  ends_behind (suc n) further (suc m) a None low_n low_m e = refl
  ends_behind n further m a (Some d) low_n low_m e =
      let (there, lower) = before a d e in
      further m d (omega arith) (omega arith)

  ends : (n : ℕ) → Ends n
  ends zero m a low_n low_m = absurd (omega arith)
  ends (suc n) zero a low_n low_m = absurd (omega arith)
  ends (suc n) (suc m) a low_n low_m =
      ap (λ xs. a ∷ xs) (ends_behind n (ends n) m a (option_and_then link (object_at h a)) low_n
      low_m refl)

  chained : IsChained h link
  chained = record {
    objects = λ n i a b there at. (met n i a b there at).0;
    distinct = once;
    ends = λ n a there large. let low : good.rank a < size h = good.ranked a there in
        ends n (size h) a (omega arith) low;
  }

-- chains of prototypes in a heap that is as it should be
pub prototypes_chained : (p : Program) (h : Heap) → IsHeap p h → IsChained h prototype_of
prototypes_chained p h good =
    chained p h good prototype_of (λ a b e.
    option_and_then_some prototype_of (object_at h a) b e
    (λ o is link. good.prototype_before a b o is link))

-- .. and chains of scopes
pub scopes_chained : (p : Program) (h : Heap) → IsHeap p h → IsChained h outer_of
scopes_chained p h good =
    chained p h good outer_of (λ a b e. option_and_then_some outer_of (object_at h a) b e
    (λ o is link. good.outer_before a b o is link))
