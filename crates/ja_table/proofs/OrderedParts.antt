-- Lists in order, tested by each element and the next, and what a table is made of.
use Rattle.std.specs.Prelude.{◌≡◌, ◌<◌, ◌≤◌, ◌+◌, ◌-◌, ◌↔◌, ◌&&◌, ℕ, suc, Bool, true, IsTrue, List, [], ◌∷◌, length, Option, Some, IfSome, is_some, slice_get, vec_len}
use Rattle.std.specs.List.{list_any, AllByRecursion}
use Rattle.std.specs.Option.{option_and_then}
use Rattle.std.proofs.Common.{refl, sym, ap, ◌∙◌, inl, inr, arith}
use Rattle.std.proofs.lemmas.Bool.{and_from, and_parts, cases_lt}
use Rattle.std.proofs.lemmas.Option.{same_Some}
use Rattle.ja_base.proofs.Lists.{within_from_some}
use Rattle.ja_base.specs.declared.ids.Context.{Context}
use Rattle.ja_table.specs.declared.table.ATable.{ATable}
use Rattle.ja_table.specs.declared.table.CallEdge.{CallEdge}
use Rattle.ja_table.specs.declared.table.ContextTable.{ContextTable}
use Rattle.ja_table.specs.Order.{context_of, AreContextsOrdered, AreOrdered}
use Rattle.ja_table.specs.Parts.{HasEnds}
use Rattle.ja_table.specs.Tables.{find_context, is_of}
use Rattle.ja_table.proofs.KeyOrders.{IsKeyOrder}
use Rattle.ja_table.proofs.Ordered.{ordered_at, told_by}
use Rattle.ja_table.proofs.Places.{contexts_order}

-- ---- each element and the next

module _ {X K : Type 0} (key : X → K) {below same : K → K → Bool} (o : IsKeyOrder below same) where
  -- each of the first elements comes before the next
  abbrev pub AreAdjacent : List X → ℕ → Type 0
  AreAdjacent xs n =
      (i : ℕ) (c d : X) → i + 1 < n → slice_get xs i ≡ Some c → slice_get xs (i + 1) ≡ Some d
      → below (key c) (key d) ≡ true

  pub none_adjacent : (xs : List X) → AreAdjacent xs 1
  none_adjacent xs i c d less c_is d_is = absurd (omega (arith, less))

  pub adjacent_next : (xs : List X) (n : ℕ) (a b : X) → 0 < n → AreAdjacent xs n
      → slice_get xs (n - 1) ≡ Some a → slice_get xs n ≡ Some b → below (key a) (key b) ≡ true
      → AreAdjacent xs (n + 1)
  adjacent_next xs n a b some before a_is b_is here i c d less c_is d_is =
      elim (cases_lt (i + 1) n) [
        | inl earlier ↦ before i c d earlier c_is d_is
        | inr last ↦
            let at : n ≡ i + 1 = omega (arith, last, less) in
            let before_at : n - 1 ≡ i = omega (arith, at) in
            let first : a ≡ c = same_Some a c
            (sym a_is ∙ ap (slice_get xs) before_at ∙ c_is) in
            let second : b ≡ d = same_Some b d (sym b_is ∙ ap (slice_get xs) at ∙ d_is) in
            (λ j. below (key (sym first j)) (key (sym second j))) ∙ here
      ]

  -- an element before the first of others in order comes before all of them
  in_front : (c : X) (ds : List X)
      → ((d : X) → slice_get ds 0 ≡ Some d → below (key c) (key d) ≡ true)
      → AreOrdered key below ds → AllByRecursion (λ (d : X). IsTrue (below (key c) (key d))) ds
  in_front c [] first ordered = tt
  in_front c (d ∷ ds) first ordered = (first d refl, behind ds ordered.0)
    where
      behind : (es : List X) → AllByRecursion (λ (e : X). IsTrue (below (key d) (key e))) es
          → AllByRecursion (λ (e : X). IsTrue (below (key c) (key e))) es
      behind [] all = tt
      behind (e ∷ es) all =
          (o.behind (key c) (key d) (key e) (first d refl) all.0, behind es all.1)

  ordered_by : (xs : List X) → ((i : ℕ) (c d : X) → slice_get xs i ≡ Some c
      → slice_get xs (i + 1) ≡ Some d → below (key c) (key d) ≡ true) → AreOrdered key below xs
  ordered_by [] each = tt
  ordered_by (c ∷ cs) each =
      let rest = ordered_by cs (λ i a b a_is b_is.
      let behind : suc i + 1 ≡ suc (i + 1) = omega arith in
      each (suc i) a b a_is (ap (slice_get (c ∷ cs)) behind ∙ b_is)) in
      (in_front c cs (λ d d_is. each 0 c d refl d_is) rest, rest)

  pub ordered_all : (xs : List X) (n : ℕ) → AreAdjacent xs n → length xs ≤ n
      → AreOrdered key below xs
  ordered_all xs n before all =
      ordered_by xs (λ i c d c_is d_is. before i c d
      (let within = within_from_some xs (i + 1) (ap is_some d_is) in omega (arith, within, all))
      c_is d_is)

  pub adjacent_at : (xs : List X) (n : ℕ) (a b : X) → 0 < n → AreOrdered key below xs
      → slice_get xs (n - 1) ≡ Some a → slice_get xs n ≡ Some b → below (key a) (key b) ≡ true
  adjacent_at xs n a b some ordered a_is b_is =
      ordered_at key o xs ordered (n - 1) n a b (omega (arith, some)) a_is b_is

-- ---- both ends of an edge

-- a context that was looked for
pub reached_told : (t : ATable) (x : Context) (o : Option ℕ) → AreContextsOrdered t.contexts.items
    → (AreContextsOrdered t.contexts.items
    → option_and_then (λ (n : ℕ). slice_get t.contexts.items n) o
    ≡ find_context x t.contexts.items) → IfSome o (λ n. n < vec_len t.contexts)
    → list_any (is_of x) t.contexts.items ≡ is_some o
reached_told t x o ordered found within =
    told_by context_of contexts_order x t.contexts.items o (vec_len t.contexts)
    t.contexts.ok.0 (found ordered) within

pub ends_told : (cs : List ContextTable) (d : CallEdge) (b c : Bool)
    → list_any (is_of d.edge.caller) cs ≡ b → list_any (is_of d.edge.callee) cs ≡ c
    → IsTrue (b && c) ↔ HasEnds cs d
ends_told cs d b c caller callee = (
  (λ h. let parts = and_parts b c h in
      record { caller = caller ∙ parts.0; callee = callee ∙ parts.1 }),
  (λ h. and_from b c (sym caller ∙ h.caller) (sym callee ∙ h.callee)),
)
