-- The operation on texts and numbers that has a number gives its row; and lists of one and of two.
use Rattle.std.proofs.Common.{◌≡◌, ◌≤◌, ◌<◌, ℕ, zero, suc, List, [], ◌∷◌, ◌++◌, map, length, take, get_or, Option, Some, None, slice_get, refl, sym, ap, ◌∙◌, arith}
use Rattle.std.specs.Option.{option_map, option_map_or}
use Rattle.std.proofs.lemmas.Option.{none-some}
use Rattle.ja_machine.specs.declared.machine.Heap.{Heap}
use Rattle.ja_machine.specs.declared.machine.TextOperation.{TextOperation}
use Rattle.ja_machine.specs.declared.machine.Value.{Value}
use Rattle.ja_machine.specs.Intrinsics.{Computation, on_primitives, rows}
use Rattle.ja_machine.specs.TextOperations.{row, text_operations}
use Rattle.ja_operations.specs.code.Texts.{text_operation}

-- ---- the operation of a number

abbrev found : Option (Option TextOperation) → Option TextOperation
found o = option_map_or (λ (p : Option TextOperation). p) o None

abbrev computation : TextOperation → Computation
computation o = on_primitives (row o)

at_place : (os : List TextOperation) (which : ℕ) (o : TextOperation)
    → Some o ≡ found (slice_get (map Some os) which)
    → slice_get (map computation os) which ≡ Some (computation o)
at_place [] which o e = absurd (none-some o (sym e))
at_place (x ∷ os) zero o e = ap (option_map computation) (sym e)
at_place (x ∷ os) (suc k) o e = at_place os k o e

behind_others : (others : List Computation) (os : List TextOperation) (which : ℕ)
    (o : TextOperation)
    → Some o ≡ found (slice_get (map (λ (c : Computation). None) others ++ map Some os) which)
    → slice_get (others ++ map computation os) which ≡ Some (computation o)
behind_others [] os which o e = at_place os which o e
behind_others (c ∷ others) os zero o e = absurd (none-some o (sym e))
behind_others (c ∷ others) os (suc k) o e = behind_others others os k o e

pub gives_row : (which : ℕ) (o : TextOperation) → Some o ≡ text_operation which
    → (vs : List Value) (h : Heap)
    → option_map (λ (c : Computation). c vs h) (slice_get rows which)
    ≡ Some (on_primitives (row o) vs h)
gives_row which o e vs h =
    ap (option_map (λ (c : Computation). c vs h))
    (behind_others (take 7 rows) text_operations which o e)

-- ---- short lists

pub one_listed : {A : Type 0} (xs : List A) (x : A) → 1 ≤ length xs → length xs < 2
    → x ≡ get_or xs 0 x → x ∷ [] ≡ xs
one_listed [] x some few is = absurd (omega (arith, some))
one_listed (y ∷ []) x some few is = ap (λ z. z ∷ []) is
one_listed (y ∷ z ∷ xs) x some few is = absurd (omega (arith, few))

pub two_listed : {A : Type 0} (xs : List A) (x y : A) → 2 ≤ length xs → length xs < 3
    → x ≡ get_or xs 0 x → y ≡ get_or xs 1 y → x ∷ y ∷ [] ≡ xs
two_listed [] x y some few first second = absurd (omega (arith, some))
two_listed (v ∷ []) x y some few first second = absurd (omega (arith, some))
two_listed (v ∷ w ∷ []) x y some few first second =
    ap (λ z. z ∷ y ∷ []) first ∙ ap (λ z. v ∷ z ∷ []) second
two_listed (v ∷ w ∷ z ∷ xs) x y some few first second = absurd (omega (arith, few))
