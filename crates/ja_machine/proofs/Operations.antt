-- The operations of the built-in functions take as many values as they say.
use Rattle.std.proofs.Common.{◌≡◌, ◌⊎◌, ℕ, suc, List, [], ◌∷◌, length, drop, Option, Some, None, inl, inr, refl, sym, ap, subst, ◌∙◌}
use Rattle.std.specs.Option.{option_map, option_map_or}
use Rattle.ja_prim.specs.declared.primitive.Num.{Num}
use Rattle.ja_prim.specs.declared.primitive.Primitive.{Primitive}
use Rattle.ja_prim.specs.declared.primitive.Primitive.TheVariants as primitive
use Rattle.ja_machine.specs.declared.machine.Value.TheVariants as value
use Rattle.ja_machine.specs.TextOperations.{PrimitiveRow, take_text, take_number, give, digits_row, size_row, unit_row, part_row, character_row, index_of_row, last_index_of_row, lower_row, upper_row, parse_int_row, parse_float_row}
use Rattle.std.specs.List.{AllByRecursion}
use Rattle.ja_machine.specs.declared.machine.Value.{Value}
use Rattle.ja_machine.specs.declared.machine.Heap.{Heap}
use Rattle.ja_machine.specs.Intrinsics.{IntrinsicOutcome, refused, of_one, of_two, primitives_in, on_primitives, TakesItsValues, operations}

one-takes : (f : Heap → Value → IntrinsicOutcome) (vs : List Value) (h : Heap)
    → (length vs ≡ 1) ⊎ (of_one f vs h ≡ refused)
one-takes f [] h = inr refl
one-takes f (v ∷ []) h = inl refl
one-takes f (v ∷ w ∷ vs) h = inr refl

two-takes : (f : Heap → Value → Value → IntrinsicOutcome) (vs : List Value) (h : Heap)
    → (length vs ≡ 2) ⊎ (of_two f vs h ≡ refused)
two-takes f [] h = inr refl
two-takes f (v ∷ []) h = inr refl
two-takes f (v ∷ w ∷ []) h = inl refl
two-takes f (v ∷ w ∷ x ∷ vs) h = inr refl

-- ---- of texts and numbers

abbrev Takes : ℕ → PrimitiveRow → Type 0
Takes n row = (qs : List Primitive) → (length qs ≡ n) ⊎ (row qs ≡ refused)

more : (n : ℕ) (row : PrimitiveRow) (q : Primitive) (qs : List Primitive) (g : IntrinsicOutcome)
    → (length qs ≡ n) ⊎ (g ≡ refused) → (length (q ∷ qs) ≡ suc n) ⊎ (g ≡ refused)
more n row q qs g (inl e) = inl (ap suc e)
more n row q qs g (inr e) = inr e

text-taken : (n : ℕ) (f : List ℕ → PrimitiveRow) → ((t : List ℕ) → Takes n (f t))
    → Takes (suc n) (take_text f)
text-taken n f each [] = inr refl
text-taken n f each (primitive.Undefined ∷ qs) = inr refl
text-taken n f each (primitive.Null ∷ qs) = inr refl
text-taken n f each (primitive.Bool b ∷ qs) = inr refl
text-taken n f each (primitive.Number m ∷ qs) = inr refl
text-taken n f each (primitive.Text t ∷ qs) =
    more n (f t) (primitive.Text t) qs (f t qs) (each t qs)

number-taken : (n : ℕ) (f : Num → PrimitiveRow) → ((m : Num) → Takes n (f m))
    → Takes (suc n) (take_number f)
number-taken n f each [] = inr refl
number-taken n f each (primitive.Undefined ∷ qs) = inr refl
number-taken n f each (primitive.Null ∷ qs) = inr refl
number-taken n f each (primitive.Bool b ∷ qs) = inr refl
number-taken n f each (primitive.Text t ∷ qs) = inr refl
number-taken n f each (primitive.Number m ∷ qs) =
    more n (f m) (primitive.Number m) qs (f m qs) (each m qs)

none-taken : (g : IntrinsicOutcome) → Takes 0 (give g)
none-taken g [] = inl refl
none-taken g (q ∷ qs) = inr refl

abbrev some_of : List Primitive → Option (List Primitive)
some_of qs = Some qs

same_list : (xs ys : List Primitive) → some_of xs ≡ some_of ys → xs ≡ ys
same_list xs ys e = cc

counted : (p : Primitive) (n : ℕ) (o : Option (List Primitive))
    → ((ps : List Primitive) → o ≡ Some ps → length ps ≡ n) → (qs : List Primitive)
    → option_map (λ ps. p ∷ ps) o ≡ Some qs → length qs ≡ suc n
counted p n None each qs e = absurd (cc)
counted p n (Some ps) each qs e =
    subst (λ rs. length rs ≡ suc n) (same_list (p ∷ ps) qs e) (ap suc (each ps refl))

as-many : (vs : List Value) (qs : List Primitive) → primitives_in vs ≡ Some qs
    → length qs ≡ length vs
as-many [] [] e = refl
as-many [] (q ∷ qs) e = absurd (cc)
as-many (value.Object a ∷ vs) qs e = absurd (cc)
as-many (value.Primitive p ∷ vs) qs e =
    counted p (length vs) (primitives_in vs) (λ ps. as-many vs ps) qs e

primitives-take : (n : ℕ) (row : PrimitiveRow) → Takes n row → (vs : List Value) (h : Heap)
    → (length vs ≡ n) ⊎ (on_primitives row vs h ≡ refused)
primitives-take n row takes vs h = by (primitives_in vs) refl
  where
    by : (o : Option (List Primitive)) → primitives_in vs ≡ o
        → (length vs ≡ n) ⊎ (option_map_or row o refused ≡ refused)
    by None is = inr refl
    by (Some qs) is =
        elim (takes qs) [
          | inl e ↦ inl (sym (as-many vs qs is) ∙ e)
          | inr e ↦ inr e
        ]

t-taken : (f : List ℕ → IntrinsicOutcome) → Takes 1 (take_text (λ t. give (f t)))
t-taken f = text-taken 0 _ (λ t. none-taken (f t))

n-taken : (f : Num → IntrinsicOutcome) → Takes 1 (take_number (λ n. give (f n)))
n-taken f = number-taken 0 _ (λ n. none-taken (f n))

tn-taken : (f : List ℕ → Num → IntrinsicOutcome)
    → Takes 2 (take_text (λ t. take_number (λ n. give (f t n))))
tn-taken f = text-taken 1 _ (λ t. n-taken (f t))

nn-taken : (f : Num → Num → IntrinsicOutcome)
    → Takes 2 (take_number (λ m. take_number (λ n. give (f m n))))
nn-taken f = number-taken 1 _ (λ m. n-taken (f m))

tnn-taken : (f : List ℕ → Num → Num → IntrinsicOutcome)
    → Takes 3 (take_text (λ t. take_number (λ m. take_number (λ n. give (f t m n)))))
tnn-taken f = text-taken 2 _ (λ t. number-taken 1 _ (λ m. n-taken (f t m)))

ttn-taken : (f : List ℕ → List ℕ → Num → IntrinsicOutcome)
    → Takes 3 (take_text (λ t. take_text (λ u. take_number (λ n. give (f t u n)))))
ttn-taken f = text-taken 2 _ (λ t. tn-taken (f t))

of_texts : AllByRecursion TakesItsValues (drop 8 operations)
of_texts = (
  primitives-take 1 size_row (t-taken _),
  (
    primitives-take 2 unit_row (tn-taken _),
    (
      primitives-take 3 part_row (tnn-taken _),
      (
        primitives-take 1 character_row (n-taken _),
        (
          primitives-take 3 index_of_row (ttn-taken _),
          (
            primitives-take 3 last_index_of_row (ttn-taken _),
            (
              primitives-take 1 lower_row (t-taken _),
              (
                primitives-take 1 upper_row (t-taken _),
                (
                  primitives-take 2 parse_int_row (tn-taken _),
                  (primitives-take 1 parse_float_row (t-taken _), tt),
                ),
              ),
            ),
          ),
        ),
      ),
    ),
  ),
)

pub operations_take : AllByRecursion TakesItsValues operations
operations_take = (
  one-takes _,
  (
    one-takes _,
    (
      one-takes _,
      (
        two-takes _,
        (
          two-takes _,
          (
            two-takes _,
            (one-takes _, (primitives-take 2 digits_row (nn-taken _), of_texts)),
          ),
        ),
      ),
    ),
  ),
)
