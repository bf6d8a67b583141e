-- The operations on texts and numbers: of what abstract values each gives, what the machine's row
-- gives of primitives that they have.
use Rattle.std.specs.Prelude.{◌≡◌, ◌&&◌, nat_le, ◌≤◌, ◌%◌, ℕ, zero, suc, pos, negsuc, map, Bool, true, false, if◌then◌else◌, IsTrue, List, [], ◌∷◌, length, Option, Some, None, Result, Ok, Err, slice_get}
use Rattle.std.proofs.Common.{refl, sym, subst, ◌∙◌, inl, inr, arith}
use Rattle.std.proofs.lemmas.Bool.{cases_Bool, cond-true, cond-false, leb-true, lt-ltb}
use Rattle.std.proofs.lemmas.Option.{none-some, same_Some}
use Rattle.std.specs.List.{AllByRecursion, list_all}
use Rattle.std.specs.Option.{option_and_then, option_map_or}
use Rattle.ja_base.specs.declared.ids.ScopeKind.TheVariants as scope
use Rattle.ja_prim.specs.declared.primitive.Num.{Num}
use Rattle.ja_prim.specs.declared.primitive.Num.TheVariants.{NaN, Whole}
use Rattle.ja_prim.specs.declared.primitive.Primitive.{Primitive}
use Rattle.ja_prim.specs.declared.primitive.Primitive.TheVariants as primitive
use Rattle.ja_prim.specs.declared.stop.Stop.{Stop}
use Rattle.ja_prim.specs.Characters.{is_ascii}
use Rattle.ja_prim.specs.Fronts.{front_integer}
use Rattle.ja_prim.specs.Texts.{is_short, max_units}
use Rattle.ja_machine.specs.declared.machine.TextOperation.{TextOperation}
use Rattle.ja_machine.specs.declared.machine.TextOperation.TheVariants as operation
use Rattle.ja_machine.specs.Intrinsics.{Computation, on_primitives}
use Rattle.ja_machine.proofs.Lists.{all_map, all_of}
use Rattle.ja_machine.specs.TextOperations as machine
use Rattle.ja_machine.specs.TextOperations.{Given, PrimitiveRow, take_text, take_number, give}
use Rattle.ja_abstract.specs.declared.abstraction.Sort.{Sort}
use Rattle.ja_abstract.specs.declared.abstraction.Sort.TheVariants as sort
use Rattle.ja_abstract.specs.AbstractValue.{AbstractValue, no_value}
use Rattle.ja_abstract.specs.Operations.{AbstractOperation, looked, of_values}
use Rattle.ja_abstract.specs.Parts.{has_primitive}
use Rattle.ja_abstract.specs.PrimitiveOperations.{class, index_value, nan_or_index, nan_or_whole, primitive_operation, sorts, text_operation, text_value}
use Rattle.ja_abstract.specs.Primitives.{whole_value}
use Rattle.ja_abstract.proofs.PrimitiveOperations.{AreOf, AllHave, primitive_operation_covers}

-- what a row gives is in a class, and what it takes is of these sorts
pub record IsRow (ss : List Sort) (all : AbstractValue) (row : PrimitiveRow) : Type 0 where
  pub holds : (qs : List Primitive) (q : Primitive) → row qs ≡ Ok q
      → AreOf ss qs × IsTrue (has_primitive all q)

takes_text : (ss : List Sort) (all : AbstractValue) (f : List ℕ → PrimitiveRow)
    → ((t : List ℕ) → IsRow ss all (f t)) → IsRow (sort.Text ∷ ss) all (take_text f)
takes_text ss all f each = record { holds = by }
  where
    by : (qs : List Primitive) (q : Primitive) → take_text f qs ≡ Ok q
        → AreOf (sort.Text ∷ ss) qs × IsTrue (has_primitive all q)
    by [] q is = cc
    by (primitive.Undefined ∷ qs) q is = cc
    by (primitive.Null ∷ qs) q is = cc
    by (primitive.Bool b ∷ qs) q is = cc
    by (primitive.Number n ∷ qs) q is = cc
    by (primitive.Text t ∷ qs) q is =
        let r = (each t).holds qs q is in ((tt, r.0), r.1)

takes_number : (ss : List Sort) (all : AbstractValue) (f : Num → PrimitiveRow)
    → ((n : Num) → IsRow ss all (f n)) → IsRow (sort.Number ∷ ss) all (take_number f)
takes_number ss all f each = record { holds = by }
  where
    by : (qs : List Primitive) (q : Primitive) → take_number f qs ≡ Ok q
        → AreOf (sort.Number ∷ ss) qs × IsTrue (has_primitive all q)
    by [] q is = cc
    by (primitive.Undefined ∷ qs) q is = cc
    by (primitive.Null ∷ qs) q is = cc
    by (primitive.Bool b ∷ qs) q is = cc
    by (primitive.Text t ∷ qs) q is = cc
    by (primitive.Number n ∷ qs) q is =
        let r = (each n).holds qs q is in ((tt, r.0), r.1)

-- what is given is in a class
abbrev IsIn : AbstractValue → Given → Type 0
IsIn all g = (q : Primitive) → g ≡ Ok q → IsTrue (has_primitive all q)

given : (all : AbstractValue) (g : Given) → IsIn all g → IsRow [] all (give g)
given all g each = record { holds = by }
  where
    by : (qs : List Primitive) (q : Primitive) → give g qs ≡ Ok q
        → AreOf [] qs × IsTrue (has_primitive all q)
    by [] q is = (tt, each q is)
    by (p ∷ qs) q is = cc

-- ---- results

-- one primitive
abbrev the_given : Primitive → Given
the_given p = Ok p

one : (all : AbstractValue) (p : Primitive) → IsTrue (has_primitive all p) → IsIn all (Ok p)
one all p h q is = subst (λ z. IsTrue (has_primitive all z)) (same p q is) h
  where
    same : (p q : Primitive) → the_given p ≡ the_given q → p ≡ q
    same p q e = cc

-- one or the other, by a test
by_test : (all : AbstractValue) (b : Bool) (g h : Given) → (b ≡ true → IsIn all g)
    → (b ≡ false → IsIn all h) → IsIn all (if b then g else h)
by_test all b g h on_true on_false q is =
    elim (cases_Bool b) [
      | inl e ↦ on_true e q (sym (cond-true b g h e) ∙ is)
      | inr e ↦ on_false e q (sym (cond-false b g h e) ∙ is)
    ]

digits_in : (n r : Num) → IsIn text_value (machine.digits_of n r)
digits_in n NaN = λ q is. cc
digits_in n (Whole (negsuc k)) = λ q is. cc
digits_in n (Whole (pos radix)) =
    by_test text_value (nat_le machine.min_radix radix && nat_le radix machine.max_radix)
    (Ok (primitive.Text (machine.radix_text radix n))) machine.refused
    (λ may. one text_value (primitive.Text (machine.radix_text radix n)) refl) (λ never q is. cc)

size_in : (t : List ℕ) → IsIn index_value (machine.size t)
size_in t =
    by_test index_value (is_short t) (Ok (machine.whole (length t)))
    (Err scope.TextLength)
    (λ short. one index_value (machine.whole (length t)) (few short)) (λ long q is. cc)
  where
    few : is_short t ≡ true → IsTrue (has_primitive index_value (machine.whole (length t)))
    few short =
        let le : length t ≤ max_units = leb-true (length t) max_units short in
        lt-ltb (length t) 4294967295 (omega arith)

unit_in : (t : List ℕ) (i : Num) → IsIn nan_or_index (Ok (machine.unit t i))
unit_in t i =
    one nan_or_index (machine.unit t i)
    (by_found (option_and_then (slice_get t) (machine.place_of i)))
  where
    by_found : (o : Option ℕ) → IsTrue (has_primitive nan_or_index
        (option_map_or machine.unit_number o (primitive.Number NaN)))
    by_found None = refl
    by_found (Some u) = lt-ltb (u % 65536) 4294967295 (omega arith)

text_in : (t : List ℕ) → IsIn text_value (Ok (primitive.Text t))
text_in t = one text_value (primitive.Text t) refl

place_in : (o : Option ℕ) → IsIn whole_value (Ok (machine.place_or_none o))
place_in None = one whole_value (machine.place_or_none None) refl
place_in (Some n) = one whole_value (machine.place_or_none (Some n)) refl

changed_in : (f : ℕ → ℕ) (t : List ℕ) → IsIn text_value (machine.changed f t)
changed_in f t =
    by_test text_value (list_all is_ascii t) (Ok (primitive.Text
    (map f t)))
    (Err scope.CaseChange)
    (λ ascii. text_in (map f t)) (λ past q is. cc)

number_in : (r : Result Num Stop) → IsIn nan_or_whole (machine.of_number r)
number_in (Ok NaN) = one nan_or_whole (primitive.Number NaN) refl
number_in (Ok (Whole z)) = one nan_or_whole (primitive.Number (Whole z)) refl
number_in (Err why) = λ q is. cc

parsed_in : (t : List ℕ) (r : Num) → IsIn nan_or_whole (machine.parse_int t r)
parsed_in t NaN = one nan_or_whole (primitive.Number NaN) refl
parsed_in t (Whole (negsuc n)) = one nan_or_whole (primitive.Number NaN) refl
parsed_in t (Whole (pos radix)) = number_in (front_integer radix t)

-- ---- the rows

-- the abstract operation has each result of the machine's row
abbrev pub IsCovered : List Sort → PrimitiveRow → AbstractValue → Type 0
IsCovered sorts row all =
    (vs : List AbstractValue) (qs : List Primitive) (q : Primitive) → AllHave vs qs → row qs ≡ Ok q
    → IsTrue (has_primitive (primitive_operation sorts row all vs) q)

covered : (sorts : List Sort) (all : AbstractValue) (row : PrimitiveRow) → IsRow sorts all row
    → IsCovered sorts row all
covered sorts all row is_row vs qs q h is =
    primitive_operation_covers sorts row all (λ ps p e. (is_row.holds ps p e).0)
    (λ ps p e. (is_row.holds ps p e).1) vs qs q h is

pub is_row : (op : TextOperation) → IsRow (sorts op) (class op) (machine.row op)
is_row operation.Digits =
    takes_number _ _ _ (λ n. takes_number _ _ _ (λ r. given text_value _ (digits_in n r)))
is_row operation.Size = takes_text _ _ _ (λ t. given index_value _ (size_in t))
is_row operation.Unit =
    takes_text _ _ _ (λ t. takes_number _ _ _ (λ i. given nan_or_index _ (unit_in t i)))
is_row operation.Part =
    takes_text _ _ _ (λ t. takes_number _ _ _ (λ i. takes_number _ _ _
    (λ j. given text_value _ (text_in _))))
is_row operation.Character = takes_number _ _ _ (λ n. given text_value _ (text_in _))
is_row operation.IndexOf =
    takes_text _ _ _ (λ t. takes_text _ _ _ (λ m. takes_number _ _ _
    (λ i. given whole_value _ (place_in _))))
is_row operation.LastIndexOf =
    takes_text _ _ _ (λ t. takes_text _ _ _ (λ m. takes_number _ _ _
    (λ i. given whole_value _ (place_in _))))
is_row operation.Lower = takes_text _ _ _ (λ t. given text_value _ (changed_in machine.small t))
is_row operation.Upper = takes_text _ _ _ (λ t. given text_value _ (changed_in machine.great t))
is_row operation.ParseInt =
    takes_text _ _ _ (λ t. takes_number _ _ _ (λ r. given nan_or_whole _ (parsed_in t r)))
is_row operation.ParseFloat = takes_text _ _ _ (λ t. given nan_or_whole _ (number_in _))

pub text_operation_covers : (op : TextOperation) → IsCovered (sorts op) (machine.row op) (class op)
text_operation_covers op = covered (sorts op) (class op) (machine.row op) (is_row op)

-- ---- all of them

-- what holds of each operation on texts and numbers holds of all
pub all_text_operations : (P : AbstractOperation → Type 0)
    → ((op : TextOperation) → P (of_values (text_operation op)))
    → AllByRecursion P (map (λ op. of_values (text_operation op)) machine.text_operations)
all_text_operations P each =
    all_map (λ op. Unit {0}) P (λ op. of_values (text_operation op)) (λ op u. each op)
    machine.text_operations (all_of (λ op. Unit {0}) (λ op. tt) machine.text_operations)

-- what holds of each abstract one beside the machine's holds of those of a number
module _ (P : AbstractOperation → Computation → Type 0)
    (each : (op : TextOperation) → P (of_values (text_operation op)) (on_primitives (machine.row op)))
  where
    beside_at : (ops : List TextOperation) (n : ℕ) (given : Computation)
        → slice_get (map (λ op. on_primitives (machine.row op)) ops) n ≡ Some given
        → P (option_map_or (λ (r : AbstractOperation). r)
        (slice_get (map (λ op. of_values (text_operation op)) ops) n) (λ w vs. looked no_value)) given
    beside_at [] n given is = absurd (none-some given is)
    beside_at (op ∷ ops) zero given is =
        subst (P (of_values (text_operation op)))
        (same_Some (on_primitives (machine.row op)) given is) (each op)
    beside_at (op ∷ ops) (suc n) given is = beside_at ops n given is

    pub text_operations_beside : (n : ℕ) (given : Computation)
        → slice_get (map (λ op. on_primitives (machine.row op)) machine.text_operations) n
        ≡ Some given
        → P (option_map_or (λ (r : AbstractOperation). r) (slice_get
        (map (λ op. of_values (text_operation op)) machine.text_operations) n)
        (λ w vs. looked no_value)) given
    text_operations_beside n given is = beside_at machine.text_operations n given is
