-- The operations of the built-in functions by their numbers.
use Rattle.std.proofs.Common.{◌≡◌, ◌≢◌, ℕ, zero, suc, List, [], ◌∷◌, map, length, Option, Some, None, refl, ap}
use Rattle.std.specs.Prelude.{slice_get}
use Rattle.std.specs.Option.{option_map_or}
use Rattle.std.proofs.lemmas.Option.{same_Some}
use Rattle.ja_machine.specs.declared.machine.TextOperation.{TextOperation}
use Rattle.ja_machine.specs.TextOperations.{text_operations}
use Rattle.ja_operations.specs.code.Texts.{text_operation}
use Rattle.ja_abstract.specs.AbstractValue.{AbstractValue, no_value}
use Rattle.ja_abstract.specs.PrimitiveOperations as spec
use Rattle.ja_abstract.specs.Reading.{View}
use Rattle.ja_abstract.specs.Operations.{Looked, AbstractOperation, of_one, of_two, of_values, operation, looked, is_object, class_of, value_of, has_own, is_enumerable, inherits, has_elements}

-- ---- those on texts and numbers

module _ (w : View) (vs : List AbstractValue) where
  none_listed : (ops : List TextOperation) (n : ℕ)
      → option_map_or (λ (o : Option TextOperation). o) (slice_get (map Some ops) n) None ≡ None
      → option_map_or (λ (r : AbstractOperation). r)
      (slice_get (map (λ op. of_values (spec.text_operation op)) ops) n)
      (λ w vs. looked no_value) w vs ≡ looked no_value
  none_listed [] n unlisted = refl
  none_listed (op ∷ ops) zero unlisted = absurd (cc)
  none_listed (op ∷ ops) (suc n) unlisted = none_listed ops n unlisted

  some_listed : (ops : List TextOperation) (n : ℕ) (op : TextOperation)
      → option_map_or (λ (o : Option TextOperation). o) (slice_get (map Some ops) n) None ≡ Some op
      → option_map_or (λ (r : AbstractOperation). r)
      (slice_get (map (λ op. of_values (spec.text_operation op)) ops) n)
      (λ w vs. looked no_value) w vs ≡ looked (spec.text_operation op vs)
  some_listed [] n op is = absurd (cc)
  some_listed (o ∷ ops) zero op is =
      ap (λ (k : TextOperation). looked (spec.text_operation k vs)) (same_Some o op is)
  some_listed (o ∷ ops) (suc n) op is = some_listed ops n op is

  -- the operation of such a number is that on texts and numbers
  pub text_operation_is : (n : ℕ) (op : TextOperation) → text_operation n ≡ Some op
      → operation n w vs ≡ looked (spec.text_operation op vs)
  text_operation_is zero op is = absurd (cc)
  text_operation_is (suc zero) op is = absurd (cc)
  text_operation_is (suc (suc zero)) op is = absurd (cc)
  text_operation_is (suc (suc (suc zero))) op is = absurd (cc)
  text_operation_is (suc (suc (suc (suc zero)))) op is = absurd (cc)
  text_operation_is (suc (suc (suc (suc (suc zero))))) op is = absurd (cc)
  text_operation_is (suc (suc (suc (suc (suc (suc zero)))))) op is = absurd (cc)
  text_operation_is (suc (suc (suc (suc (suc (suc (suc n))))))) op is =
      some_listed text_operations n op is

-- ---- none of another number

-- none of one value alone, and none of two
pub none_of_one : (n : ℕ) (w : View) (v : AbstractValue) → text_operation n ≡ None → n ≢ 0 → n ≢ 1
    → n ≢ 2 → n ≢ 6 → operation n w (v ∷ []) ≡ looked no_value
none_of_one zero w v unlisted a b c d = absurd (a refl)
none_of_one (suc zero) w v unlisted a b c d = absurd (b refl)
none_of_one (suc (suc zero)) w v unlisted a b c d = absurd (c refl)
none_of_one (suc (suc (suc zero))) w v unlisted a b c d = refl
none_of_one (suc (suc (suc (suc zero)))) w v unlisted a b c d = refl
none_of_one (suc (suc (suc (suc (suc zero))))) w v unlisted a b c d = refl
none_of_one (suc (suc (suc (suc (suc (suc zero)))))) w v unlisted a b c d = absurd (d refl)
none_of_one (suc (suc (suc (suc (suc (suc (suc n))))))) w v unlisted a b c d =
    none_listed w (v ∷ []) text_operations n unlisted

pub none_of_two : (n : ℕ) (w : View) (u v : AbstractValue) → text_operation n ≡ None → n ≢ 3 → n ≢ 4
    → n ≢ 5 → operation n w (u ∷ v ∷ []) ≡ looked no_value
none_of_two zero w u v unlisted a b c = refl
none_of_two (suc zero) w u v unlisted a b c = refl
none_of_two (suc (suc zero)) w u v unlisted a b c = refl
none_of_two (suc (suc (suc zero))) w u v unlisted a b c = absurd (a refl)
none_of_two (suc (suc (suc (suc zero)))) w u v unlisted a b c = absurd (b refl)
none_of_two (suc (suc (suc (suc (suc zero))))) w u v unlisted a b c = absurd (c refl)
none_of_two (suc (suc (suc (suc (suc (suc zero)))))) w u v unlisted a b c = refl
none_of_two (suc (suc (suc (suc (suc (suc (suc n))))))) w u v unlisted a b c =
    none_listed w (u ∷ v ∷ []) text_operations n unlisted

-- ---- none of another number of values

abbrev IsNoneOf : View → List AbstractValue → AbstractOperation → Type 0
IsNoneOf w vs o = o w vs ≡ looked no_value

one_of : (f : View → AbstractValue → Looked) (w : View) (vs : List AbstractValue)
    → length vs ≢ 1 → IsNoneOf w vs (of_one f)
one_of f w [] other = refl
one_of f w (v ∷ []) other = absurd (other refl)
one_of f w (u ∷ v ∷ vs) other = refl

two_of : (f : View → AbstractValue → AbstractValue → Looked) (w : View) (vs : List AbstractValue)
    → length vs ≢ 2 → IsNoneOf w vs (of_two f)
two_of f w [] other = refl
two_of f w (v ∷ []) other = refl
two_of f w (u ∷ v ∷ []) other = absurd (other refl)
two_of f w (t ∷ u ∷ v ∷ vs) other = refl

pub none_of_many : (n : ℕ) (w : View) (vs : List AbstractValue) → text_operation n ≡ None
    → length vs ≢ 1 → length vs ≢ 2 → operation n w vs ≡ looked no_value
none_of_many zero w vs unlisted not_one not_two = one_of is_object w vs not_one
none_of_many (suc zero) w vs unlisted not_one not_two = one_of class_of w vs not_one
none_of_many (suc (suc zero)) w vs unlisted not_one not_two = one_of value_of w vs not_one
none_of_many (suc (suc (suc zero))) w vs unlisted not_one not_two = two_of has_own w vs not_two
none_of_many (suc (suc (suc (suc zero)))) w vs unlisted not_one not_two =
    two_of is_enumerable w vs not_two
none_of_many (suc (suc (suc (suc (suc zero))))) w vs unlisted not_one not_two =
    two_of inherits w vs not_two
none_of_many (suc (suc (suc (suc (suc (suc zero)))))) w vs unlisted not_one not_two =
    one_of has_elements w vs not_one
none_of_many (suc (suc (suc (suc (suc (suc (suc n))))))) w vs unlisted not_one not_two =
    none_listed w vs text_operations n unlisted
