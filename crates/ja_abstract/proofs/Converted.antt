-- Abstract primitives cover the machine's, continued: conversions, bits, arithmetic with its stops,
-- sums, comparison and loose equality, an atom or two at a time.
use Rattle.std.specs.Prelude.{◌≡◌, ◌≤◌, ◌||◌, not, ℕ, ℤ, pos, negsuc, Bool, true, false, ◌%◌, ◌^◌, ◌==◌, unsigned_abs, IsTrue, List, [], ◌∷◌, length, Some, None, Result, Ok, Err}
use Rattle.std.specs.Int.{is_negative}
use Rattle.std.specs.Ordering.{int_eq}
use Rattle.std.proofs.Common.{refl, sym, subst, ap, inl, inr, arith, lit<, le_trans}
use Rattle.std.proofs.lemmas.Bool.{or_left, or_right, false≢true, cond_both, false_from_ne_true, ne_eqb, ltb-true, lt-ltb}
use Rattle.std.proofs.lemmas.Bool.Decides.{Decides-int_eq}
use Rattle.std.proofs.Math.Nat.{mod-le}
use Rattle.ja_prim.specs.declared.stop.Stop.{Stop}
use Rattle.ja_prim.specs.declared.primitive.Num.{Num}
use Rattle.ja_prim.specs.declared.primitive.Num.TheVariants.{NaN, Whole}
use Rattle.ja_prim.specs.declared.primitive.Primitive.{Primitive}
use Rattle.ja_prim.specs.declared.primitive.Primitive.TheVariants as primitive
use Rattle.ja_prim.specs.Index.{is_index, is_index_text}
use Rattle.ja_prim.specs.Conversions.{to_bool, to_number}
use Rattle.ja_prim.specs.Comparison.{to_primitive, of_both}
use Rattle.ja_prim.specs.Judged.{judged, max_magnitude}
use Rattle.ja_prim.specs.Arithmetic as numbers
use Rattle.ja_prim.specs.Bits as bits
use Rattle.ja_prim.proofs.Exact.{judged_found}
use Rattle.ja_abstract.specs.declared.abstraction.NumberPart.TheVariants as number_part
use Rattle.ja_abstract.specs.declared.abstraction.TextPart.TheVariants as text_part
use Rattle.ja_abstract.specs.AbstractValue.{AbstractValue, join}
use Rattle.ja_abstract.specs.Parts.{has_primitive}
use Rattle.ja_abstract.specs.Primitives.{Atom, exactly, index, other_whole, whole, index_text, other_text, any_text, atoms, Abstracted, gives, gives_or_stops, stops_if, either, over, over_pairs, exact, nan_value, whole_value, of_bools, to_bool_atom, to_num_atom, Operand, operand, operands, combine, arithmetic, combine_bits, bit_op, of_operand, on_operand, index_or_whole, to_num, to_uint32}
use Rattle.ja_abstract.proofs.Parts.{of_primitive_has}
use Rattle.ja_abstract.proofs.Joins.{has_primitive-join_left, has_primitive-join_right}
use Rattle.ja_abstract.proofs.Atoms.{Covers, covers-left, covers-right, covers-exact, Some_, Has, atoms-have, only, to_num-covers, unary-covers, by_whole, by_text, any_number, Takes, operand-takes, some-flat_map, may_stop, judged-covers, nan_right, any_bool}

-- ---- what is covered, with stops and without

-- a way to cover: all of it, or a part
pub record IsCover (C : Abstracted → Result Primitive Stop → Type 0) : Type 0 where
  pub from : (r : Abstracted) (x : Result Primitive Stop) → Covers r x → C r x
  pub left : (r s : Abstracted) (x : Result Primitive Stop) → C r x → C (either r s) x
  pub right : (r s : Abstracted) (x : Result Primitive Stop) → C s x → C (either r s) x

-- the results alone: a stop gives no state
abbrev pub Given : AbstractValue → Result Primitive Stop → Type 0
Given v (Ok q) = IsTrue (has_primitive v q)
Given v (Err stop) = Unit {0}

abbrev pub Gives : Abstracted → Result Primitive Stop → Type 0
Gives r x = Given r.value x

pub covers-is : IsCover Covers
covers-is = record { from = λ r x c. c; left = covers-left; right = covers-right }

pub gives-from : (r : Abstracted) (x : Result Primitive Stop) → Covers r x → Gives r x
gives-from r (Ok q) c = c
gives-from r (Err stop) c = tt

gives-left : (r s : Abstracted) (x : Result Primitive Stop) → Gives r x → Gives (either r s) x
gives-left r s (Ok q) c = has_primitive-join_left r.value s.value q c
gives-left r s (Err stop) c = tt

gives-right : (r s : Abstracted) (x : Result Primitive Stop) → Gives s x → Gives (either r s) x
gives-right r s (Ok q) c = has_primitive-join_right r.value s.value q c
gives-right r s (Err stop) c = tt

pub gives-is : IsCover Gives
gives-is = record { from = gives-from; left = gives-left; right = gives-right }

-- ---- classes

-- ---- numbers of atoms

-- the number of a primitive of an atom is one of the atoms that it is converted to, and of its
-- operands
pub converted-has : (a : Atom) (q : Primitive) (n : Num) → Has q a → to_number q ≡ Ok n
    → Some_ (Has (primitive.Number n)) (atoms (to_num_atom a).value)
converted-has a q n h e =
    atoms-have (to_num_atom a).value (primitive.Number n)
    (subst (λ x. Covers (to_num_atom a) (to_primitive primitive.Number x)) e (to_num-covers a q h))

pub operands-take : (a : Atom) (q : Primitive) (n : Num) → Has q a → to_number q ≡ Ok n
    → Some_ (Takes n) (operands a)
operands-take a q n h e = some-flat_map n (atoms (to_num_atom a).value) (converted-has a q n h e)

-- ---- operations on the numbers of atoms

module _ (C : Abstracted → Result Primitive Stop → Type 0) (is : IsCover C) where
  pub over-covers : {A : Type 0} (f : A → Abstracted) (xs : List A) (P : A → Type 0)
      (x : Result Primitive Stop) → ((a : A) → P a → C (f a) x) → Some_ P xs → C (over f xs) x
  over-covers f [] P x each s = elim s [ ]
  over-covers f (a ∷ as_) P x each (inl h) = is.left (f a) (over f as_) x (each a h)
  over-covers f (a ∷ as_) P x each (inr s) =
      is.right (f a) (over f as_) x (over-covers f as_ P x each s)

  pub pairs-cover : {A : Type 0} (f : A → A → Abstracted) (xs ys : List A) (P Q : A → Type 0)
      (x : Result Primitive Stop) → ((a b : A) → P a → Q b → C (f a b) x) → Some_ P xs → Some_ Q ys
      → C (over_pairs f xs ys) x
  pairs-cover f xs ys P Q x each s t =
      over-covers (λ a. over (f a) ys) xs P x (λ a h. over-covers (f a) ys Q x
      (λ b k. each a b h k) t) s

  -- of two primitives, whose numbers are among what their atoms come to
  module _ {A : Type 0} (P : Num → A → Type 0) (among : Atom → List A)
      (has : (a : Atom) (q : Primitive) (n : Num) → Has q a → to_number q ≡ Ok n
      → Some_ (P n) (among a)) (f : A → A → Abstracted)
      (g : Num → Num → Result Primitive Stop) where
    abbrev stops : Atom → Atom → Abstracted
    stops a b = stops_if ((to_num_atom a).may_stop || (to_num_atom b).may_stop)

    by_numbers : (a b : Atom) (q r : Primitive) → Has q a → Has r b
        → ((m n : Num) (x y : A) → to_number q ≡ Ok m → to_number r ≡ Ok n → P m x → P n y
        → C (f x y) (g m n)) → (x y : Result Num Stop) → to_number q ≡ x → to_number r ≡ y
        → C (either (stops a b) (over_pairs f (among a) (among b))) (of_both g x y)
    by_numbers a b q r h i each (Ok m) (Ok n) d e =
        is.right (stops a b) (over_pairs f (among a) (among b)) (g m n)
        (pairs-cover f (among a) (among b) (P m) (P n) (g m n) (λ x y k l. each m n x y d e k l)
        (has a q m h d) (has b r n i e))
    by_numbers a b q r h i each (Err stop) y d e =
        is.left (stops a b) (over_pairs f (among a) (among b)) (Err stop)
        (is.from (stops a b) (Err stop) (or_left _ _ (may_stop a q stop h d)))
    by_numbers a b q r h i each (Ok m) (Err stop) d e =
        is.left (stops a b) (over_pairs f (among a) (among b)) (Err stop)
        (is.from (stops a b) (Err stop) (or_right (to_num_atom a).may_stop _
        (may_stop b r stop i e)))

    pub numbers-cover : (a b : Atom) (q r : Primitive) → Has q a → Has r b
        → ((m n : Num) (x y : A) → to_number q ≡ Ok m → to_number r ≡ Ok n → P m x → P n y
        → C (f x y) (g m n)) → C (either (stops a b) (over_pairs f (among a) (among b)))
        (of_both g (to_number q) (to_number r))
    numbers-cover a b q r h i each =
        by_numbers a b q r h i each (to_number q) (to_number r) refl refl

-- what is made of a result can be made of each
pub to_primitive-of_both : {A : Type 0} (k : A → Primitive) (f : Num → Num → Result A Stop)
    (x y : Result Num Stop) → of_both (λ m n. to_primitive k (f m n)) x y
    ≡ to_primitive k (of_both f x y)
to_primitive-of_both k f (Err stop) y = refl
to_primitive-of_both k f (Ok m) (Err stop) = refl
to_primitive-of_both k f (Ok m) (Ok n) = refl

-- ---- arithmetic

-- what is known of a whole number; of NaN nothing is
abbrev pub OfWhole : (ℤ → Type 0) → Num → Type 0
OfWhole W NaN = Unit {0}
OfWhole W (Whole z) = W z

abbrev pub Any : ℤ → Type 0
Any z = Unit {0}

-- NaN gives NaN, and two whole numbers what the class says
pub record IsArithmetic (C : Abstracted → Result Primitive Stop → Type 0) (W : ℤ → Type 0)
    (f : Num → Num → Result Num Stop) (class : Abstracted) : Type 0 where
  pub left_nan : (n : Num) → f NaN n ≡ Ok NaN
  pub right_nan : (m : Num) → f m NaN ≡ Ok NaN
  pub whole : (y z : ℤ) → W y → W z → C class (to_primitive primitive.Number
      (f (Whole y) (Whole z)))

module _ (C : Abstracted → Result Primitive Stop → Type 0) (is : IsCover C) (W : ℤ → Type 0)
    (f : Num → Num → Result Num Stop) (class : Abstracted) (law : IsArithmetic C W f class) where
  abbrev Combines : Operand → Operand → Num → Num → Type 0
  Combines x y m n = C (combine f class x y) (to_primitive primitive.Number (f m n))

  gives_nan : (x : Result Num Stop) → x ≡ Ok NaN
      → C (gives nan_value) (to_primitive primitive.Number x)
  gives_nan x e =
      subst (λ r. C (gives nan_value) (to_primitive primitive.Number r)) (sym e)
      (is.from (gives nan_value) (Ok (primitive.Number NaN)) refl)

  combine-covers : (x y : Operand) (m n : Num) → OfWhole W m → OfWhole W n → Takes m x → Takes n y
      → Combines x y m n
  combine-covers (Some k) (Some l) m n u v h i =
      subst (λ a. Combines (Some k) (Some l) a n) h
      (subst (Combines (Some k) (Some l) k) i (is.from
      (exact (to_primitive primitive.Number (f k l))) (to_primitive primitive.Number (f k l))
      (covers-exact (to_primitive primitive.Number (f k l)))))
  combine-covers (Some NaN) None m (Whole z) u v h i =
      subst (λ a. Combines (Some NaN) None a (Whole z)) h
      (gives_nan (f NaN (Whole z)) (law.left_nan (Whole z)))
  combine-covers (Some (Whole y)) None m (Whole z) u v h i =
      subst (λ a. Combines (Some (Whole y)) None a (Whole z)) h
      (law.whole y z (subst (OfWhole W) (sym h) u) v)
  combine-covers None (Some NaN) (Whole y) n u v h i =
      subst (Combines None (Some NaN) (Whole y)) i
      (gives_nan (f (Whole y) NaN) (law.right_nan (Whole y)))
  combine-covers None (Some (Whole z)) (Whole y) n u v h i =
      subst (Combines None (Some (Whole z)) (Whole y)) i
      (law.whole y z u (subst (OfWhole W) (sym i) v))
  combine-covers None None (Whole y) (Whole z) u v h i = law.whole y z u v
  combine-covers (Some k) None m NaN u v h i = elim i [ ]
  combine-covers None y NaN n u v h i = elim h [ ]
  combine-covers None None (Whole y) NaN u v h i = elim i [ ]

  pub arithmetic-covers : (a b : Atom) (q r : Primitive) → Has q a → Has r b
      → ((m : Num) → to_number q ≡ Ok m → OfWhole W m)
      → ((n : Num) → to_number r ≡ Ok n → OfWhole W n)
      → C (arithmetic f class a b) (to_primitive primitive.Number
      (of_both f (to_number q) (to_number r)))
  arithmetic-covers a b q r h i u v =
      subst (C (arithmetic f class a b)) (to_primitive-of_both primitive.Number f (to_number q)
      (to_number r))
      (numbers-cover C is Takes operands operands-take (combine f class)
      (λ m n. to_primitive primitive.Number (f m n)) a b q r h i
      (λ m n x y d e k l. combine-covers x y m n (u m d) (v n e) k l))

pub any : (m : Num) → OfWhole Any m
any NaN = tt
any (Whole z) = tt

-- sum, difference and product
pub whole-is : (operation : ℤ → ℤ → ℤ) → IsArithmetic Covers Any
    (numbers.of_both (λ m n. numbers.judged_whole (operation m n))) (gives_or_stops whole_value)
whole-is operation = record {
  left_nan = λ n. refl;
  right_nan = nan_right (λ m n. numbers.judged_whole (operation m n));
  whole = λ y z u v. judged-covers (is_negative (operation y z)) (unsigned_abs (operation y z)) 1;
}

pub div-is : IsArithmetic Covers Any numbers.div (gives_or_stops (join nan_value whole_value))
div-is =
    record {
      left_nan = λ n. refl;
      right_nan = nan_right numbers.quotient;
      whole =
          λ y z u v. any_number (numbers.quotient y z);
    }

-- a remainder is within the numbers of the profile where the dividend is, so it never stops; and
-- where it doesn't it is a number
abbrev pub InRange : ℤ → Type 0
InRange z = unsigned_abs z ≤ max_magnitude

remainder-covers : (y z : ℤ) → InRange y → Covers (gives (join nan_value whole_value))
    (to_primitive primitive.Number (numbers.remainder y z))
remainder-covers y z small =
    cond_both (unsigned_abs z == 0) (Ok NaN) (judged (is_negative y)
    (unsigned_abs y % unsigned_abs z) 1) (λ x. Covers (gives (join nan_value whole_value))
    (to_primitive primitive.Number x)) (λ _. refl)
    (λ some. let e = judged_found (is_negative y) (unsigned_abs y % unsigned_abs z) 1
    (unsigned_abs y % unsigned_abs z) (lit< tt) (omega arith)
    (le_trans (mod-le (unsigned_abs y) (unsigned_abs z)) small) in
    subst (λ x. Covers (gives (join nan_value whole_value)) (to_primitive primitive.Number x))
    (sym e) refl)

some_number : (x : Result Num Stop) → Gives (gives (join nan_value whole_value))
    (to_primitive primitive.Number x)
some_number (Ok NaN) = refl
some_number (Ok (Whole z)) = refl
some_number (Err stop) = tt

pub rem-is : IsArithmetic Covers InRange numbers.rem (gives (join nan_value whole_value))
rem-is =
    record {
      left_nan = λ n. refl;
      right_nan = nan_right numbers.remainder;
      whole =
          λ y z u v. remainder-covers y z u;
    }

pub rem-gives : IsArithmetic Gives Any numbers.rem (gives (join nan_value whole_value))
rem-gives =
    record {
      left_nan = λ n. refl;
      right_nan = nan_right numbers.remainder;
      whole =
          λ y z u v. some_number (numbers.remainder y z);
    }

-- ---- bits

-- a result on bits is whole, whatever the numbers are
abbrev pub IsOnBits : (Num → Num → Num) → Type 0
IsOnBits f = (m n : Num) → IsTrue (has_primitive whole_value (primitive.Number (f m n)))

bits_by : (f : Num → Num → Num) → IsOnBits f → (x y : Operand) (m n : Num) → Takes m x → Takes n y
    → Covers (combine_bits f x y) (Ok (primitive.Number (f m n)))
bits_by f law (Some k) (Some l) m n h i =
    subst (λ a. Covers (combine_bits f (Some k) (Some l)) (Ok (primitive.Number (f a n)))) h
    (subst (λ b. Covers (combine_bits f (Some k) (Some l)) (Ok (primitive.Number (f k b)))) i
    (of_primitive_has (primitive.Number (f k l))))
bits_by f law x y m n h i = law m n

pub bits-cover : (f : Num → Num → Num) → IsOnBits f → (a b : Atom) (q r : Primitive) → Has q a
    → Has r b → Covers (bit_op f a b) (to_primitive primitive.Number
    (of_both (λ m n. Ok (f m n)) (to_number q) (to_number r)))
bits-cover f law a b q r h i =
    subst (Covers (bit_op f a b)) (to_primitive-of_both primitive.Number (λ m n. Ok (f m n))
    (to_number q) (to_number r))
    (numbers-cover Covers covers-is Takes operands operands-take (combine_bits f)
    (λ m n. Ok (primitive.Number (f m n))) a b q r h i
    (λ m n x y d e k l. bits_by f law x y m n k l))

-- ---- of one number

-- a whole number gives one
abbrev pub IsOnWhole : (Num → Num) → Type 0
IsOnWhole f = (z : ℤ) → IsTrue (has_primitive whole_value (primitive.Number (f (Whole z))))

operand-covers : (f : Num → Num) → IsOnWhole f → (x : Operand) (n : Num) → Takes n x
    → Covers (of_operand f x) (Ok (primitive.Number (f n)))
operand-covers f law (Some m) n h =
    subst (λ k. Covers (of_operand f (Some m)) (Ok (primitive.Number (f k)))) h
    (of_primitive_has (primitive.Number (f m)))
operand-covers f law None (Whole z) h = law z
operand-covers f law None NaN h = elim h [ ]

on_operand_by : (f : Num → Num) → IsOnWhole f → (a : Atom) (q : Primitive) → Has q a
    → (x : Result Num Stop) → to_number q ≡ x → Covers (on_operand (of_operand f) a)
    (to_primitive (λ n. primitive.Number (f n)) x)
on_operand_by f law a q h (Ok n) e =
    covers-right (stops_if (to_num_atom a).may_stop) (over (of_operand f) (operands a))
    (Ok (primitive.Number (f n)))
    (over-covers Covers covers-is (of_operand f) (operands a) (Takes n)
    (Ok (primitive.Number (f n))) (λ x k. operand-covers f law x n k) (operands-take a q n h e))
on_operand_by f law a q h (Err stop) e =
    covers-left (stops_if (to_num_atom a).may_stop) (over (of_operand f) (operands a)) (Err stop)
    (may_stop a q stop h e)

-- the opposite, and the bits turned
pub on_operand-covers : (f : Num → Num) → IsOnWhole f → (a : Atom) (q : Primitive) → Has q a
    → Covers (on_operand (of_operand f) a) (to_primitive (λ n. primitive.Number (f n))
    (to_number q))
on_operand-covers f law a q h = on_operand_by f law a q h (to_number q) refl

-- an operation on the numbers of an atom itself, as to_int32
pub number-covers : (f : Num → Num) → IsOnWhole f → (a : Atom) (n : Num)
    → Has (primitive.Number n) a → Covers (over (of_operand f) (operand a))
    (Ok (primitive.Number (f n)))
number-covers f law a n h =
    over-covers Covers covers-is (of_operand f) (operand a) (Takes n) (Ok (primitive.Number (f n)))
    (λ x k. operand-covers f law x n k) (operand-takes a n h)

pub to_int32-covers : (a : Atom) (n : Num) → Has (primitive.Number n) a
    → Covers (over (of_operand (λ m. Whole (bits.to_int32 m))) (operand a))
    (Ok (primitive.Number (Whole (bits.to_int32 n))))
to_int32-covers = number-covers (λ m. Whole (bits.to_int32 m)) (λ z. refl)

-- ---- truth

pub just_true : (b : Bool) → IsTrue b → Covers (gives (of_bools true false)) (Ok (primitive.Bool b))
just_true true e = refl
just_true false e = absurd (false≢true e)

pub just_false : (b : Bool) → b ≡ false → Covers (gives (of_bools false true))
    (Ok (primitive.Bool b))
just_false true e = absurd (false≢true (sym e))
just_false false e = refl

abbrev ToBool : Atom → Primitive → Type 0
ToBool a q = Covers (to_bool_atom a) (Ok (primitive.Bool (to_bool q)))

not_zero : (z : ℤ) → IsTrue (not (is_index z)) → IsTrue (not (int_eq z (pos 0)))
not_zero z e =
    ap not (false_from_ne_true (int_eq z (pos 0))
    (λ is. false≢true (subst (λ n. IsTrue (not (is_index n))) ((Decides-int_eq z (pos 0)).0 is) e)))

not_empty : (t : List ℕ) → IsTrue (is_index_text t) → IsTrue (not (length t == 0))
not_empty [] e = absurd (false≢true e)
not_empty (c ∷ cs) e = ap not (ne_eqb (length (c ∷ cs)) 0 (λ z. absurd (omega arith)))

pub to_bool-covers : (a : Atom) (q : Primitive) → Has q a → ToBool a q
to_bool-covers (exactly r) q h =
    subst (ToBool (exactly r)) (only r q h) (of_primitive_has (primitive.Bool (to_bool r)))
to_bool-covers index q h = any_bool (to_bool q)
to_bool-covers other_whole q h =
    by_whole number_part.OtherWhole (ToBool other_whole)
    (λ z e. just_true (not (int_eq z (pos 0))) (not_zero z e)) q h
to_bool-covers whole q h = any_bool (to_bool q)
to_bool-covers index_text q h =
    by_text text_part.IndexText (ToBool index_text)
    (λ t e. just_true (not (length t == 0)) (not_empty t e)) q h
to_bool-covers other_text q h = any_bool (to_bool q)
to_bool-covers any_text q h = any_bool (to_bool q)

-- ---- unsigned numbers of 32 bits

-- an index is its own residue
index_residue : (z : ℤ) → IsTrue (is_index z) → IsTrue (is_index (pos (bits.residue z)))
index_residue (pos n) e = lt-ltb (n % 2 ^ 32) 4294967295 (omega (arith, ltb-true n 4294967295 e))
index_residue (negsuc n) e = absurd (false≢true e)

abbrev ToUint32 : Atom → Num → Type 0
ToUint32 a n = Covers (index_or_whole a) (Ok (primitive.Number (Whole (pos (bits.to_uint32 n)))))

pub to_uint32-covers : (a : Atom) (n : Num) → Has (primitive.Number n) a → ToUint32 a n
to_uint32-covers (exactly r) n h =
    subst (λ q. ToUint32 (exactly q) n) (sym (only r (primitive.Number n) h))
    (of_primitive_has (primitive.Number (Whole (pos (bits.to_uint32 n)))))
to_uint32-covers index (Whole z) h = index_residue z h
to_uint32-covers index NaN h = absurd (false≢true h)
to_uint32-covers a n h = refl

-- ---- whole values

-- the number of a primitive, or a stop
pub to_num-all : (v : AbstractValue) (q : Primitive) → IsTrue (has_primitive v q)
    → Covers (to_num v) (to_primitive primitive.Number (to_number q))
to_num-all v q e =
    unary-covers to_num_atom (λ r. to_primitive primitive.Number (to_number r))
    (to_num-covers) v q e

-- the unsigned number of a number
pub to_uint32-all : (v : AbstractValue) (n : Num) → IsTrue (has_primitive v (primitive.Number n))
    → IsTrue (has_primitive (to_uint32 v).value (primitive.Number (Whole (pos (bits.to_uint32 n)))))
to_uint32-all v n e =
    over-covers Covers covers-is index_or_whole (atoms v) (Has (primitive.Number n))
    (Ok (primitive.Number (Whole (pos (bits.to_uint32 n))))) (λ a h. to_uint32-covers a n h)
    (atoms-have v (primitive.Number n) e)

-- the count of arguments that a length gives
pub count-has : (v : AbstractValue) (q : Primitive) (n : Num) → IsTrue (has_primitive v q)
    → to_number q ≡ Ok n → IsTrue (has_primitive (to_uint32 (to_num v).value).value
    (primitive.Number (Whole (pos (bits.to_uint32 n)))))
count-has v q n e is =
    to_uint32-all (to_num v).value n (subst (λ x. Covers (to_num v)
    (to_primitive primitive.Number x)) is (to_num-all v q e))
