-- Abstract primitives cover the machine's, continued: sums, comparison and loose equality of two
-- atoms.
use Rattle.std.specs.Prelude.{◌≡◌, ◌&&◌, ◌||◌, ◌++◌, ◌+ℤ◌, int_lt, ℕ, ℤ, Bool, true, false, nat_lt, if◌then◌else◌, IsTrue, List, length, Some, None, Result, Ok, Err}
use Rattle.std.proofs.Common.{refl, sym, subst, ap, ◌∙◌}
use Rattle.std.proofs.lemmas.Bool.{and_parts, and_from, false≢true, true≢false, false_from_ne_true, cond_both, cond-true, cond-false}
use Rattle.ja_prim.specs.declared.stop.Stop.{Stop}
use Rattle.ja_prim.specs.declared.stop.Stop.TheVariants as stops_
use Rattle.ja_prim.specs.declared.primitive.Num.{Num}
use Rattle.ja_prim.specs.declared.primitive.Num.TheVariants.{NaN, Whole}
use Rattle.ja_prim.specs.declared.primitive.Primitive.{Primitive}
use Rattle.ja_prim.specs.declared.primitive.Primitive.TheVariants as primitive
use Rattle.ja_prim.specs.Conversions.{to_number, to_text}
use Rattle.ja_prim.specs.Comparison.{strict_equal, loose_equal, are_alike, is_nothing, is_text, less, less_number, less_text, same_number, add, to_primitive, of_both, sum_of}
use Rattle.ja_prim.specs.Texts.{limited_text, max_units}
use Rattle.ja_prim.specs.Arithmetic as numbers
use Rattle.ja_abstract.specs.declared.abstraction.NumberPart.TheVariants as number_part
use Rattle.ja_abstract.specs.declared.abstraction.TextPart.TheVariants as text_part
use Rattle.ja_abstract.specs.Primitives.{Atom, exactly, index, other_whole, whole, index_text, other_text, any_text, atoms, of_text_part, Abstracted, gives, gives_or_stops, exact, whole_value, of_bools, both_bools, to_num_atom, Operand, operands, on_operands, arithmetic, both_exact, is_text_atom, add_atoms, compared, compare_operands, compare_atoms, kind_of, kind_of_primitive, same_kind, strict_atoms, is_nothing_atom, on_converted, loose_inexact, loose_atoms}
use Rattle.ja_abstract.proofs.Atoms.{Covers, covers-exact, Has, only, strict-covers, is_exact, both_exact-by, by_whole, by_text, Takes, any_bool}
use Rattle.ja_abstract.proofs.Converted.{covers-is, operands-take, converted-has, numbers-cover, to_primitive-of_both, Any, any, arithmetic-covers, whole-is, just_false}

-- ---- exact atoms

-- what the machine gives of two primitives covers itself where both atoms are exact
exact-covers : (g : Primitive → Primitive → Result Primitive Stop) (otherwise : Abstracted)
    (a b : Atom) (q r : Primitive) → Has q a → Has r b
    → (is_exact a && is_exact b ≡ false → Covers otherwise (g q r))
    → Covers (both_exact (λ s t. exact (g s t)) otherwise a b) (g q r)
exact-covers g otherwise a b q r h i inexact =
    both_exact-by (λ x. Covers x (g q r)) (λ s t. exact (g s t)) otherwise a b
    (λ s t d e. at s t (only s q (subst (Has q) d h)) (only t r (subst (Has r) e i))) inexact
  where
    at : (s t : Primitive) → s ≡ q → t ≡ r → Covers (exact (g s t)) (g q r)
    at s t d e =
        subst (λ u. Covers (exact (g s t)) (g u r)) d
        (subst (λ u. Covers (exact (g s t)) (g s u)) e (covers-exact (g s t)))

-- what is read off an atom is what is read off each primitive that it has
of_each : {A : Type 0} (f : Atom → A) (g : Primitive → A) → ((q : Primitive) → f (exactly q) ≡ g q)
    → ((z : ℤ) → f index ≡ g (primitive.Number (Whole z)))
    → ((z : ℤ) → f other_whole ≡ g (primitive.Number (Whole z)))
    → ((z : ℤ) → f whole ≡ g (primitive.Number (Whole z)))
    → ((t : List ℕ) → f index_text ≡ g (primitive.Text t))
    → ((t : List ℕ) → f other_text ≡ g (primitive.Text t))
    → ((t : List ℕ) → f any_text ≡ g (primitive.Text t)) → (a : Atom) (q : Primitive) → Has q a
    → f a ≡ g q
of_each f g e i o w it ot t (exactly r) q h = e r ∙ ap g (only r q h)
of_each f g e i o w it ot t index q h =
    by_whole number_part.Index (λ r. f index ≡ g r) (λ z _. i z) q h
of_each f g e i o w it ot t other_whole q h =
    by_whole number_part.OtherWhole (λ r. f other_whole ≡ g r) (λ z _. o z) q h
of_each f g e i o w it ot t whole q h =
    by_whole number_part.Whole (λ r. f whole ≡ g r) (λ z _. w z) q h
of_each f g e i o w it ot t index_text q h =
    by_text text_part.IndexText (λ r. f index_text ≡ g r) (λ u _. it u) q h
of_each f g e i o w it ot t other_text q h =
    by_text text_part.OtherText (λ r. f other_text ≡ g r) (λ u _. ot u) q h
of_each f g e i o w it ot t any_text q h =
    by_text text_part.Text (λ r. f any_text ≡ g r) (λ u _. t u) q h

text_is : (a : Atom) (q : Primitive) → Has q a → is_text_atom a ≡ is_text q
text_is =
    of_each is_text_atom is_text (λ q. refl) (λ z. refl) (λ z. refl) (λ z. refl) (λ t. refl)
    (λ t. refl) (λ t. refl)

kind_is : (a : Atom) (q : Primitive) → Has q a → kind_of a ≡ kind_of_primitive q
kind_is =
    of_each kind_of kind_of_primitive (λ q. refl) (λ z. refl) (λ z. refl) (λ z. refl) (λ t. refl)
    (λ t. refl) (λ t. refl)

nothing_is : (a : Atom) (q : Primitive) → Has q a → is_nothing_atom a ≡ is_nothing q
nothing_is =
    of_each is_nothing_atom is_nothing (λ q. refl) (λ z. refl) (λ z. refl) (λ z. refl) (λ t. refl)
    (λ t. refl) (λ t. refl)

-- ---- sums

-- a text, or one that is too long
limited-covers : (t : List ℕ) → Covers (gives_or_stops (of_text_part text_part.Text))
    (to_primitive primitive.Text (limited_text t))
limited-covers t =
    cond_both (nat_lt max_units (length t)) (Err stops_.TextLength) (Ok t)
    (λ x. Covers (gives_or_stops (of_text_part text_part.Text)) (to_primitive primitive.Text x))
    (λ _. refl) (λ _. refl)

pub add-covers : (a b : Atom) (q r : Primitive) → Has q a → Has r b
    → Covers (add_atoms a b) (add q r)
add-covers a b q r h i =
    let texts = is_text_atom a || is_text_atom b in
    let joined : Result Primitive Stop =
    to_primitive primitive.Text (limited_text (to_text q ++ to_text r)) in
    let summed : Result Primitive Stop =
    to_primitive primitive.Number (sum_of (to_number q) (to_number r)) in
    let same : texts ≡ (is_text q || is_text r) =
    ap (λ x. x || is_text_atom b) (text_is a q h) ∙ ap (λ x. is_text q || x) (text_is b r i) in
    exact-covers add (if texts then gives_or_stops
    (of_text_part text_part.Text) else arithmetic numbers.add (gives_or_stops whole_value) a b) a b
    q r h i (λ _.
    cond_both texts (gives_or_stops (of_text_part text_part.Text))
    (arithmetic numbers.add (gives_or_stops whole_value) a b) (λ x. Covers x (add q r))
    (λ e. subst (Covers (gives_or_stops (of_text_part text_part.Text)))
    (sym (cond-true (is_text q || is_text r) joined summed (sym same ∙ e)))
    (limited-covers (to_text q ++ to_text r)))
    (λ e. subst (Covers (arithmetic numbers.add (gives_or_stops whole_value) a b))
    (sym (cond-false (is_text q || is_text r) joined summed (sym same ∙ e)))
    (arithmetic-covers Covers covers-is Any numbers.add (gives_or_stops whole_value)
    (whole-is (λ m n. m +ℤ n)) a b q r h i (λ m _. any m) (λ n _. any n))))

-- ---- comparison

-- but of two texts it is one of numbers
less_numbers : (q r : Primitive) → is_text q && is_text r ≡ false
    → less q r ≡ of_both (λ m n. Ok (less_number m n)) (to_number q) (to_number r)
less_numbers (primitive.Text s) (primitive.Text t) e = absurd (true≢false e)
less_numbers q r e = refl

texts_compare : (q r : Primitive) → IsTrue (is_text q) → IsTrue (is_text r)
    → Covers both_bools (compared (less q r))
texts_compare (primitive.Text s) (primitive.Text t) d e = any_bool (less_text s t)
texts_compare (primitive.Text s) r d e = absurd (false≢true e)
texts_compare q r d e = absurd (false≢true d)

abbrev compared_numbers : Num → Num → Result Primitive Stop
compared_numbers m n = compared (Ok (less_number m n))

compared-of_both : (x y : Result Num Stop) → of_both compared_numbers x y
    ≡ compared (of_both (λ m n. Ok (less_number m n)) x y)
compared-of_both (Err stop) y = refl
compared-of_both (Ok m) (Err stop) = refl
compared-of_both (Ok m) (Ok n) = refl

abbrev Compares : Operand → Operand → Num → Num → Type 0
Compares x y m n = Covers (compare_operands x y) (compared_numbers m n)

operands_compare : (x y : Operand) (m n : Num) → Takes m x → Takes n y → Compares x y m n
operands_compare (Some k) (Some l) m n h i =
    subst (λ a. Compares (Some k) (Some l) a n) h
    (subst (Compares (Some k) (Some l) k) i (covers-exact (compared_numbers k l)))
operands_compare (Some NaN) None m (Whole z) h i =
    subst (λ a. Compares (Some NaN) None a (Whole z)) h refl
operands_compare (Some (Whole y)) None m (Whole z) h i =
    subst (λ a. Compares (Some (Whole y)) None a (Whole z)) h (any_bool (int_lt y z))
operands_compare None (Some NaN) (Whole y) n h i = subst (Compares None (Some NaN) (Whole y)) i refl
operands_compare None (Some (Whole z)) (Whole y) n h i =
    subst (Compares None (Some (Whole z)) (Whole y)) i (any_bool (int_lt y z))
operands_compare None None (Whole y) (Whole z) h i = any_bool (int_lt y z)
operands_compare (Some k) None m NaN h i = elim i [ ]
operands_compare None y NaN n h i = elim h [ ]
operands_compare None None (Whole y) NaN h i = elim i [ ]

pub compare-covers : (a b : Atom) (q r : Primitive) → Has q a → Has r b
    → Covers (compare_atoms a b) (compared (less q r))
compare-covers a b q r h i =
    let texts = is_text_atom a && is_text_atom b in
    let same : texts ≡ (is_text q && is_text r) =
    ap (λ x. x && is_text_atom b) (text_is a q h) ∙ ap (λ x. is_text q && x) (text_is b r i) in
    exact-covers (λ s t. compared (less s t)) (if texts then both_bools else on_operands
    compare_operands a b) a b q r h i (λ _.
    cond_both texts both_bools (on_operands compare_operands a b)
    (λ x. Covers x (compared (less q r)))
    (λ e. let (d, f) = and_parts (is_text q) (is_text r) (sym same ∙ e) in texts_compare q r d f)
    (λ e. subst (Covers (on_operands compare_operands a b))
    (compared-of_both (to_number q) (to_number r)
    ∙ ap compared (sym (less_numbers q r (sym same ∙ e))))
    (numbers-cover Covers covers-is Takes operands operands-take compare_operands compared_numbers a
    b q r h i (λ m n x y d f k l. operands_compare x y m n k l))))

-- ---- loose equality

-- but of undefined and null two values of one kind are alike
alike_is : (q r : Primitive) → is_nothing q || is_nothing r ≡ false
    → same_kind (kind_of_primitive q) (kind_of_primitive r) ≡ are_alike q r
alike_is primitive.Undefined r e = absurd (true≢false e)
alike_is primitive.Null r e = absurd (true≢false e)
alike_is q primitive.Undefined e = absurd (true≢false e)
alike_is q primitive.Null e = absurd (true≢false e)
alike_is q r e = refl

nothing_exact : (a : Atom) → IsTrue (is_nothing_atom a) → IsTrue (is_exact a)
nothing_exact (exactly q) e = refl
nothing_exact a e = e

abbrev equal_numbers : Num → Num → Result Primitive Stop
equal_numbers m n = to_primitive primitive.Bool (Ok (same_number m n))

module _ (a b : Atom) (q r : Primitive) (h : Has q a) (i : Has r b) where
  abbrev equal : Result Bool Stop
  equal = of_both (λ m n. Ok (same_number m n)) (to_number q) (to_number r)

  numbers_equal : Covers (on_converted strict_atoms a b) (to_primitive primitive.Bool equal)
  numbers_equal =
      subst (Covers (on_converted strict_atoms a b))
      (to_primitive-of_both primitive.Bool (λ m n. Ok (same_number m n)) (to_number q)
      (to_number r))
      (numbers-cover Covers covers-is (λ n. Has (primitive.Number n))
      (λ c. atoms (to_num_atom c).value) converted-has strict_atoms equal_numbers a b q r h i
      (λ m n x y d f k l. strict-covers x y (primitive.Number m) (primitive.Number n) k l))

  some_equal : is_nothing q || is_nothing r ≡ false
      → Covers (if same_kind (kind_of a) (kind_of b) then strict_atoms a b else on_converted
      strict_atoms a b) (to_primitive primitive.Bool
      (if are_alike q r then Ok (strict_equal q r) else equal))
  some_equal some =
      let same : same_kind (kind_of a) (kind_of b) ≡ are_alike q r =
      ap (λ x. same_kind x (kind_of b)) (kind_is a q h)
      ∙ ap (same_kind (kind_of_primitive q)) (kind_is b r i) ∙ alike_is q r some in
      cond_both (same_kind (kind_of a) (kind_of b)) (strict_atoms a b)
      (on_converted strict_atoms a b) (λ x. Covers x
      (to_primitive primitive.Bool (if are_alike q r then Ok (strict_equal q r) else equal)))
      (λ e. subst (λ x. Covers (strict_atoms a b) (to_primitive primitive.Bool x))
      (sym (cond-true (are_alike q r) (Ok (strict_equal q r)) equal (sym same ∙ e)))
      (strict-covers a b q r h i))
      (λ e. subst (λ x. Covers (on_converted strict_atoms a b) (to_primitive primitive.Bool x))
      (sym (cond-false (are_alike q r) (Ok (strict_equal q r)) equal (sym same ∙ e))) numbers_equal)

  inexact_equal : is_exact a && is_exact b ≡ false
      → Covers (loose_inexact a b) (to_primitive primitive.Bool (loose_equal q r))
  inexact_equal apart =
      let nothing = is_nothing_atom a || is_nothing_atom b in
      let same : nothing ≡ (is_nothing q || is_nothing r) =
      ap (λ x. x || is_nothing_atom b) (nothing_is a q h)
      ∙ ap (λ x. is_nothing q || x) (nothing_is b r i) in
      let others : Abstracted =
      if same_kind (kind_of a) (kind_of b) then strict_atoms a b else on_converted strict_atoms
      a b in
      let values : Result Bool Stop = if are_alike q r then Ok (strict_equal q r) else equal in
      let none : (is_nothing q && is_nothing r) ≡ false =
      false_from_ne_true (is_nothing q && is_nothing r)
      (λ e. let (d, f) = and_parts (is_nothing q) (is_nothing r) e in
      false≢true (sym apart ∙ and_from (is_exact a) (is_exact b)
      (nothing_exact a (nothing_is a q h ∙ d)) (nothing_exact b (nothing_is b r i ∙ f)))) in
      cond_both nothing (gives (of_bools false true)) others
      (λ x. Covers x (to_primitive primitive.Bool (loose_equal q r)))
      (λ e. subst (λ x. Covers (gives (of_bools false true)) (to_primitive primitive.Bool x))
      (sym (cond-true (is_nothing q || is_nothing r) (Ok (is_nothing q && is_nothing r)) values
      (sym same ∙ e))) (just_false (is_nothing q && is_nothing r) none))
      (λ e. subst (λ x. Covers others (to_primitive primitive.Bool x))
      (sym (cond-false (is_nothing q || is_nothing r) (Ok (is_nothing q && is_nothing r)) values
      (sym same ∙ e))) (some_equal (sym same ∙ e)))

  pub loose-covers : Covers (loose_atoms a b) (to_primitive primitive.Bool (loose_equal q r))
  loose-covers =
      exact-covers (λ s t. to_primitive primitive.Bool (loose_equal s t))
      (loose_inexact a b) a b q r h i inexact_equal
