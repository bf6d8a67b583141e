-- Abstract primitives cover the machine's: one lemma for each operation on an atom, or on the
-- numbers of two.
use Rattle.std.specs.Prelude.{◌≡◌, ◌⊎◌, ◌&&◌, ◌||◌, not, ℕ, ℤ, Bool, true, false, ◌/◌, ◌%◌, ◌*◌, ◌==◌, nat_lt, ◌-ℤ◌, if◌then◌else◌, IsTrue, List, [], ◌∷◌, ◌++◌, Some, None, Result, Ok, Err, unsigned_abs, length}
use Rattle.std.specs.List.{flat_map}
use Rattle.std.specs.Int.{is_negative}
use Rattle.std.proofs.Common.{refl, sym, subst, ap, ◌∙◌, inl, inr, arith}
use Rattle.std.proofs.lemmas.Bool.{or_left, or_right, and_from, false≢true, cond_both, cond-true}
use Rattle.std.proofs.lemmas.Bool.Decides.{Decides-int_eq}
use lib.Pointwise.{bytes_decides}
use Rattle.ja_prim.specs.declared.stop.Stop.{Stop}
use Rattle.ja_prim.specs.declared.primitive.Num.{Num}
use Rattle.ja_prim.specs.declared.primitive.Num.TheVariants.{NaN, Whole}
use Rattle.ja_prim.specs.declared.primitive.Primitive.{Primitive}
use Rattle.ja_prim.specs.declared.primitive.Primitive.TheVariants as primitive
use Rattle.ja_prim.specs.Index.{is_index, is_index_text}
use Rattle.ja_prim.specs.Conversions.{to_number, to_text}
use Rattle.ja_prim.specs.Comparison.{strict_equal, to_primitive, of_both}
use Rattle.ja_prim.specs.Judged.{judged, signed, max_magnitude}
use Rattle.ja_prim.specs.declared.stop.Stop.TheVariants as stops_
use Rattle.ja_prim.specs.Arithmetic as numbers
use Rattle.ja_abstract.specs.declared.abstraction.NumberPart.{NumberPart}
use Rattle.ja_abstract.specs.declared.abstraction.NumberPart.TheVariants as number_part
use Rattle.ja_abstract.specs.declared.abstraction.TextPart.{TextPart}
use Rattle.ja_abstract.specs.declared.abstraction.TextPart.TheVariants as text_part
use Rattle.ja_abstract.specs.declared.abstraction.Flags.{Flags}
use Rattle.ja_abstract.specs.AbstractValue.{AbstractValue, no_flags, of_flags, join, of_primitive, number_class, text_class}
use Rattle.ja_abstract.specs.Parts.{number_has, text_has, has_primitive}
use Rattle.ja_abstract.specs.Primitives.{Atom, exactly, index, other_whole, whole, index_text, other_text, any_text, flag_atoms, flags_of, part_atoms, number_atoms, text_atoms, atoms, of_number_part, of_text_part, of_atom, Abstracted, gives, gives_or_stops, stops_if, either, over, over_pairs, exact, nan_value, whole_value, of_bools, both_bools, to_num_atom, to_text_atom, Operand, operand, operands, combine, arithmetic, both_exact, numbers_meet, texts_meet, may_meet, strict_atoms}
use Rattle.ja_abstract.specs.Values.{has_atoms}
use Rattle.ja_abstract.proofs.Parts.{of_primitive_has}
use Rattle.ja_abstract.proofs.IndexTexts.{index_text_number, number_index_text}
use Rattle.ja_abstract.proofs.Joins.{has_primitive-join_left, has_primitive-join_right, number_class_has, text_class_has}

-- ---- what is covered

-- a result of the machine is in what the operation gives, or it says that it may stop
abbrev pub Covers : Abstracted → Result Primitive Stop → Type 0
Covers r (Ok q) = IsTrue (has_primitive r.value q)
Covers r (Err stop) = IsTrue r.may_stop

pub covers-left : (r s : Abstracted) (x : Result Primitive Stop) → Covers r x
    → Covers (either r s) x
covers-left r s (Ok q) c = has_primitive-join_left r.value s.value q c
covers-left r s (Err stop) c = or_left r.may_stop s.may_stop c

pub covers-right : (r s : Abstracted) (x : Result Primitive Stop) → Covers s x
    → Covers (either r s) x
covers-right r s (Ok q) c = has_primitive-join_right r.value s.value q c
covers-right r s (Err stop) c = or_right r.may_stop s.may_stop c

pub covers-exact : (x : Result Primitive Stop) → Covers (exact x) x
covers-exact (Ok q) = of_primitive_has q
covers-exact (Err stop) = refl

-- some of a list
abbrev pub Some_ : {A : Type 0} → (A → Type 0) → List A → Type 0
Some_ P [] = ⊥
Some_ P (x ∷ xs) = P x ⊎ Some_ P xs

pub some-left : {A : Type 0} (P : A → Type 0) (xs ys : List A) → Some_ P xs → Some_ P (xs ++ ys)
some-left P [] ys s = elim s [ ]
some-left P (x ∷ xs) ys (inl h) = inl h
some-left P (x ∷ xs) ys (inr s) = inr (some-left P xs ys s)

pub some-right : {A : Type 0} (P : A → Type 0) (xs ys : List A) → Some_ P ys → Some_ P (xs ++ ys)
some-right P [] ys s = s
some-right P (x ∷ xs) ys s = inr (some-right P xs ys s)

pub over-covers : {A : Type 0} (f : A → Abstracted) (xs : List A) (P : A → Type 0)
    (x : Result Primitive Stop) → ((a : A) → P a → Covers (f a) x) → Some_ P xs
    → Covers (over f xs) x
over-covers f [] P x each s = elim s [ ]
over-covers f (a ∷ as_) P x each (inl h) = covers-left (f a) (over f as_) x (each a h)
over-covers f (a ∷ as_) P x each (inr s) =
    covers-right (f a) (over f as_) x (over-covers f as_ P x each s)

pub pairs-cover : {A : Type 0} (f : A → A → Abstracted) (xs ys : List A) (P Q : A → Type 0)
    (x : Result Primitive Stop) → ((a b : A) → P a → Q b → Covers (f a b) x) → Some_ P xs
    → Some_ Q ys → Covers (over_pairs f xs ys) x
pairs-cover f xs ys P Q x each s t =
    over-covers (λ a. over (f a) ys) xs P x (λ a h. over-covers (f a) ys Q x
    (λ b k. each a b h k) t) s

-- ---- atoms

abbrev pub Has : Primitive → Atom → Type 0
Has q a = IsTrue (has_primitive (of_atom a) q)

-- a flag that is set has its primitive among the atoms
abbrev IsFlag : Primitive → List (Bool × Primitive) → Type 0
IsFlag q = Some_ (λ f. IsTrue f.0 × (f.1 ≡ q))

flag-some : (q : Primitive) (fs : List (Bool × Primitive)) → IsFlag q fs
    → Some_ (Has q) (flag_atoms fs)
flag-some q [] s = elim s [ ]
flag-some q (f ∷ fs) (inl h) =
    subst (Some_ (Has q)) (sym (cond-true f.0 (exactly f.1 ∷ flag_atoms fs) (flag_atoms fs) h.0))
    (inl (subst (λ r. IsTrue (has_primitive (of_primitive r) q)) (sym h.1) (of_primitive_has q)))
flag-some q (f ∷ fs) (inr s) =
    let more = flag-some q fs s in
    cond_both f.0 (exactly f.1 ∷ flag_atoms fs) (flag_atoms fs) (Some_ (Has q)) (λ _. inr more)
    (λ _. more)

number-some : (n : NumberPart) (z : ℤ) → IsTrue (number_has n z)
    → Some_ (Has (primitive.Number (Whole z))) (number_atoms n)
number-some number_part.Nothing z e = absurd (false≢true e)
number-some (number_part.One m) z e = inl e
number-some number_part.Index z e = inl e
number-some number_part.OtherWhole z e = inl e
number-some number_part.Whole z e = inl e

text-some : (s : TextPart) (t : List ℕ) → IsTrue (text_has s t)
    → Some_ (Has (primitive.Text t)) (text_atoms s)
text-some text_part.Nothing t e = absurd (false≢true e)
text-some (text_part.One s) t e = inl e
text-some text_part.IndexText t e = inl e
text-some text_part.OtherText t e = inl e
text-some text_part.Text t e = inl e

by_flag : (v : AbstractValue) (q : Primitive) → IsFlag q (flags_of v) → Some_ (Has q) (atoms v)
by_flag v q s =
    some-left (Has q) (flag_atoms (flags_of v)) (part_atoms v) (flag-some q (flags_of v) s)

by_part : (v : AbstractValue) (q : Primitive) → Some_ (Has q) (part_atoms v)
    → Some_ (Has q) (atoms v)
by_part v q s = some-right (Has q) (flag_atoms (flags_of v)) (part_atoms v) s

-- a primitive of a value is one of its atoms
pub atoms-have : (v : AbstractValue) (q : Primitive) → IsTrue (has_primitive v q)
    → Some_ (Has q) (atoms v)
atoms-have v primitive.Undefined e = by_flag v primitive.Undefined (inl (e, refl))
atoms-have v primitive.Null e = by_flag v primitive.Null (inr (inl (e, refl)))
atoms-have v (primitive.Bool true) e = by_flag v (primitive.Bool true) (inr (inr (inl (e, refl))))
atoms-have v (primitive.Bool false) e =
    by_flag v (primitive.Bool false) (inr (inr (inr (inl (e, refl)))))
atoms-have v (primitive.Number NaN) e =
    by_flag v (primitive.Number NaN) (inr (inr (inr (inr (inl (e, refl))))))
atoms-have v (primitive.Number (Whole z)) e =
    by_part v (primitive.Number (Whole z)) (some-left (Has (primitive.Number (Whole z)))
    (number_atoms v.number) (text_atoms v.text) (number-some v.number z e))
atoms-have v (primitive.Text t) e =
    by_part v (primitive.Text t) (some-right (Has (primitive.Text t)) (number_atoms v.number)
    (text_atoms v.text) (text-some v.text t e))

-- ---- what an atom is of

-- a number part alone has whole numbers alone, and a text part texts
pub whole_of : (n : NumberPart) (q : Primitive) → IsTrue (has_primitive (of_number_part n) q)
    → (z : ℤ) × (q ≡ primitive.Number (Whole z)) × IsTrue (number_has n z)
whole_of n primitive.Undefined e = absurd (false≢true e)
whole_of n primitive.Null e = absurd (false≢true e)
whole_of n (primitive.Bool true) e = absurd (false≢true e)
whole_of n (primitive.Bool false) e = absurd (false≢true e)
whole_of n (primitive.Number NaN) e = absurd (false≢true e)
whole_of n (primitive.Number (Whole z)) e = (z, refl, e)
whole_of n (primitive.Text t) e = absurd (false≢true e)

pub text_of : (s : TextPart) (q : Primitive) → IsTrue (has_primitive (of_text_part s) q)
    → (t : List ℕ) × (q ≡ primitive.Text t) × IsTrue (text_has s t)
text_of s primitive.Undefined e = absurd (false≢true e)
text_of s primitive.Null e = absurd (false≢true e)
text_of s (primitive.Bool true) e = absurd (false≢true e)
text_of s (primitive.Bool false) e = absurd (false≢true e)
text_of s (primitive.Number NaN) e = absurd (false≢true e)
text_of s (primitive.Number (Whole z)) e = absurd (false≢true e)
text_of s (primitive.Text t) e = (t, refl, e)

-- flags alone have the primitives of those that are set
of_flags_has : (f : Flags) (q : Primitive) → IsTrue (has_primitive (of_flags f) q)
    → IsFlag q (flags_of (of_flags f))
of_flags_has f primitive.Undefined e = inl (e, refl)
of_flags_has f primitive.Null e = inr (inl (e, refl))
of_flags_has f (primitive.Bool true) e = inr (inr (inl (e, refl)))
of_flags_has f (primitive.Bool false) e = inr (inr (inr (inl (e, refl))))
of_flags_has f (primitive.Number NaN) e = inr (inr (inr (inr (inl (e, refl)))))
of_flags_has f (primitive.Number (Whole z)) e = absurd (false≢true e)
of_flags_has f (primitive.Text t) e = absurd (false≢true e)

-- no other flag is set
abbrev Alone : Primitive → List (Bool × Primitive) → Type 0
Alone q [] = Unit {0}
Alone q (f ∷ fs) = (IsTrue f.0 → f.1 ≡ q) × Alone q fs

alone : (q r : Primitive) (fs : List (Bool × Primitive)) → IsFlag r fs → Alone q fs → q ≡ r
alone q r [] s all = elim s [ ]
alone q r (f ∷ fs) (inl h) all = sym (all.0 h.0) ∙ h.1
alone q r (f ∷ fs) (inr s) all = alone q r fs s all.1

-- exactly a primitive is of that one alone
pub only : (q r : Primitive) → IsTrue (has_primitive (of_primitive q) r) → q ≡ r
only primitive.Undefined r e =
    alone primitive.Undefined r (flags_of (of_flags (record no_flags { undefined = true })))
    (of_flags_has (record no_flags { undefined = true }) r e) (
      (λ x. refl),
      (
        (λ x. absurd (false≢true x)),
        (
          (λ x. absurd (false≢true x)),
          (
            (λ x. absurd (false≢true x)),
            ((λ x. absurd (false≢true x)), tt),
          ),
        ),
      ),
    )
only primitive.Null r e =
    alone primitive.Null r (flags_of (of_flags (record no_flags { null = true })))
    (of_flags_has (record no_flags { null = true }) r e) (
      (λ x. absurd (false≢true x)),
      (
        (λ x. refl),
        (
          (λ x. absurd (false≢true x)),
          (
            (λ x. absurd (false≢true x)),
            ((λ x. absurd (false≢true x)), tt),
          ),
        ),
      ),
    )
only (primitive.Bool true) r e =
    alone (primitive.Bool true) r (flags_of (of_flags (record no_flags { is_true = true })))
    (of_flags_has (record no_flags { is_true = true }) r e) (
      (λ x. absurd (false≢true x)),
      (
        (λ x. absurd (false≢true x)),
        ((λ x. refl), ((λ x. absurd (false≢true x)), ((λ x. absurd (false≢true x)), tt))),
      ),
    )
only (primitive.Bool false) r e =
    alone (primitive.Bool false) r (flags_of (of_flags (record no_flags { is_false = true })))
    (of_flags_has (record no_flags { is_false = true }) r e) (
      (λ x. absurd (false≢true x)),
      (
        (λ x. absurd (false≢true x)),
        ((λ x. absurd (false≢true x)), ((λ x. refl), ((λ x. absurd (false≢true x)), tt))),
      ),
    )
only (primitive.Number NaN) r e =
    alone (primitive.Number NaN) r (flags_of (of_flags (record no_flags { nan = true })))
    (of_flags_has (record no_flags { nan = true }) r e) (
      (λ x. absurd (false≢true x)),
      (
        (λ x. absurd (false≢true x)),
        ((λ x. absurd (false≢true x)), ((λ x. absurd (false≢true x)), ((λ x. refl), tt))),
      ),
    )
only (primitive.Number (Whole m)) r e =
    let (z, is, has) = whole_of (number_part.One m) r e in
    ap (λ n. primitive.Number (Whole n)) ((Decides-int_eq m z).0 has) ∙ sym is
only (primitive.Text s) r e =
    let (t, is, has) = text_of (text_part.One s) r e in
    ap primitive.Text ((bytes_decides s t).0 has) ∙ sym is

-- ---- conversions

-- of a number part: what holds of each of its whole numbers holds of each primitive that it has
pub by_whole : (n : NumberPart) (P : Primitive → Type 0)
    → ((z : ℤ) → IsTrue (number_has n z) → P (primitive.Number (Whole z))) → (q : Primitive)
    → IsTrue (has_primitive (of_number_part n) q) → P q
by_whole n P f q e = let (z, is, has) = whole_of n q e in subst P (sym is) (f z has)

pub by_text : (s : TextPart) (P : Primitive → Type 0)
    → ((t : List ℕ) → IsTrue (text_has s t) → P (primitive.Text t)) → (q : Primitive)
    → IsTrue (has_primitive (of_text_part s) q) → P q
by_text s P f q e = let (t, is, has) = text_of s q e in subst P (sym is) (f t has)

-- any result is covered by all numbers, or a stop
pub any_number : (x : Result Num Stop) → Covers (gives_or_stops (join nan_value whole_value))
    (to_primitive primitive.Number x)
any_number (Ok NaN) = refl
any_number (Ok (Whole z)) = refl
any_number (Err stop) = refl

abbrev ToNumber : Atom → Primitive → Type 0
ToNumber a q = Covers (to_num_atom a) (to_primitive primitive.Number (to_number q))

index_number : (t : List ℕ) → IsTrue (is_index_text t) → ToNumber index_text (primitive.Text t)
index_number t e =
    let (z, is, among) = index_text_number t e in
    subst (λ x. Covers (gives (of_number_part number_part.Index)) (to_primitive primitive.Number x))
    (sym is) among

pub to_num-covers : (a : Atom) (q : Primitive) → Has q a → ToNumber a q
to_num-covers (exactly r) q h =
    subst (ToNumber (exactly r)) (only r q h) (covers-exact
    (to_primitive primitive.Number (to_number r)))
to_num-covers index q h = by_whole number_part.Index (ToNumber index) (λ z e. e) q h
to_num-covers other_whole q h =
    by_whole number_part.OtherWhole (ToNumber other_whole) (λ z e. e) q h
to_num-covers whole q h = by_whole number_part.Whole (ToNumber whole) (λ z e. e) q h
to_num-covers index_text q h = by_text text_part.IndexText (ToNumber index_text) index_number q h
to_num-covers other_text q h =
    by_text text_part.OtherText (ToNumber other_text)
    (λ t e. any_number (to_number (primitive.Text t))) q h
to_num-covers any_text q h =
    by_text text_part.Text (ToNumber any_text) (λ t e. any_number (to_number (primitive.Text t))) q
    h

abbrev ToText : Atom → Primitive → Type 0
ToText a q = Covers (to_text_atom a) (Ok (primitive.Text (to_text q)))

pub to_text-covers : (a : Atom) (q : Primitive) → Has q a → ToText a q
to_text-covers (exactly r) q h =
    subst (ToText (exactly r)) (only r q h) (of_primitive_has (primitive.Text (to_text r)))
to_text-covers index q h =
    by_whole number_part.Index (ToText index) (λ z e. number_index_text z ∙ e) q h
to_text-covers other_whole q h =
    by_whole number_part.OtherWhole (ToText other_whole)
    (λ z e. ap not (number_index_text z) ∙ e) q h
to_text-covers whole q h = by_whole number_part.Whole (ToText whole) (λ z e. refl) q h
to_text-covers index_text q h = by_text text_part.IndexText (ToText index_text) (λ t e. e) q h
to_text-covers other_text q h = by_text text_part.OtherText (ToText other_text) (λ t e. e) q h
to_text-covers any_text q h = by_text text_part.Text (ToText any_text) (λ t e. refl) q h

-- ---- arithmetic

-- the operand has the number
abbrev pub Takes : Num → Operand → Type 0
Takes n (Some m) = m ≡ n
Takes NaN None = ⊥
Takes (Whole z) None = Unit {0}

-- a number of an atom is one of its operands'
pub operand-takes : (a : Atom) (n : Num) → Has (primitive.Number n) a → Some_ (Takes n) (operand a)
operand-takes (exactly r) n h =
    subst (λ q. Some_ (Takes n) (operand (exactly q))) (sym (only r (primitive.Number n) h))
    (inl refl)
operand-takes index (Whole z) h = inl tt
operand-takes other_whole (Whole z) h = inl tt
operand-takes whole (Whole z) h = inl tt
operand-takes a NaN h = absurd (false≢true h)
operand-takes a (Whole z) h = absurd (false≢true h)

pub some-flat_map : (n : Num) (xs : List Atom) → Some_ (Has (primitive.Number n)) xs
    → Some_ (Takes n) (flat_map operand xs)
some-flat_map n [] s = elim s [ ]
some-flat_map n (a ∷ as_) (inl h) =
    some-left (Takes n) (operand a) (flat_map operand as_) (operand-takes a n h)
some-flat_map n (a ∷ as_) (inr s) =
    some-right (Takes n) (operand a) (flat_map operand as_) (some-flat_map n as_ s)

operands-take : (a : Atom) (q : Primitive) (n : Num) → Has q a → to_number q ≡ Ok n
    → Some_ (Takes n) (operands a)
operands-take a q n h e =
    let c : Covers (to_num_atom a) (Ok (primitive.Number n)) =
    subst (λ x. Covers (to_num_atom a) (to_primitive primitive.Number x)) e
    (to_num-covers a q h) in
    some-flat_map n (atoms (to_num_atom a).value)
    (atoms-have (to_num_atom a).value (primitive.Number n) c)

pub may_stop : (a : Atom) (q : Primitive) (stop : Stop) → Has q a → to_number q ≡ Err stop
    → IsTrue (to_num_atom a).may_stop
may_stop a q stop h e =
    subst (λ x. Covers (to_num_atom a) (to_primitive primitive.Number x)) e (to_num-covers a q h)

-- NaN gives NaN, and two whole numbers what the class says
pub record IsArithmetic (f : Num → Num → Result Num Stop) (class : Abstracted) : Type 0 where
  pub left_nan : (n : Num) → f NaN n ≡ Ok NaN
  pub right_nan : (m : Num) → f m NaN ≡ Ok NaN
  pub whole : (y z : ℤ) → Covers class (to_primitive primitive.Number (f (Whole y) (Whole z)))

module _ (f : Num → Num → Result Num Stop) (class : Abstracted) (is : IsArithmetic f class) where
  abbrev Combines : Operand → Operand → Num → Num → Type 0
  Combines x y m n = Covers (combine f class x y) (to_primitive primitive.Number (f m n))

  combine-covers : (x y : Operand) (m n : Num) → Takes m x → Takes n y → Combines x y m n
  combine-covers (Some k) (Some l) m n h i =
      subst (λ a. Combines (Some k) (Some l) a n) h
      (subst (Combines (Some k) (Some l) k) i (covers-exact
      (to_primitive primitive.Number (f k l))))
  combine-covers (Some NaN) None m (Whole z) h i =
      subst (λ a. Combines (Some NaN) None a (Whole z)) h
      (subst (λ r. Covers (gives nan_value) (to_primitive primitive.Number r))
      (sym (is.left_nan (Whole z))) refl)
  combine-covers (Some (Whole y)) None m (Whole z) h i =
      subst (λ a. Combines (Some (Whole y)) None a (Whole z)) h (is.whole y z)
  combine-covers None (Some NaN) (Whole y) n h i =
      subst (Combines None (Some NaN) (Whole y)) i
      (subst (λ r. Covers (gives nan_value) (to_primitive primitive.Number r))
      (sym (is.right_nan (Whole y))) refl)
  combine-covers None (Some (Whole z)) (Whole y) n h i =
      subst (Combines None (Some (Whole z)) (Whole y)) i (is.whole y z)
  combine-covers None None (Whole y) (Whole z) h i = is.whole y z
  combine-covers (Some k) None m NaN h i = elim i [ ]
  combine-covers None y NaN n h i = elim h [ ]
  combine-covers None None (Whole y) NaN h i = elim i [ ]

  abbrev stops : Atom → Atom → Abstracted
  stops a b = stops_if ((to_num_atom a).may_stop || (to_num_atom b).may_stop)

  arithmetic_by : (a b : Atom) (q r : Primitive) → Has q a → Has r b → (x y : Result Num Stop)
      → to_number q ≡ x → to_number r ≡ y → Covers (arithmetic f class a b)
      (to_primitive primitive.Number (of_both f x y))
  arithmetic_by a b q r h i (Ok m) (Ok n) d e =
      let whole_result = to_primitive primitive.Number (f m n) in
      covers-right (stops a b) (over_pairs (combine f class) (operands a) (operands b)) whole_result
      (pairs-cover (combine f class) (operands a) (operands b) (Takes m) (Takes n) whole_result
      (λ x y k l. combine-covers x y m n k l) (operands-take a q m h d) (operands-take b r n i e))
  arithmetic_by a b q r h i (Err stop) y d e =
      covers-left (stops a b) (over_pairs (combine f class) (operands a) (operands b)) (Err stop)
      (or_left _ _ (may_stop a q stop h d))
  arithmetic_by a b q r h i (Ok m) (Err stop) d e =
      covers-left (stops a b) (over_pairs (combine f class) (operands a) (operands b)) (Err stop)
      (or_right (to_num_atom a).may_stop _ (may_stop b r stop i e))

  -- an operation on the numbers of two primitives
  pub arithmetic-covers : (a b : Atom) (q r : Primitive) → Has q a → Has r b
      → Covers (arithmetic f class a b) (to_primitive primitive.Number
      (of_both f (to_number q) (to_number r)))
  arithmetic-covers a b q r h i = arithmetic_by a b q r h i (to_number q) (to_number r) refl refl

pub judged-covers : (negative : Bool) (n d : ℕ) → Covers (gives_or_stops whole_value)
    (to_primitive primitive.Number (judged negative n d))
judged-covers negative n d =
    let is_whole : Result Num Stop =
    if n % d == 0 then Ok (Whole (signed negative (n / d))) else Err stops_.Fraction in
    cond_both (nat_lt (max_magnitude * d) n) (Err stops_.Range) is_whole
    (λ x. Covers (gives_or_stops whole_value) (to_primitive primitive.Number x)) (λ _. refl)
    (λ _. cond_both (n % d == 0) (Ok (Whole (signed negative (n / d)))) (Err stops_.Fraction)
    (λ x. Covers (gives_or_stops whole_value) (to_primitive primitive.Number x)) (λ _. refl)
    (λ _. refl))

pub nan_right : (operation : ℤ → ℤ → Result Num Stop) (m : Num)
    → numbers.of_both operation m NaN ≡ Ok NaN
nan_right operation NaN = refl
nan_right operation (Whole z) = refl

pub sub-is : IsArithmetic numbers.sub (gives_or_stops whole_value)
sub-is =
    record {
      left_nan = λ n. refl;
      right_nan = nan_right
          (λ m n. numbers.judged_whole (m -ℤ n));
      whole = λ y z. judged-covers (is_negative (y -ℤ z))
          (unsigned_abs (y -ℤ z)) 1;
    }

-- ---- equality

abbrev pub is_exact : Atom → Bool
is_exact (exactly q) = true
is_exact a = false

pub both_exact-by : {A : Type 0} (P : A → Type 0) (f : Primitive → Primitive → A) (otherwise : A)
    (a b : Atom) → ((q r : Primitive) → a ≡ exactly q → b ≡ exactly r → P (f q r))
    → (is_exact a && is_exact b ≡ false → P otherwise) → P (both_exact f otherwise a b)
both_exact-by P f otherwise (exactly q) (exactly r) g h = g q r refl refl
both_exact-by P f otherwise (exactly q) b g h = h refl
both_exact-by P f otherwise a b g h = h refl

-- a class of numbers has whole numbers alone, and one of texts texts
abbrev is_plain : Primitive → Bool
is_plain (primitive.Number (Whole z)) = false
is_plain (primitive.Text t) = false
is_plain q = true

exact_of : (a : Atom) (q : Primitive) → is_plain q ≡ true → Has q a → is_exact a ≡ true
exact_of (exactly r) q plain h = refl
exact_of index q plain h =
    by_whole number_part.Index (λ r. is_plain r ≡ true → is_exact index ≡ true)
    (λ z e p. p) q h plain
exact_of other_whole q plain h =
    by_whole number_part.OtherWhole (λ r. is_plain r ≡ true → is_exact index ≡ true)
    (λ z e p. p) q h plain
exact_of whole q plain h =
    by_whole number_part.Whole (λ r. is_plain r ≡ true → is_exact index ≡ true)
    (λ z e p. p) q h plain
exact_of index_text q plain h =
    by_text text_part.IndexText (λ r. is_plain r ≡ true → is_exact index ≡ true)
    (λ z e p. p) q h plain
exact_of other_text q plain h =
    by_text text_part.OtherText (λ r. is_plain r ≡ true → is_exact index ≡ true)
    (λ z e p. p) q h plain
exact_of any_text q plain h =
    by_text text_part.Text (λ r. is_plain r ≡ true → is_exact index ≡ true) (λ z e p. p) q h plain

-- ---- where classes meet

abbrev IsClass : NumberPart → Type 0
IsClass (number_part.One z) = ⊥
IsClass n = Unit {0}

is_class : (n : NumberPart) → IsClass (number_class n)
is_class number_part.Nothing = tt
is_class (number_part.One z) =
    cond_both (is_index z) number_part.Index number_part.OtherWhole IsClass (λ _. tt) (λ _. tt)
is_class number_part.Index = tt
is_class number_part.OtherWhole = tt
is_class number_part.Whole = tt

never : (b : Bool) {A : Type 0} → IsTrue b → IsTrue (not b) → A
never true h i = absurd (false≢true i)
never false h i = absurd (false≢true h)

classes_meet : (z : ℤ) (a b : NumberPart) → IsTrue (number_has a z) → IsTrue (number_has b z)
    → IsClass a → IsClass b → IsTrue (numbers_meet a b)
classes_meet z number_part.Nothing b h i c d = absurd (false≢true h)
classes_meet z (number_part.One n) b h i c d = elim c [ ]
classes_meet z number_part.Index number_part.Nothing h i c d = absurd (false≢true i)
classes_meet z number_part.Index (number_part.One n) h i c d = elim d [ ]
classes_meet z number_part.Index number_part.Index h i c d = refl
classes_meet z number_part.Index number_part.OtherWhole h i c d = never (is_index z) h i
classes_meet z number_part.Index number_part.Whole h i c d = refl
classes_meet z number_part.OtherWhole number_part.Nothing h i c d = absurd (false≢true i)
classes_meet z number_part.OtherWhole (number_part.One n) h i c d = elim d [ ]
classes_meet z number_part.OtherWhole number_part.Index h i c d = never (is_index z) i h
classes_meet z number_part.OtherWhole number_part.OtherWhole h i c d = refl
classes_meet z number_part.OtherWhole number_part.Whole h i c d = refl
classes_meet z number_part.Whole number_part.Nothing h i c d = absurd (false≢true i)
classes_meet z number_part.Whole (number_part.One n) h i c d = elim d [ ]
classes_meet z number_part.Whole number_part.Index h i c d = refl
classes_meet z number_part.Whole number_part.OtherWhole h i c d = refl
classes_meet z number_part.Whole number_part.Whole h i c d = refl

numbers_meet-from : (m n : NumberPart) (z : ℤ) → IsTrue (number_has m z) → IsTrue (number_has n z)
    → IsTrue (numbers_meet (number_class m) (number_class n))
numbers_meet-from m n z h i =
    classes_meet z (number_class m) (number_class n) (number_class_has m z h)
    (number_class_has n z i) (is_class m) (is_class n)

abbrev IsTextClass : TextPart → Type 0
IsTextClass (text_part.One t) = ⊥
IsTextClass s = Unit {0}

is_text_class : (s : TextPart) → IsTextClass (text_class s)
is_text_class text_part.Nothing = tt
is_text_class (text_part.One t) =
    cond_both (is_index_text t) text_part.IndexText text_part.OtherText IsTextClass (λ _. tt)
    (λ _. tt)
is_text_class text_part.IndexText = tt
is_text_class text_part.OtherText = tt
is_text_class text_part.Text = tt

text_classes_meet : (t : List ℕ) (a b : TextPart) → IsTrue (text_has a t) → IsTrue (text_has b t)
    → IsTextClass a → IsTextClass b → IsTrue (texts_meet a b)
text_classes_meet t text_part.Nothing b h i c d = absurd (false≢true h)
text_classes_meet t (text_part.One n) b h i c d = elim c [ ]
text_classes_meet t text_part.IndexText text_part.Nothing h i c d = absurd (false≢true i)
text_classes_meet t text_part.IndexText (text_part.One n) h i c d = elim d [ ]
text_classes_meet t text_part.IndexText text_part.IndexText h i c d = refl
text_classes_meet t text_part.IndexText text_part.OtherText h i c d = never (is_index_text t) h i
text_classes_meet t text_part.IndexText text_part.Text h i c d = refl
text_classes_meet t text_part.OtherText text_part.Nothing h i c d = absurd (false≢true i)
text_classes_meet t text_part.OtherText (text_part.One n) h i c d = elim d [ ]
text_classes_meet t text_part.OtherText text_part.IndexText h i c d = never (is_index_text t) i h
text_classes_meet t text_part.OtherText text_part.OtherText h i c d = refl
text_classes_meet t text_part.OtherText text_part.Text h i c d = refl
text_classes_meet t text_part.Text text_part.Nothing h i c d = absurd (false≢true i)
text_classes_meet t text_part.Text (text_part.One n) h i c d = elim d [ ]
text_classes_meet t text_part.Text text_part.IndexText h i c d = refl
text_classes_meet t text_part.Text text_part.OtherText h i c d = refl
text_classes_meet t text_part.Text text_part.Text h i c d = refl

texts_meet-from : (m n : TextPart) (t : List ℕ) → IsTrue (text_has m t) → IsTrue (text_has n t)
    → IsTrue (texts_meet (text_class m) (text_class n))
texts_meet-from m n t h i =
    text_classes_meet t (text_class m) (text_class n) (text_class_has m t h) (text_class_has n t i)
    (is_text_class m) (is_text_class n)

-- ---- equality of atoms

by_exact : (a b : Atom) (q r : Primitive) → is_plain q ≡ true → is_plain r ≡ true → Has q a
    → Has r b → is_exact a && is_exact b ≡ false → ⊥
by_exact a b q r d e h i apart =
    false≢true (sym apart ∙ and_from (is_exact a) (is_exact b) (exact_of a q d h)
    (exact_of b r e i))

-- atoms of which not both are exact meet where they have equal values
meets : (a b : Atom) (q r : Primitive) → Has q a → Has r b → is_exact a && is_exact b ≡ false
    → IsTrue (strict_equal q r) → IsTrue (may_meet a b)
meets a b (primitive.Number (Whole y)) (primitive.Number (Whole z)) h i apart e =
    or_left _ _ (numbers_meet-from (of_atom a).number (of_atom b).number z
    (subst (λ n. IsTrue (number_has (of_atom a).number n)) ((Decides-int_eq y z).0 e) h) i)
meets a b (primitive.Text s) (primitive.Text t) h i apart e =
    or_right (numbers_meet (number_class (of_atom a).number) (number_class (of_atom b).number)) _
    (texts_meet-from (of_atom a).text (of_atom b).text t
    (subst (λ u. IsTrue (text_has (of_atom a).text u)) ((bytes_decides s t).0 e) h) i)
meets a b primitive.Undefined primitive.Undefined h i apart e =
    absurd (by_exact a b primitive.Undefined primitive.Undefined refl refl h i apart)
meets a b primitive.Null primitive.Null h i apart e =
    absurd (by_exact a b primitive.Null primitive.Null refl refl h i apart)
meets a b (primitive.Bool x) (primitive.Bool y) h i apart e =
    absurd (by_exact a b (primitive.Bool x) (primitive.Bool y) refl refl h i apart)
meets a b (primitive.Number NaN) r h i apart e = absurd (nan_unequal r e)
  where
    nan_unequal : (s : Primitive) → IsTrue (strict_equal (primitive.Number NaN) s) → ⊥
    nan_unequal (primitive.Number n) f = false≢true f
    nan_unequal s f = false≢true f
meets a b q r h i apart e = absurd (false≢true e)

pub any_bool : (b : Bool) → Covers both_bools (Ok (primitive.Bool b))
any_bool true = refl
any_bool false = refl

false_covers : (b : Bool) → (IsTrue b → ⊥) → Covers (gives (of_bools false true))
    (Ok (primitive.Bool b))
false_covers true apart = absurd (apart refl)
false_covers false apart = refl

pub strict-covers : (a b : Atom) (q r : Primitive) → Has q a → Has r b
    → Covers (strict_atoms a b) (Ok (primitive.Bool (strict_equal q r)))
strict-covers a b q r h i =
    let Is : Abstracted → Type 0 = λ x. Covers x (Ok (primitive.Bool (strict_equal q r))) in
    let inexact : Abstracted = if may_meet a b then both_bools else gives (of_bools false true) in
    both_exact-by Is (λ s t. gives (of_primitive (primitive.Bool (strict_equal s t)))) inexact a b
    (λ s t d e. both_are s t (only s q (subst (Has q) d h)) (only t r (subst (Has r) e i)))
    (λ apart. cond_both (may_meet a b) both_bools (gives (of_bools false true)) Is
    (λ _. any_bool (strict_equal q r)) (λ ne. false_covers (strict_equal q r)
    (λ e. false≢true (sym ne ∙ meets a b q r h i apart e))))
  where
    both_are : (s t : Primitive) → s ≡ q → t ≡ r
        → Covers (gives (of_primitive (primitive.Bool (strict_equal s t))))
        (Ok (primitive.Bool (strict_equal q r)))
    both_are s t d e =
        subst (λ u. Covers (gives (of_primitive (primitive.Bool (strict_equal s t))))
        (Ok (primitive.Bool (strict_equal u r)))) d
        (subst (λ u. Covers (gives (of_primitive (primitive.Bool (strict_equal s t))))
        (Ok (primitive.Bool (strict_equal s u)))) e
        (of_primitive_has (primitive.Bool (strict_equal s t))))

-- ---- values

-- an operation on atoms that covers the machine's covers it on values
pub unary-covers : (f : Atom → Abstracted) (g : Primitive → Result Primitive Stop)
    → ((a : Atom) (q : Primitive) → Has q a → Covers (f a) (g q))
    → (v : AbstractValue) (q : Primitive) → IsTrue (has_primitive v q)
    → Covers (over f (atoms v)) (g q)
unary-covers f g each v q h =
    over-covers f (atoms v) (Has q) (g q) (λ a i. each a q i) (atoms-have v q h)

pub binary-covers : (f : Atom → Atom → Abstracted)
    (g : Primitive → Primitive → Result Primitive Stop)
    → ((a b : Atom) (q r : Primitive) → Has q a → Has r b → Covers (f a b) (g q r))
    → (v w : AbstractValue) (q r : Primitive) → IsTrue (has_primitive v q)
    → IsTrue (has_primitive w r) → Covers (over_pairs f (atoms v) (atoms w)) (g q r)
binary-covers f g each v w q r h i =
    pairs-cover f (atoms v) (atoms w) (Has q) (Has r) (g q r) (λ a b j k. each a b q r j k)
    (atoms-have v q h) (atoms-have w r i)

-- what a primitive is of has some atom
some-atom : (xs : List Atom) (q : Primitive) → Some_ (Has q) xs → not (length xs == 0) ≡ true
some-atom [] q s = elim s [ ]
some-atom (a ∷ as_) q s = grind arith

pub has_atoms-from : (v : AbstractValue) (q : Primitive) → IsTrue (has_primitive v q)
    → IsTrue (has_atoms v)
has_atoms-from v q h = some-atom (atoms v) q (atoms-have v q h)
