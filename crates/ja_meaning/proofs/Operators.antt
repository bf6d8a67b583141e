-- Operators cover the machine's: on two atoms, on two abstract values, and with objects, by their
-- labels.
use Rattle.std.specs.Prelude.{◌≡◌, ◌&&◌, ◌||◌, ◌+◌, ◌==◌, ◌-ℤ◌, ◌*ℤ◌, not, ℕ, ℤ, Bool, true, false, nat_eq, IsTrue, List, [], ◌∷◌, length, Option, Some, None, IsSome, Result, Ok, Err}
use Rattle.std.specs.Option.{option_map, is_some}
use Rattle.std.proofs.Common.{refl, sym, subst, ap, ◌∙◌, inl, inr, arith}
use Rattle.std.proofs.lemmas.Bool.{or_left, or_right, and_parts, and_from, false≢true, cases_Bool, cond-true, cond-false, false_from_ne_true, true_from_ne_false, eqb-true, eq-eqb, ne_eqb}
use Rattle.std.proofs.lemmas.Option.{same_Some}
use lib.Chars.{codes}
use Rattle.ja_base.specs.declared.ids.Label.{Label}
use Rattle.ja_prim.specs.declared.stop.Stop.{Stop}
use Rattle.ja_prim.specs.declared.primitive.Num.{Num}
use Rattle.ja_prim.specs.declared.primitive.Num.TheVariants.{NaN, Whole}
use Rattle.ja_prim.specs.declared.primitive.Primitive.{Primitive}
use Rattle.ja_prim.specs.declared.primitive.Primitive.TheVariants as primitive
use Rattle.ja_prim.specs.Conversions.{to_bool, to_number, to_text}
use Rattle.ja_prim.specs.Comparison.{strict_equal, loose_equal, less, add, to_primitive}
use Rattle.ja_prim.specs.Arithmetic as numbers
use Rattle.ja_prim.specs.Bits as bits
use Rattle.ja_graph.specs.declared.node.UnaryOp.{UnaryOp}
use Rattle.ja_graph.specs.declared.node.UnaryOp.TheVariants as unary_op
use Rattle.ja_graph.specs.declared.node.BinaryOp.{BinaryOp}
use Rattle.ja_graph.specs.declared.node.BinaryOp.TheVariants as binary_op
use Rattle.ja_graph.specs.declared.program.Class.{Class}
use Rattle.ja_graph.specs.declared.program.Class.TheVariants as class
use Rattle.ja_machine.specs.declared.machine.Addr.{Addr}
use Rattle.ja_machine.specs.declared.machine.Value.{Value}
use Rattle.ja_machine.specs.declared.machine.Value.TheVariants as value
use Rattle.ja_machine.specs.declared.machine.Object.{Object}
use Rattle.ja_machine.specs.declared.machine.Heap.{Heap}
use Rattle.ja_machine.specs.Heap.{count, object_at, class_at, same_address}
use Rattle.ja_machine.specs.Machine.{class_of_site}
use Rattle.ja_machine.specs.State.{IsHeap, IsObjectOf, IsValueOf}
use Rattle.ja_machine.specs.Values.{of_numbers, of_bits, on_primitives, on_primitive, truth_of, type_of_class, is_true, is_false, loose_equal_values, strict_equal_values}
use Rattle.ja_machine.specs.Values as machine
use Rattle.ja_machine.proofs.Heaps
use Rattle.ja_abstract.specs.declared.abstraction.NumberPart.{NumberPart}
use Rattle.ja_abstract.specs.declared.abstraction.NumberPart.TheVariants as number_part
use Rattle.ja_abstract.specs.declared.abstraction.TextPart.{TextPart}
use Rattle.ja_abstract.specs.declared.abstraction.TextPart.TheVariants as text_part
use Rattle.ja_abstract.specs.AbstractValue.{AbstractValue, same_label, join, of_primitive, has_number, has_text}
use Rattle.ja_abstract.specs.Contents.{label_of}
use Rattle.ja_abstract.specs.Parts.{number_has, text_has, has_primitive}
use Rattle.ja_abstract.specs.Resolved.{join_values}
use Rattle.ja_abstract.specs.Primitives.{Atom, atoms, gives, gives_or_stops, to_bool_atom, to_text_atom, to_num_atom, on_operand, of_operand, abstract_unary, abstract_binary, operator, compared, whole_value, nan_value, of_bools, where_true, where_false}
use Rattle.ja_abstract.specs.Reading.{View, some_label}
use Rattle.ja_abstract.specs.Values.{has_atoms, has_labels, value_if, truth, turned, text_if, is_function_class, is_function_label, type_of, may_equal, may_differ, is_equality}
use Rattle.ja_abstract.specs.Values as abstract
use Rattle.ja_abstract.proofs.Parts.{of_primitive_has}
use Rattle.ja_abstract.proofs.Labels.{same_label-true}
use Rattle.ja_abstract.proofs.Joins.{has_primitive-join_left, has_primitive-join_right}
use Rattle.ja_abstract.proofs.Atoms.{Covers, Some_, Has, atoms-have, unary-covers, to_num-covers, to_text-covers, strict-covers}
use Rattle.ja_abstract.proofs.Converted.{Given, Gives, covers-is, gives-is, gives-from, pairs-cover, OfWhole, Any, any, InRange, arithmetic-covers, whole-is, div-is, rem-is, rem-gives, bits-cover, on_operand-covers, to_bool-covers}
use Rattle.ja_abstract.proofs.Compared.{add-covers, compare-covers, loose-covers}
use Rattle.ja_meaning.specs.Meaning.{has_value}
use Rattle.ja_meaning.proofs.Parts.{list_any-label_of}

-- ---- on two atoms

-- what the machine gives of two primitives before it is finished
abbrev pub raw : BinaryOp → Primitive → Primitive → Result Primitive Stop
raw binary_op.Add q r = add q r
raw binary_op.Sub q r = of_numbers numbers.sub q r
raw binary_op.Mul q r = of_numbers numbers.mul q r
raw binary_op.Div q r = of_numbers numbers.div q r
raw binary_op.Rem q r = of_numbers numbers.rem q r
raw binary_op.Shl q r = of_bits bits.shl q r
raw binary_op.Shr q r = of_bits bits.shr q r
raw binary_op.Ushr q r = of_bits bits.ushr q r
raw binary_op.And q r = of_bits bits.and q r
raw binary_op.Or q r = of_bits bits.or q r
raw binary_op.Xor q r = of_bits bits.xor q r
raw binary_op.Lt q r = compared (less q r)
raw binary_op.Ge q r = compared (less q r)
raw binary_op.Gt q r = compared (less r q)
raw binary_op.Le q r = compared (less r q)
raw binary_op.LooseEq q r = to_primitive primitive.Bool (loose_equal q r)
raw binary_op.LooseNe q r = to_primitive primitive.Bool (loose_equal q r)
raw binary_op.StrictEq q r = Ok (primitive.Bool (strict_equal q r))
raw binary_op.StrictNe q r = Ok (primitive.Bool (strict_equal q r))

-- a remainder never stops where both operands are numbers of the profile
abbrev pub FitsIn : BinaryOp → Primitive → Type 0
FitsIn binary_op.Rem q = (m : Num) → to_number q ≡ Ok m → OfWhole InRange m
FitsIn op q = Unit {0}

pub operator-covers : (op : BinaryOp) (a b : Atom) (q r : Primitive) → FitsIn op q → FitsIn op r
    → Has q a → Has r b → Covers (operator op a b) (raw op q r)
operator-covers binary_op.Add a b q r u v h i = add-covers a b q r h i
operator-covers binary_op.Sub a b q r u v h i =
    arithmetic-covers Covers covers-is Any numbers.sub (gives_or_stops whole_value)
    (whole-is (λ m n. m -ℤ n)) a b q r h i (λ m _. any m) (λ n _. any n)
operator-covers binary_op.Mul a b q r u v h i =
    arithmetic-covers Covers covers-is Any numbers.mul (gives_or_stops whole_value)
    (whole-is (λ m n. m *ℤ n)) a b q r h i (λ m _. any m) (λ n _. any n)
operator-covers binary_op.Div a b q r u v h i =
    arithmetic-covers Covers covers-is Any numbers.div
    (gives_or_stops (join nan_value whole_value)) div-is a b q r h i (λ m _. any m) (λ n _. any n)
operator-covers binary_op.Rem a b q r u v h i =
    arithmetic-covers Covers covers-is InRange numbers.rem
    (gives (join nan_value whole_value)) rem-is a b q r h i u v
operator-covers binary_op.Shl a b q r u v h i = bits-cover bits.shl (λ m n. refl) a b q r h i
operator-covers binary_op.Shr a b q r u v h i = bits-cover bits.shr (λ m n. refl) a b q r h i
operator-covers binary_op.Ushr a b q r u v h i = bits-cover bits.ushr (λ m n. refl) a b q r h i
operator-covers binary_op.And a b q r u v h i = bits-cover bits.and (λ m n. refl) a b q r h i
operator-covers binary_op.Or a b q r u v h i = bits-cover bits.or (λ m n. refl) a b q r h i
operator-covers binary_op.Xor a b q r u v h i = bits-cover bits.xor (λ m n. refl) a b q r h i
operator-covers binary_op.Lt a b q r u v h i = compare-covers a b q r h i
operator-covers binary_op.Ge a b q r u v h i = compare-covers a b q r h i
operator-covers binary_op.Gt a b q r u v h i = compare-covers b a r q i h
operator-covers binary_op.Le a b q r u v h i = compare-covers b a r q i h
operator-covers binary_op.LooseEq a b q r u v h i = loose-covers a b q r h i
operator-covers binary_op.LooseNe a b q r u v h i = loose-covers a b q r h i
operator-covers binary_op.StrictEq a b q r u v h i = strict-covers a b q r h i
operator-covers binary_op.StrictNe a b q r u v h i = strict-covers a b q r h i

-- the results are given, whatever the numbers are
pub operator-gives : (op : BinaryOp) (a b : Atom) (q r : Primitive) → Has q a → Has r b
    → Gives (operator op a b) (raw op q r)
operator-gives binary_op.Rem a b q r h i =
    arithmetic-covers Gives gives-is Any numbers.rem
    (gives (join nan_value whole_value)) rem-gives a b q r h i (λ m _. any m) (λ n _. any n)
operator-gives op a b q r h i =
    gives-from (operator op a b) (raw op q r) (operator-covers op a b q r tt tt h i)

-- ---- on two abstract values

pub binary-gives : (op : BinaryOp) (v u : AbstractValue) (q r : Primitive)
    → IsTrue (has_primitive v q) → IsTrue (has_primitive u r)
    → Gives (abstract_binary (operator op) v u) (raw op q r)
binary-gives op v u q r h i =
    pairs-cover Gives gives-is (operator op) (atoms v) (atoms u) (Has q) (Has r) (raw op q r)
    (λ a b j k. operator-gives op a b q r j k) (atoms-have v q h) (atoms-have u r i)

pub binary-all : (op : BinaryOp) (v u : AbstractValue) (q r : Primitive) → FitsIn op q → FitsIn op r
    → IsTrue (has_primitive v q) → IsTrue (has_primitive u r)
    → Covers (abstract_binary (operator op) v u) (raw op q r)
binary-all op v u q r f g h i =
    pairs-cover Covers covers-is (operator op) (atoms v) (atoms u) (Has q) (Has r) (raw op q r)
    (λ a b j k. operator-covers op a b q r f g j k) (atoms-have v q h) (atoms-have u r i)

-- ---- what is made of a comparison

-- a result that the machine gives is one of those that are given
pub told : (v : AbstractValue) (x : Result Primitive Stop) (q : Primitive) → Given v x
    → Some x ≡ Some (Ok q) → IsTrue (has_primitive v q)
told v x q g e = subst (Given v) (same_Some x (Ok q) e) g

true_given : (v : AbstractValue) (x : Result (Option Bool) Stop) → Given v (compared x)
    → Given (where_true v) (machine.compared is_true x)
true_given v (Ok (Some true)) g = g
true_given v (Ok (Some false)) g = or_left v.flags.is_false v.flags.undefined g
true_given v (Ok None) g = or_right v.flags.is_false v.flags.undefined g
true_given v (Err stop) g = tt

false_given : (v : AbstractValue) (x : Result (Option Bool) Stop) → Given v (compared x)
    → Given (where_false v) (machine.compared is_false x)
false_given v (Ok (Some true)) g = or_left v.flags.is_true v.flags.undefined g
false_given v (Ok (Some false)) g = g
false_given v (Ok None) g = or_right v.flags.is_true v.flags.undefined g
false_given v (Err stop) g = tt

turned-has : (v : AbstractValue) (b : Bool) → IsTrue (has_primitive v (primitive.Bool b))
    → IsTrue (has_primitive (turned v) (primitive.Bool (not b)))
turned-has v true e = e
turned-has v false e = e

turned_given : (v : AbstractValue) (x : Result Bool Stop) → Given v (to_primitive primitive.Bool x)
    → Given (turned v) (to_primitive (λ b. primitive.Bool (not b)) x)
turned_given v (Ok b) g = turned-has v b g
turned_given v (Err stop) g = tt

bools-has : (t f b : Bool) → (b ≡ true → IsTrue t) → (b ≡ false → IsTrue f)
    → IsTrue (has_primitive (of_bools t f) (primitive.Bool b))
bools-has t f true for_true for_false = for_true refl
bools-has t f false for_true for_false = for_false refl

value_if-has : (b : Bool) (v : AbstractValue) (q : Primitive) → IsTrue b
    → IsTrue (has_primitive v q) → IsTrue (has_primitive (value_if b v) q)
value_if-has b v q e h = subst (λ u. IsTrue (has_primitive u q)) (sym (cond-true b v _ e)) h

-- ---- parts of a value

some-length : {A : Type 0} (P : A → Type 0) (xs : List A) → Some_ P xs
    → IsTrue (not (length xs == 0))
some-length P [] s = elim s [ ]
some-length P (x ∷ xs) s = ap not (ne_eqb (length (x ∷ xs)) 0 (λ z. absurd (omega arith)))

pub has_atoms-of : (v : AbstractValue) (q : Primitive) → IsTrue (has_primitive v q)
    → IsTrue (has_atoms v)
has_atoms-of v q e = some-length (Has q) (atoms v) (atoms-have v q e)

has_number-of : (n : NumberPart) (z : ℤ) → IsTrue (number_has n z) → IsTrue (has_number n)
has_number-of number_part.Nothing z e = e
has_number-of n z e = refl

has_text-of : (s : TextPart) (t : List ℕ) → IsTrue (text_has s t) → IsTrue (has_text s)
has_text-of text_part.Nothing t e = e
has_text-of s t e = refl

joined : (vs : List AbstractValue) (q : Primitive) → Some_ (λ v. IsTrue (has_primitive v q)) vs
    → IsTrue (has_primitive (join_values vs) q)
joined [] q s = elim s [ ]
joined (v ∷ vs) q (inl h) = has_primitive-join_left v (join_values vs) q h
joined (v ∷ vs) q (inr s) = has_primitive-join_right v (join_values vs) q (joined vs q s)

text_if-has : (b : Bool) (t : List ℕ) → IsTrue b
    → IsTrue (has_primitive (text_if b t) (primitive.Text t))
text_if-has b t e =
    value_if-has b (of_primitive (primitive.Text t)) (primitive.Text t) e
    (of_primitive_has (primitive.Text t))

-- ---- labels

-- two objects of one label that is new are one
new_is_one : (h : Heap) (a b : Addr) → (label_of h a).old ≡ false
    → IsTrue (same_label (label_of h a) (label_of h b)) → IsTrue (same_address a b)
new_is_one h a b new same =
    let (site, old) = and_parts (a.site.0 == b.site.0) _ same in
    let e : a.site.0 ≡ b.site.0 = eqb-true a.site.0 b.site.0 site in
    let labels = same_label-true (label_of h a) (label_of h b) same in
    let last_a : a.ordinal + 1 ≡ count h a.site =
    eqb-true (a.ordinal + 1) (count h a.site)
    (true_from_ne_false (a.ordinal + 1 == count h a.site)
    (λ n. false≢true (sym new ∙ ap not n))) in
    let new_b : (label_of h b).old ≡ false = sym (ap (λ (l : Label). l.old) labels) ∙ new in
    let last_b : b.ordinal + 1 ≡ count h b.site =
    eqb-true (b.ordinal + 1) (count h b.site)
    (true_from_ne_false (b.ordinal + 1 == count h b.site)
    (λ n. false≢true (sym new_b ∙ ap not n))) in
    let counts : count h a.site ≡ count h b.site = ap (λ (l : Label). count h l.site) labels in
    let ordinals : a.ordinal ≡ b.ordinal = omega arith in
    subst IsTrue (sym (cond-true (nat_eq a.site.0 b.site.0)
    (nat_eq a.ordinal b.ordinal) false site)) (eq-eqb a.ordinal b.ordinal ordinals)

-- an object has one label
address_label : (h : Heap) (a b : Addr) → IsTrue (same_address a b) → label_of h a ≡ label_of h b
address_label h a b same =
    elim (cases_Bool (nat_eq a.site.0 b.site.0)) [
      | inl site ↦
          let i : a.ordinal ≡ b.ordinal = eqb-true a.ordinal b.ordinal
          (sym (cond-true (nat_eq a.site.0 b.site.0) (nat_eq a.ordinal b.ordinal) false site)
          ∙ same) in
          let s : a.site.0 ≡ b.site.0 = eqb-true a.site.0 b.site.0 site in
          ap (label_of h) (Heaps.same_address a b s i)
      | inr apart ↦
          absurd (false≢true (sym (cond-false (nat_eq a.site.0 b.site.0)
          (nat_eq a.ordinal b.ordinal) false apart) ∙ same))
    ]

module _ (w : View) (h : Heap) (known : IsHeap w.program h) where
  labels-of : (v : AbstractValue) (a : Addr) → IsObjectOf h a → IsTrue (v.label (label_of h a))
      → IsTrue (has_labels w v)
  labels-of v a there e = list_any-label_of w.program h known a there v.label e

  -- ---- equality of objects

  same_objects : (v u : AbstractValue) (a b : Addr) → IsObjectOf h a
      → IsTrue (v.label (label_of h a)) → IsTrue (u.label (label_of h b))
      → IsTrue (same_address a b) → IsTrue (may_equal w v u)
  same_objects v u a b there e f same =
      list_any-label_of w.program h known a there (λ l. v.label l && u.label l)
      (and_from _ _ e (subst (λ l. IsTrue (u.label l)) (sym (address_label h a b same)) f))

  two_objects : (v u : AbstractValue) (a b : Addr) → IsObjectOf h a → IsObjectOf h b
      → IsTrue (v.label (label_of h a)) → IsTrue (u.label (label_of h b)) → same_address a b ≡ false
      → IsTrue (may_differ w v u)
  two_objects v u a b there two e f apart =
      let apart_by : IsTrue ((label_of h a).old || not (same_label (label_of h a) (label_of h b))) =
      elim (cases_Bool (label_of h a).old) [
        | inl old ↦ or_left (label_of h a).old _ old
        | inr new ↦
            or_right (label_of h a).old _ (ap not (false_from_ne_true
            (same_label (label_of h a) (label_of h b))
            (λ same. false≢true (sym apart ∙ new_is_one h a b new same))))
      ] in
      or_left _ _ (list_any-label_of w.program h known a there
      (λ l. v.label l && some_label w (λ m. u.label m && (l.old || not (same_label l m))))
      (and_from _ _ e (list_any-label_of w.program h known b two
      (λ m. u.label m && ((label_of h a).old || not (same_label (label_of h a) m)))
      (and_from _ _ f apart_by))))

  -- an object and a primitive
  mixed_left : (v u : AbstractValue) (a : Addr) (q : Primitive) → IsObjectOf h a
      → IsTrue (v.label (label_of h a)) → IsTrue (has_primitive u q) → IsTrue (may_differ w v u)
  mixed_left v u a q there e f =
      or_right (some_label w (λ l. v.label l && some_label w
      (λ m. u.label m && (l.old || not (same_label l m))))) _
      (or_left (has_labels w v && has_atoms u) _
      (and_from _ _ (labels-of v a there e) (has_atoms-of u q f)))

  mixed_right : (v u : AbstractValue) (q : Primitive) (b : Addr) → IsObjectOf h b
      → IsTrue (has_primitive v q) → IsTrue (u.label (label_of h b)) → IsTrue (may_differ w v u)
  mixed_right v u q b there e f =
      or_right (some_label w (λ l. v.label l && some_label w
      (λ m. u.label m && (l.old || not (same_label l m))))) _
      (or_right (has_labels w v && has_atoms u) _
      (and_from _ _ (has_atoms-of v q e) (labels-of u b there f)))

  -- two objects are equal where they may be by their labels, and different where they may be
  pub objects_equal : (v u : AbstractValue) (a b : Addr) → IsObjectOf h a → IsObjectOf h b
      → IsTrue (v.label (label_of h a)) → IsTrue (u.label (label_of h b))
      → IsTrue (has_primitive (of_bools (may_equal w v u) (may_differ w v u))
      (primitive.Bool (same_address a b)))
  objects_equal v u a b there two e f =
      bools-has (may_equal w v u) (may_differ w v u) (same_address a b)
      (λ same. same_objects v u a b there e f same)
      (λ apart. two_objects v u a b there two e f apart)

  -- ---- of one value

  truth-object : (v : AbstractValue) (a : Addr) → IsObjectOf h a → IsTrue (v.label (label_of h a))
      → IsTrue (has_primitive (truth w v) (primitive.Bool true))
  truth-object v a there e =
      has_primitive-join_left (value_if (has_labels w v) (of_bools true false))
      (abstract_unary to_bool_atom v).value (primitive.Bool true)
      (value_if-has (has_labels w v) (of_bools true false) (primitive.Bool true)
      (labels-of v a there e) refl)

  pub truth-has : (v : AbstractValue) (u : Value) → IsValueOf h u → IsTrue (has_value h v u)
      → IsTrue (has_primitive (truth w v) (primitive.Bool (truth_of u)))
  truth-has v (value.Primitive q) there e =
      has_primitive-join_right (value_if (has_labels w v) (of_bools true false))
      (abstract_unary to_bool_atom v).value (primitive.Bool (to_bool q))
      (unary-covers to_bool_atom (λ r. Ok (primitive.Bool (to_bool r))) to_bool-covers v q e)
  truth-has v (value.Object a) there e = truth-object v a there e

  -- the texts of `typeof`
  abbrev types : AbstractValue → List AbstractValue
  types v = text_if v.flags.undefined (codes "undefined")
      ∷ text_if v.flags.null (codes "object")
      ∷ text_if (v.flags.is_true || v.flags.is_false) (codes "boolean")
      ∷ text_if (v.flags.nan || has_number v.number) (codes "number")
      ∷ text_if (has_text v.text) (codes "string")
      ∷ text_if (some_label w (λ l. v.label l && is_function_label w.program l)) (codes "function")
      ∷ text_if (some_label w (λ l. v.label l && not (is_function_label w.program l)))
      (codes "object") ∷ []

  abbrev HasType : AbstractValue → List ℕ → Type 0
  HasType v t = IsTrue (has_primitive (type_of w v) (primitive.Text t))

  by_type : (v : AbstractValue) (t : List ℕ) → Some_
      (λ u. IsTrue (has_primitive u (primitive.Text t))) (types v) → HasType v t
  by_type v t s = joined (types v) (primitive.Text t) s

  class_known : (a : Addr) → (o : Option Object) → object_at h a ≡ o → IsSome o
      → class_at h a ≡ Some (class_of_site w.program a.site.0)
  class_known a None is there = absurd (false≢true there)
  class_known a (Some o) is there =
      ap (option_map (λ (q : Object). q.class)) is ∙ ap Some (known.class a o is)

  type_by_class : (v : AbstractValue) (a : Addr) → IsObjectOf h a → IsTrue (v.label (label_of h a))
      → (c : Class) → class_of_site w.program a.site.0 ≡ c → HasType v (type_of_class (Some c))
  type_by_class v a there e class.Function is =
      by_type v (codes "function") (inr (inr (inr
      (inr (inr (inl (text_if-has _ (codes "function")
      (list_any-label_of w.program h known a there (λ l. v.label l && is_function_label w.program l)
      (and_from _ _ e (ap is_function_class is))))))))))
  type_by_class v a there e c is =
      by_type v (codes "object") (inr (inr (inr (inr
      (inr (inr (inl (text_if-has _ (codes "object")
      (list_any-label_of w.program h known a there
      (λ l. v.label l && not (is_function_label w.program l))
      (and_from _ _ e (ap (λ k. not (is_function_class k)) is)))))))))))

  pub type_of-has : (v : AbstractValue) (u : Value) → IsValueOf h u → IsTrue (has_value h v u)
      → HasType v (machine.type_of h u)
  type_of-has v (value.Primitive primitive.Undefined) there e =
      by_type v (codes "undefined") (inl (text_if-has v.flags.undefined (codes "undefined") e))
  type_of-has v (value.Primitive primitive.Null) there e =
      by_type v (codes "object") (inr (inl (text_if-has v.flags.null (codes "object") e)))
  type_of-has v (value.Primitive (primitive.Bool true)) there e =
      by_type v (codes "boolean") (inr (inr (inl
      (text_if-has _ (codes "boolean") (or_left v.flags.is_true v.flags.is_false e)))))
  type_of-has v (value.Primitive (primitive.Bool false)) there e =
      by_type v (codes "boolean") (inr (inr (inl
      (text_if-has _ (codes "boolean") (or_right v.flags.is_true v.flags.is_false e)))))
  type_of-has v (value.Primitive (primitive.Number NaN)) there e =
      by_type v (codes "number") (inr (inr (inr (inl
      (text_if-has _ (codes "number") (or_left v.flags.nan (has_number v.number) e))))))
  type_of-has v (value.Primitive (primitive.Number (Whole z))) there e =
      by_type v (codes "number") (inr (inr (inr (inl
      (text_if-has _ (codes "number") (or_right v.flags.nan (has_number v.number)
      (has_number-of v.number z e)))))))
  type_of-has v (value.Primitive (primitive.Text t)) there e =
      by_type v (codes "string") (inr (inr (inr (inr
      (inl (text_if-has _ (codes "string") (has_text-of v.text t e)))))))
  type_of-has v (value.Object a) there e =
      subst (λ c. HasType v (type_of_class c)) (sym (class_known a (object_at h a) refl there))
      (type_by_class v a there e (class_of_site w.program a.site.0) refl)

  on_primitive-known : (f : Primitive → Result Primitive Stop) (v result : AbstractValue)
      (u : Value) (q : Primitive) → ((r : Primitive) → IsTrue (has_primitive v r)
      → Given result (f r)) → IsTrue (has_value h v u) → on_primitive f u ≡ Some (Ok q)
      → IsTrue (has_primitive result q)
  on_primitive-known f v result (value.Primitive r) q each e is = told result (f r) q (each r e) is
  on_primitive-known f v result (value.Object a) q each e is = absurd (false≢true (ap is_some is))

  -- what the machine gives of a value is one of what the operator gives of an abstract value that
  -- has it
  pub unary-known : (op : UnaryOp) (v : AbstractValue) (u : Value) (q : Primitive) → IsValueOf h u
      → IsTrue (has_value h v u) → machine.unary h op u ≡ Some (Ok q)
      → IsTrue (has_primitive (abstract.unary w op v) q)
  unary-known unary_op.ToNum v u q there e is =
      on_primitive-known (λ r. to_primitive primitive.Number (to_number r)) v
      (abstract_unary to_num_atom v).value u q (λ r i. gives-from (abstract_unary to_num_atom v) _
      (unary-covers to_num_atom (λ s. to_primitive primitive.Number (to_number s))
      (to_num-covers) v r i)) e is
  unary-known unary_op.ToText v u q there e is =
      on_primitive-known (λ r. Ok (primitive.Text (to_text r))) v
      (abstract_unary to_text_atom v).value u q (λ r i. unary-covers to_text_atom
      (λ s. Ok (primitive.Text (to_text s))) (to_text-covers) v r i) e is
  unary-known unary_op.Neg v u q there e is =
      on_primitive-known (machine.of_number numbers.neg) v
      (abstract_unary (on_operand (of_operand numbers.neg)) v).value u q
      (λ r i. gives-from (abstract_unary (on_operand (of_operand numbers.neg)) v) _
      (unary-covers (on_operand (of_operand numbers.neg)) (machine.of_number numbers.neg)
      (on_operand-covers numbers.neg (λ z. refl)) v r i)) e is
  unary-known unary_op.BitNot v u q there e is =
      on_primitive-known (machine.of_number bits.not) v
      (abstract_unary (on_operand (of_operand bits.not)) v).value u q
      (λ r i. gives-from (abstract_unary (on_operand (of_operand bits.not)) v) _
      (unary-covers (on_operand (of_operand bits.not)) (machine.of_number bits.not)
      (on_operand-covers bits.not (λ z. refl)) v r i)) e is
  unary-known unary_op.ToBool v u q there e is =
      told (truth w v) (Ok (primitive.Bool (truth_of u))) q (truth-has v u there e) is
  unary-known unary_op.Not v u q there e is =
      told (turned (truth w v)) (Ok (primitive.Bool (not (truth_of u)))) q
      (turned-has (truth w v) (truth_of u) (truth-has v u there e)) is
  unary-known unary_op.TypeOf v u q there e is =
      told (type_of w v) (Ok (primitive.Text (machine.type_of h u))) q (type_of-has v u there e) is

  -- ---- of two values

  abbrev before : BinaryOp → AbstractValue → AbstractValue → AbstractValue
  before op v u =
      join (value_if (is_equality op) (of_bools (may_equal w v u) (may_differ w v u)))
      (abstract_binary (operator op) v u).value

  before-given : (op : BinaryOp) (v u : AbstractValue) (q r : Primitive)
      → IsTrue (has_primitive v q) → IsTrue (has_primitive u r) → Given (before op v u) (raw op q r)
  before-given op v u q r h i =
      gives-is.right (gives (value_if (is_equality op)
      (of_bools (may_equal w v u) (may_differ w v u)))) (abstract_binary (operator op) v u)
      (raw op q r) (binary-gives op v u q r h i)

  on_primitives-known : (f : Primitive → Primitive → Result Primitive Stop)
      (v u result : AbstractValue) (x y : Value) (z : Primitive)
      → ((q r : Primitive) → IsTrue (has_primitive v q) → IsTrue (has_primitive u r)
      → Given result (f q r)) → IsTrue (has_value h v x) → IsTrue (has_value h u y)
      → on_primitives f x y ≡ Some (Ok z) → IsTrue (has_primitive result z)
  on_primitives-known f v u result (value.Primitive q) (value.Primitive r) z each d e is =
      told result (f q r) z (each q r d e) is
  on_primitives-known f v u result (value.Primitive q) (value.Object b) z each d e is =
      absurd (false≢true (ap is_some is))
  on_primitives-known f v u result (value.Object a) y z each d e is =
      absurd (false≢true (ap is_some is))

  -- equality, of objects too
  bools_given : (op : BinaryOp) (v u : AbstractValue) (b : Bool) → is_equality op ≡ true
      → IsTrue (has_primitive (of_bools (may_equal w v u) (may_differ w v u)) (primitive.Bool b))
      → IsTrue (has_primitive (before op v u) (primitive.Bool b))
  bools_given op v u b equality e =
      has_primitive-join_left (value_if (is_equality op)
      (of_bools (may_equal w v u) (may_differ w v u))) (abstract_binary (operator op) v u).value
      (primitive.Bool b) (value_if-has (is_equality op)
      (of_bools (may_equal w v u) (may_differ w v u)) (primitive.Bool b) equality e)

  strict-given : (op : BinaryOp) (v u : AbstractValue) (x y : Value)
      → ((q r : Primitive) → raw op q r ≡ Ok (primitive.Bool (strict_equal q r)))
      → is_equality op ≡ true → IsValueOf h x → IsValueOf h y → IsTrue (has_value h v x)
      → IsTrue (has_value h u y) → IsTrue (has_primitive (before op v u)
      (primitive.Bool (strict_equal_values x y)))
  strict-given op v u (value.Primitive q) (value.Primitive r) is equality there two d e =
      subst (Given (before op v u)) (is q r) (before-given op v u q r d e)
  strict-given op v u (value.Primitive q) (value.Object b) is equality there two d e =
      bools_given op v u false equality (mixed_right v u q b two d e)
  strict-given op v u (value.Object a) (value.Primitive r) is equality there two d e =
      bools_given op v u false equality (mixed_left v u a r there d e)
  strict-given op v u (value.Object a) (value.Object b) is equality there two d e =
      bools_given op v u (same_address a b) equality (objects_equal v u a b there two d e)

  loose-given : (op : BinaryOp) (v u : AbstractValue) (x y : Value)
      → ((q r : Primitive) → raw op q r ≡ to_primitive primitive.Bool (loose_equal q r))
      → is_equality op ≡ true → IsValueOf h x → IsValueOf h y → IsTrue (has_value h v x)
      → IsTrue (has_value h u y) → Given (before op v u)
      (to_primitive primitive.Bool (loose_equal_values x y))
  loose-given op v u (value.Primitive q) (value.Primitive r) is equality there two d e =
      subst (Given (before op v u)) (is q r) (before-given op v u q r d e)
  loose-given op v u (value.Primitive q) (value.Object b) is equality there two d e =
      bools_given op v u false equality (mixed_right v u q b two d e)
  loose-given op v u (value.Object a) (value.Primitive r) is equality there two d e =
      bools_given op v u false equality (mixed_left v u a r there d e)
  loose-given op v u (value.Object a) (value.Object b) is equality there two d e =
      bools_given op v u (same_address a b) equality (objects_equal v u a b there two d e)

  pub binary-known : (op : BinaryOp) (v u : AbstractValue) (x y : Value) (z : Primitive)
      → IsValueOf h x → IsValueOf h y → IsTrue (has_value h v x) → IsTrue (has_value h u y)
      → machine.binary op x y ≡ Some (Ok z) → IsTrue (has_primitive (abstract.binary w op v u) z)
  binary-known binary_op.Lt v u x y z there two d e is =
      on_primitives-known (λ q r. machine.compared is_true (less q r)) v u
      (abstract.binary w binary_op.Lt v u) x y z
      (λ q r h i. true_given (before binary_op.Lt v u) (less q r)
      (before-given binary_op.Lt v u q r h i)) d e is
  binary-known binary_op.Gt v u x y z there two d e is =
      on_primitives-known (λ q r. machine.compared is_true (less r q)) v u
      (abstract.binary w binary_op.Gt v u) x y z
      (λ q r h i. true_given (before binary_op.Gt v u) (less r q)
      (before-given binary_op.Gt v u q r h i)) d e is
  binary-known binary_op.Le v u x y z there two d e is =
      on_primitives-known (λ q r. machine.compared is_false (less r q)) v u
      (abstract.binary w binary_op.Le v u) x y z
      (λ q r h i. false_given (before binary_op.Le v u) (less r q)
      (before-given binary_op.Le v u q r h i)) d e is
  binary-known binary_op.Ge v u x y z there two d e is =
      on_primitives-known (λ q r. machine.compared is_false (less q r)) v u
      (abstract.binary w binary_op.Ge v u) x y z
      (λ q r h i. false_given (before binary_op.Ge v u) (less q r)
      (before-given binary_op.Ge v u q r h i)) d e is
  binary-known binary_op.LooseEq v u x y z there two d e is =
      told (before binary_op.LooseEq v u) (to_primitive primitive.Bool (loose_equal_values x y)) z
      (loose-given binary_op.LooseEq v u x y (λ q r. refl) refl there two d e) is
  binary-known binary_op.LooseNe v u x y z there two d e is =
      told (turned (before binary_op.LooseNe v u))
      (to_primitive (λ b. primitive.Bool (not b)) (loose_equal_values x y)) z
      (turned_given (before binary_op.LooseNe v u) (loose_equal_values x y)
      (loose-given binary_op.LooseNe v u x y (λ q r. refl) refl there two d e)) is
  binary-known binary_op.StrictEq v u x y z there two d e is =
      told (before binary_op.StrictEq v u) (Ok (primitive.Bool (strict_equal_values x y))) z
      (strict-given binary_op.StrictEq v u x y (λ q r. refl) refl there two d e) is
  binary-known binary_op.StrictNe v u x y z there two d e is =
      told (turned (before binary_op.StrictNe v u))
      (Ok (primitive.Bool (not (strict_equal_values x y)))) z
      (turned-has (before binary_op.StrictNe v u) (strict_equal_values x y)
      (strict-given binary_op.StrictNe v u x y (λ q r. refl) refl there two d e)) is
  binary-known op v u x y z there two d e is =
      on_primitives-known (raw op) v u (abstract.binary w op v u) x y z
      (λ q r h i. before-given op v u q r h i) d e is
