-- What operators give is a value of a register of a program: it has no part of a property, and of
-- labels those of the program alone.
use Rattle.std.specs.Prelude.{pos, ◌≡◌, ◌||◌, not, ◌&&◌, ◌==◌, if◌then◌else◌, ℕ, Bool, true, false, List, [], ◌∷◌, map, Some, None, IsTrue, Result, Ok, Err}
use Rattle.std.specs.List.{AllByRecursion}
use Rattle.std.proofs.Common.{refl, ap, subst, ◌∙◌, inl, inr}
use Rattle.std.proofs.lemmas.Bool.{cond_both, and_parts, eqb-true, false≢true, or_cases}
use lib.Chars.{codes}
use Rattle.ja_base.specs.declared.ids.Label.{Label}
use Rattle.ja_base.specs.declared.ids.Site.{Site}
use Rattle.ja_prim.specs.declared.primitive.Num.{Num}
use Rattle.ja_prim.specs.declared.primitive.Num.TheVariants.{NaN, Whole}
use Rattle.ja_prim.specs.declared.primitive.Primitive.{Primitive}
use Rattle.ja_prim.specs.declared.primitive.Primitive.TheVariants as primitive
use Rattle.ja_prim.specs.declared.signature.Kinds.{Kinds}
use Rattle.ja_prim.specs.declared.stop.Stop.{Stop}
use Rattle.ja_prim.specs.Arithmetic as numbers
use Rattle.ja_prim.specs.Bits as bits
use Rattle.ja_prim.specs.Conversions.{to_bool, to_number, to_text}
use Rattle.ja_prim.specs.Comparison.{less, add, strict_equal, loose_equal, to_primitive}
use Rattle.ja_graph.specs.declared.node.BinaryOp.{BinaryOp}
use Rattle.ja_graph.specs.declared.node.BinaryOp.TheVariants as binary_op
use Rattle.ja_graph.specs.declared.node.UnaryOp.{UnaryOp}
use Rattle.ja_graph.specs.declared.node.UnaryOp.TheVariants as unary_op
use Rattle.ja_graph.specs.declared.program.Program.{Program}
use Rattle.ja_abstract.specs.declared.abstraction.Key.{Key}
use Rattle.ja_abstract.specs.declared.abstraction.Key.TheVariants as key
use Rattle.ja_abstract.specs.declared.abstraction.Mask.{Mask}
use Rattle.ja_abstract.specs.declared.abstraction.NumberPart.{NumberPart}
use Rattle.ja_abstract.specs.declared.abstraction.NumberPart.TheVariants as number_part
use Rattle.ja_abstract.specs.declared.abstraction.TextPart.{TextPart}
use Rattle.ja_abstract.specs.AbstractValue.{Labels, AbstractValue, join, no_labels, no_value, same_label, of_label, of_labels, of_primitive, undefined_value, null_value, has_number, has_text}
use Rattle.ja_abstract.specs.AbstractState.{aged, is_label, new, old}
use Rattle.ja_abstract.specs.Composed.{renamed_value}
use Rattle.ja_abstract.specs.Resolved.{join_values, renamed_labels}
use Rattle.ja_abstract.specs.Primitives.{Atom, exactly, index, other_whole, whole, index_text, other_text, any_text, Abstracted, Operand, abstract_unary, abstract_binary, add_atoms, arithmetic, atoms, both_bools, both_exact, combine, combine_bits, compare_atoms, compare_operands, compared, exact, finished, gives, index_or_whole, is_nan, is_nothing_atom, is_text_atom, kind_of, loose_atoms, loose_inexact, may_meet, nan_value, of_atom, of_bools, of_number_part, of_operand, of_text_part, on_converted, on_operand, on_operands, operands, operator, over, over_pairs, same_kind, strict_atoms, to_bool_atom, to_num_atom, to_text_atom, to_uint32, whole_value}
use Rattle.ja_abstract.specs.Made.{whole_constant}
use Rattle.ja_abstract.specs.Reading.{View, some_label, key_value, names_shown}
use Rattle.ja_abstract.specs.Values.{as_read, binary, has_labels, is_equality, primitives_of, is_function_label, text_if, truth, type_of, unary, value_if}
use Rattle.ja_abstract.specs.Keys.{text_keys}
use Rattle.ja_abstract.proofs.Labels.{same_label-true}
use Rattle.ja_rows.specs.BuiltIns.{device_value}
use Rattle.ja_cert_laws.specs.Back.{IsOfRegister}

-- ---- labels

-- labels of a program
abbrev pub AreLabels : Program → Labels → Type 0
AreLabels p set = (l : Label) → IsTrue (set l) → IsTrue (is_label p l)

-- a value of a register of a program
pub record IsRegisterIn (p : Program) (v : AbstractValue) : Type 0 where
  pub plain : IsOfRegister v
  pub labels : AreLabels p v.label

module _ (p : Program) where
  pub no_objects : AreLabels p no_labels
  no_objects l h = absurd (false≢true h)

  pub one_object : (m : Label) → IsTrue (is_label p m) → AreLabels p (same_label m)
  one_object m of_program l h =
      subst (λ k. IsTrue (is_label p k)) (same_label-true m l h) of_program

  pub joined_objects : (a b : Labels) → AreLabels p a → AreLabels p b
      → AreLabels p (λ l. a l || b l)
  joined_objects a b f g l h = elim (or_cases (a l) (b l) h) [ inl i ↦ f l i | inr i ↦ g l i ]

  -- some of the labels
  pub left_objects : (a : Labels) (test : Labels) → AreLabels p a
      → AreLabels p (λ l. a l && test l)
  left_objects a test f l h = f l (and_parts (a l) (test l) h).0

  pub right_objects : (test : Labels) (a : Labels) → AreLabels p a
      → AreLabels p (λ l. test l && a l)
  right_objects test a f l h = f l (and_parts (test l) (a l) h).1

  -- a label has a label of its site beside it
  pub aged_objects : (s : Site) (v : AbstractValue) → AreLabels p v.label
      → AreLabels p (aged s v).label
  aged_objects s v f l = by (l.site.0 == s.0) refl
    where
      either : (b : Bool) → l.site.0 ≡ s.0 → IsTrue (b && (v.label (old s) || v.label (new s)))
          → IsTrue (is_label p l)
      either b same h =
          let at : IsTrue (is_label p (new s)) = elim (or_cases (v.label (old s)) (v.label (new s))
          (and_parts b _ h).1) [ inl i ↦ f (old s) i | inr i ↦ f (new s) i ] in
          ap (λ n. is_label p (record { site = record { 0 = n }; old = false })) same ∙ at

      by : (b : Bool) → (l.site.0 == s.0) ≡ b
          → IsTrue (if b then l.old && (v.label (old s) || v.label (new s)) else v.label l)
          → IsTrue (is_label p l)
      by true e h = either l.old (eqb-true l.site.0 s.0 e) h
      by false e h = f l h

  pub renamed_objects : (mask : ℕ → Mask) (set : Labels) → AreLabels p set
      → AreLabels p (renamed_labels mask set)
  renamed_objects mask set f l =
      by l.old (mask l.site.0).some (mask l.site.0).none
    where
      by : (o x y : Bool) → IsTrue
          (if o then set (old l.site) || (set (new l.site) && x) else set (new l.site) && y)
          → IsTrue (is_label p l)
      by true x y h =
          elim (or_cases (set (old l.site)) (set (new l.site) && x) h) [
            | inl i ↦ f (old l.site) i
            | inr i ↦ f (new l.site) (and_parts (set (new l.site)) x i).0
          ]
      by false x y h = f (new l.site) (and_parts (set (new l.site)) y h).0

  -- ---- parts

  register : {v : AbstractValue} → v.flags.absent ≡ false → v.flags.entry ≡ false
      → v.flags.row ≡ false → AreLabels p v.label → IsRegisterIn p v
  register absent entry row f =
      record { plain = record { absent = absent; entry = entry; row = row }; labels = f }

  pub of_nothing : IsRegisterIn p no_value
  of_nothing = register refl refl refl no_objects

  pub of_undefined : IsRegisterIn p undefined_value
  of_undefined = register refl refl refl no_objects

  pub of_null : IsRegisterIn p null_value
  of_null = register refl refl refl no_objects

  pub of_number : (n : NumberPart) → IsRegisterIn p (of_number_part n)
  of_number n = register refl refl refl no_objects

  pub of_text : (t : TextPart) → IsRegisterIn p (of_text_part t)
  of_text t = register refl refl refl no_objects

  pub of_one_label : (l : Label) → IsTrue (is_label p l) → IsRegisterIn p (of_label l)
  of_one_label l of_program = register refl refl refl (one_object l of_program)

  pub of_some_labels : (set : Labels) → AreLabels p set → IsRegisterIn p (of_labels set)
  of_some_labels set f = register refl refl refl f

  pub of_truths : (t f : Bool) → IsRegisterIn p (of_bools t f)
  of_truths t f = register refl refl refl no_objects

  pub of_one_primitive : (q : Primitive) → IsRegisterIn p (of_primitive q)
  of_one_primitive primitive.Undefined = of_undefined
  of_one_primitive primitive.Null = of_null
  of_one_primitive (primitive.Bool true) = register refl refl refl no_objects
  of_one_primitive (primitive.Bool false) = register refl refl refl no_objects
  of_one_primitive (primitive.Number NaN) = register refl refl refl no_objects
  of_one_primitive (primitive.Number (Whole n)) = register refl refl refl no_objects
  of_one_primitive (primitive.Text t) = register refl refl refl no_objects

  pub of_constant : (n : ℕ) → IsRegisterIn p (whole_constant n)
  of_constant n = register refl refl refl no_objects

  pub of_device : (k : Kinds) → IsRegisterIn p (device_value k)
  of_device k = register refl refl refl no_objects

  pub of_read : (v : AbstractValue) → AreLabels p v.label → IsRegisterIn p (as_read v)
  of_read v f = register refl refl refl f

  pub of_primitives : (v : AbstractValue) → IsRegisterIn p (primitives_of v)
  of_primitives v = register refl refl refl no_objects

  pub of_aged : (s : Site) (v : AbstractValue) → IsRegisterIn p v → IsRegisterIn p (aged s v)
  of_aged s v f =
      register f.plain.absent f.plain.entry f.plain.row (aged_objects s v f.labels)

  pub of_renamed : (mask : ℕ → Mask) (v : AbstractValue) → IsRegisterIn p v
      → IsRegisterIn p (renamed_value mask v)
  of_renamed mask v f =
      register f.plain.absent f.plain.entry f.plain.row (renamed_objects mask v.label f.labels)

  of_nan : IsRegisterIn p nan_value
  of_nan = of_one_primitive (primitive.Number NaN)

  -- ---- joins

  neither : (a b : Bool) → a ≡ false → b ≡ false → (a || b) ≡ false
  neither a b f g = ap (λ c. c || b) f ∙ g

  pub of_join : (v w : AbstractValue) → IsRegisterIn p v → IsRegisterIn p w
      → IsRegisterIn p (join v w)
  of_join v w f g = record {
    plain = record {
      absent = neither v.flags.absent w.flags.absent f.plain.absent g.plain.absent;
      entry = neither v.flags.entry w.flags.entry f.plain.entry g.plain.entry;
      row = neither v.flags.row w.flags.row f.plain.row g.plain.row;
    };
    labels = joined_objects v.label w.label f.labels g.labels;
  }

  pub of_values : (vs : List AbstractValue) → AllByRecursion (IsRegisterIn p) vs
      → IsRegisterIn p (join_values vs)
  of_values [] all = of_nothing
  of_values (v ∷ vs) all = of_join v (join_values vs) all.0 (of_values vs all.1)

  pub of_each : {X : Type 0} (f : X → AbstractValue) → ((x : X) → IsRegisterIn p (f x))
      → (xs : List X) → IsRegisterIn p (join_values (map f xs))
  of_each f each [] = of_nothing
  of_each f each (x ∷ xs) = of_join (f x) (join_values (map f xs)) (each x) (of_each f each xs)

  pub of_one_if : (b : Bool) (v : AbstractValue) → IsRegisterIn p v → IsRegisterIn p (value_if b v)
  of_one_if b v f = cond_both b v no_value (IsRegisterIn p) (λ _. f) (λ _. of_nothing)

  -- ---- what operations on atoms give

  abbrev pub Gives : Abstracted → Type 0
  Gives r = IsRegisterIn p r.value

  pub over_gives : {A : Type 0} (f : A → Abstracted) → ((x : A) → Gives (f x)) → (xs : List A)
      → Gives (over f xs)
  over_gives f each [] = of_nothing
  over_gives f each (x ∷ xs) = of_join (f x).value (over f xs).value (each x) (over_gives f each xs)

  pub pairs_give : {A : Type 0} (f : A → A → Abstracted) → ((x y : A) → Gives (f x y))
      → (xs ys : List A) → Gives (over_pairs f xs ys)
  pairs_give f each xs ys = over_gives (λ x. over (f x) ys) (λ x. over_gives (f x) (each x) ys) xs

  exact_gives : (r : Result Primitive Stop) → Gives (exact r)
  exact_gives (Ok q) = of_one_primitive q
  exact_gives (Err stop) = of_nothing

  exact_both : (f : Primitive → Primitive → Abstracted) (otherwise : Abstracted)
      → ((q r : Primitive) → Gives (f q r)) → Gives otherwise → (a b : Atom)
      → Gives (both_exact f otherwise a b)
  exact_both f otherwise each g (exactly q) (exactly r) = each q r
  exact_both f otherwise each g (exactly q) b = g
  exact_both f otherwise each g a b = g

  of_one_atom : (a : Atom) → IsRegisterIn p (of_atom a)
  of_one_atom (exactly q) = of_one_primitive q
  of_one_atom index = of_number _
  of_one_atom other_whole = of_number _
  of_one_atom whole = of_number _
  of_one_atom index_text = of_text _
  of_one_atom other_text = of_text _
  of_one_atom any_text = of_text _

  nan_or_whole : IsRegisterIn p (join nan_value whole_value)
  nan_or_whole = of_join nan_value whole_value of_nan (of_number number_part.Whole)

  bool_gives : (a : Atom) → Gives (to_bool_atom a)
  bool_gives (exactly q) = of_one_primitive (primitive.Bool (to_bool q))
  bool_gives a = of_truths _ _

  num_gives : (a : Atom) → Gives (to_num_atom a)
  num_gives (exactly q) = exact_gives (to_primitive primitive.Number (to_number q))
  num_gives index_text = of_number _
  num_gives other_text = nan_or_whole
  num_gives any_text = nan_or_whole
  num_gives a = of_one_atom a

  text_gives : (a : Atom) → Gives (to_text_atom a)
  text_gives (exactly q) = of_one_primitive (primitive.Text (to_text q))
  text_gives index = of_text _
  text_gives other_whole = of_text _
  text_gives whole = of_text _
  text_gives a = of_one_atom a

  combine_gives : (f : Num → Num → Result Num Stop) (class : Abstracted) → Gives class
      → (x y : Operand) → Gives (combine f class x y)
  combine_gives f class g (Some m) (Some n) = exact_gives (to_primitive primitive.Number (f m n))
  combine_gives f class g x y =
      cond_both (is_nan x || is_nan y) (gives nan_value) class Gives (λ _. of_nan)
      (λ _. g)

  on_operands_give : (f : Operand → Operand → Abstracted) → ((x y : Operand) → Gives (f x y))
      → (a b : Atom) → Gives (on_operands f a b)
  on_operands_give f each a b =
      of_join no_value (over_pairs f (operands a) (operands b)).value of_nothing
      (pairs_give f each (operands a) (operands b))

  arithmetic_gives : (f : Num → Num → Result Num Stop) (class : Abstracted) → Gives class
      → (a b : Atom) → Gives (arithmetic f class a b)
  arithmetic_gives f class g = on_operands_give (combine f class) (combine_gives f class g)

  bits_give : (f : Num → Num → Num) (x y : Operand) → Gives (combine_bits f x y)
  bits_give f (Some m) (Some n) = of_one_primitive (primitive.Number (f m n))
  bits_give f x y = of_number _

  operand_gives : (f : Num → Num) (x : Operand) → Gives (of_operand f x)
  operand_gives f (Some n) = of_one_primitive (primitive.Number (f n))
  operand_gives f None = of_number _

  on_operand_gives : (f : Operand → Abstracted) → ((x : Operand) → Gives (f x)) → (a : Atom)
      → Gives (on_operand f a)
  on_operand_gives f each a =
      of_join no_value (over f (operands a)).value of_nothing (over_gives f each (operands a))

  add_gives : (a b : Atom) → Gives (add_atoms a b)
  add_gives a b =
      exact_both (λ q r. exact (add q r)) _ (λ q r. exact_gives (add q r))
      (cond_both (is_text_atom a || is_text_atom b) _ _ Gives (λ _. of_text _)
      (λ _. arithmetic_gives numbers.add _ (of_number _) a b)) a b

  compare_operands_gives : (x y : Operand) → Gives (compare_operands x y)
  compare_operands_gives (Some m) (Some n) =
      exact_gives (compared (less (primitive.Number m) (primitive.Number n)))
  compare_operands_gives x y =
      cond_both (is_nan x || is_nan y) (gives undefined_value) both_bools Gives (λ _. of_undefined)
      (λ _. of_truths true true)

  compare_gives : (a b : Atom) → Gives (compare_atoms a b)
  compare_gives a b =
      exact_both (λ q r. exact (compared (less q r))) _ (λ q r. exact_gives (compared (less q r)))
      (cond_both (is_text_atom a && is_text_atom b) both_bools _ Gives (λ _. of_truths true true)
      (λ _. on_operands_give compare_operands compare_operands_gives a b)) a b

  strict_gives : (a b : Atom) → Gives (strict_atoms a b)
  strict_gives a b =
      exact_both (λ q r. gives (of_primitive (primitive.Bool (strict_equal q r)))) _
      (λ q r. of_one_primitive (primitive.Bool (strict_equal q r)))
      (cond_both (may_meet a b) both_bools (gives (of_bools false true)) Gives
      (λ _. of_truths true true) (λ _. of_truths false true)) a b

  loose_inexact_gives : (a b : Atom) → Gives (loose_inexact a b)
  loose_inexact_gives a b =
      cond_both (is_nothing_atom a || is_nothing_atom b) (gives (of_bools false true)) _ Gives
      (λ _. of_truths false true) (λ _. cond_both (same_kind (kind_of a) (kind_of b))
      (strict_atoms a b) (on_converted strict_atoms a b) Gives (λ _. strict_gives a b)
      (λ _. of_join no_value _ of_nothing (pairs_give strict_atoms strict_gives
      (atoms (to_num_atom a).value) (atoms (to_num_atom b).value))))

  loose_gives : (a b : Atom) → Gives (loose_atoms a b)
  loose_gives a b =
      exact_both (λ q r. exact (to_primitive primitive.Bool (loose_equal q r))) _
      (λ q r. exact_gives (to_primitive primitive.Bool (loose_equal q r)))
      (loose_inexact_gives a b) a b

  operator_gives : (op : BinaryOp) (a b : Atom) → Gives (operator op a b)
  operator_gives binary_op.Add a b = add_gives a b
  operator_gives binary_op.Sub a b = arithmetic_gives numbers.sub _ (of_number _) a b
  operator_gives binary_op.Mul a b = arithmetic_gives numbers.mul _ (of_number _) a b
  operator_gives binary_op.Div a b = arithmetic_gives numbers.div _ nan_or_whole a b
  operator_gives binary_op.Rem a b = arithmetic_gives numbers.rem _ nan_or_whole a b
  operator_gives binary_op.Shl a b = on_operands_give _ (bits_give bits.shl) a b
  operator_gives binary_op.Shr a b = on_operands_give _ (bits_give bits.shr) a b
  operator_gives binary_op.Ushr a b = on_operands_give _ (bits_give bits.ushr) a b
  operator_gives binary_op.And a b = on_operands_give _ (bits_give bits.and) a b
  operator_gives binary_op.Or a b = on_operands_give _ (bits_give bits.or) a b
  operator_gives binary_op.Xor a b = on_operands_give _ (bits_give bits.xor) a b
  operator_gives binary_op.Lt a b = compare_gives a b
  operator_gives binary_op.Ge a b = compare_gives a b
  operator_gives binary_op.Gt a b = compare_gives b a
  operator_gives binary_op.Le a b = compare_gives b a
  operator_gives binary_op.LooseEq a b = loose_gives a b
  operator_gives binary_op.LooseNe a b = loose_gives a b
  operator_gives binary_op.StrictEq a b = strict_gives a b
  operator_gives binary_op.StrictNe a b = strict_gives a b

  of_finished : (op : BinaryOp) (v : AbstractValue) → IsRegisterIn p v
      → IsRegisterIn p (finished op v)
  of_finished binary_op.Lt v f = of_truths _ _
  of_finished binary_op.Gt v f = of_truths _ _
  of_finished binary_op.Le v f = of_truths _ _
  of_finished binary_op.Ge v f = of_truths _ _
  of_finished binary_op.LooseNe v f = of_truths _ _
  of_finished binary_op.StrictNe v f = of_truths _ _
  of_finished op v f = f

  pub of_uint32 : (v : AbstractValue) → IsRegisterIn p (to_uint32 v).value
  of_uint32 v = over_gives index_or_whole by (atoms v)
    where
      by : (a : Atom) → Gives (index_or_whole a)
      by (exactly (primitive.Number n)) =
          of_one_primitive (primitive.Number (Whole (pos (bits.to_uint32 n))))
      by index = of_number number_part.Index
      by a = of_number number_part.Whole

  -- ---- the operators

  of_truth : (w : View) (v : AbstractValue) → IsRegisterIn p (truth w v)
  of_truth w v =
      of_join (value_if (has_labels w v) (of_bools true false))
      (abstract_unary to_bool_atom v).value (of_one_if (has_labels w v) _ (of_truths true false))
      (over_gives to_bool_atom bool_gives (atoms v))

  of_text_if : (b : Bool) (t : List ℕ) → IsRegisterIn p (text_if b t)
  of_text_if b t =
      of_one_if b (of_primitive (primitive.Text t)) (of_one_primitive (primitive.Text t))

  of_type : (w : View) (v : AbstractValue) → IsRegisterIn p (type_of w v)
  of_type w v =
      of_join (text_if v.flags.undefined (codes "undefined")) _ (of_text_if v.flags.undefined _)
      (of_join (text_if v.flags.null (codes "object")) _ (of_text_if v.flags.null _)
      (of_join (text_if is_boolean (codes "boolean")) _ (of_text_if is_boolean _)
      (of_join (text_if is_number (codes "number")) _ (of_text_if is_number _)
      (of_join (text_if (has_text v.text) (codes "string")) _ (of_text_if (has_text v.text) _)
      (of_join (text_if is_function (codes "function")) _ (of_text_if is_function _)
      (of_join (text_if is_other (codes "object")) no_value (of_text_if is_other _)
      of_nothing))))))
    where
      is_boolean : Bool
      is_boolean = v.flags.is_true || v.flags.is_false

      is_number : Bool
      is_number = v.flags.nan || has_number v.number

      is_function : Bool
      is_function = some_label w (λ l. v.label l && is_function_label w.program l)

      is_other : Bool
      is_other = some_label w (λ l. v.label l && not (is_function_label w.program l))

  pub of_unary : (w : View) (op : UnaryOp) (v : AbstractValue) → IsRegisterIn p (unary w op v)
  of_unary w unary_op.ToNum v = over_gives to_num_atom num_gives (atoms v)
  of_unary w unary_op.ToText v = over_gives to_text_atom text_gives (atoms v)
  of_unary w unary_op.Neg v =
      over_gives (on_operand (of_operand numbers.neg)) (on_operand_gives (of_operand numbers.neg)
      (operand_gives numbers.neg)) (atoms v)
  of_unary w unary_op.BitNot v =
      over_gives (on_operand (of_operand bits.not)) (on_operand_gives (of_operand bits.not)
      (operand_gives bits.not)) (atoms v)
  of_unary w unary_op.ToBool v = of_truth w v
  of_unary w unary_op.Not v = of_truths _ _
  of_unary w unary_op.TypeOf v = of_type w v

  pub of_binary : (w : View) (op : BinaryOp) (a b : AbstractValue)
      → IsRegisterIn p (binary w op a b)
  of_binary w op a b =
      of_finished op _ (of_join (value_if (is_equality op) _)
      (abstract_binary (operator op) a b).value
      (of_one_if (is_equality op) _ (of_truths _ _))
      (pairs_give (operator op) (operator_gives op) (atoms a) (atoms b)))

  -- ---- what is shown

  of_key : (q : Program) (k : Key) → IsRegisterIn p (key_value q k)
  of_key q (key.Name n) = of_text _
  of_key q key.OtherIndex = of_text _
  of_key q key.OtherName = of_text _
  of_key q (key.Slot s) = of_nothing

  pub of_shown : (w : View) (start : Labels) → IsRegisterIn p (names_shown w start)
  of_shown w start =
      of_each _ (λ k. cond_both _ (key_value w.program k) no_value (IsRegisterIn p)
      (λ _. of_key w.program k) (λ _. of_nothing)) (text_keys w.program)
