-- Of one constant each, operators on abstract values give exactly what the machine gives.
use Rattle.std.specs.Prelude.{◌≡◌, ◌&&◌, ◌||◌, not, Bool, true, false, List, [], ◌∷◌, Option, Some, None, Result, Ok, Err}
use Rattle.std.specs.List.{flat_map, list_any}
use Rattle.std.proofs.Common.{refl, ap, ◌∙◌}
use lib.Chars.{codes}
use Rattle.std.proofs.lemmas.Bool.{and_right, or_from}
use Rattle.std.proofs.Math.Bool.{or-false}
use Rattle.std.proofs.lemmas.Option.{same_Some}
use Rattle.ja_base.specs.declared.ids.Label.{Label}
use Rattle.ja_prim.specs.declared.stop.Stop.{Stop}
use Rattle.ja_prim.specs.declared.primitive.Num.{Num}
use Rattle.ja_prim.specs.declared.primitive.Num.TheVariants.{NaN, Whole}
use Rattle.ja_prim.specs.declared.primitive.Primitive.{Primitive}
use Rattle.ja_prim.specs.declared.primitive.Primitive.TheVariants as primitive
use Rattle.ja_prim.specs.Conversions.{to_bool, to_number}
use Rattle.ja_prim.specs.Comparison.{strict_equal, loose_equal, less, to_primitive, of_both}
use Rattle.ja_prim.specs.Arithmetic as numbers
use Rattle.ja_prim.specs.Bits as bits
use Rattle.ja_graph.specs.declared.node.UnaryOp.{UnaryOp}
use Rattle.ja_graph.specs.declared.node.UnaryOp.TheVariants as unary_op
use Rattle.ja_graph.specs.declared.node.BinaryOp.{BinaryOp}
use Rattle.ja_graph.specs.declared.node.BinaryOp.TheVariants as binary_op
use Rattle.ja_machine.specs.declared.machine.Value.TheVariants as value
use Rattle.ja_machine.specs.declared.machine.Heap.{Heap}
use Rattle.ja_machine.specs.Values.{is_true, is_false, of_number}
use Rattle.ja_machine.specs.Values as machine
use Rattle.ja_abstract.specs.declared.abstraction.Flags.{Flags}
use Rattle.ja_abstract.specs.declared.abstraction.NumberPart.{NumberPart}
use Rattle.ja_abstract.specs.declared.abstraction.NumberPart.TheVariants as number_part
use Rattle.ja_abstract.specs.declared.abstraction.TextPart.{TextPart}
use Rattle.ja_abstract.specs.declared.abstraction.TextPart.TheVariants as text_part
use Rattle.ja_abstract.specs.AbstractValue.{Labels, AbstractValue, no_value, no_flags, join, join_flags, join_numbers, join_texts, of_primitive, has_number, has_text}
use Rattle.ja_abstract.specs.Primitives.{Atom, exactly, atoms, Abstracted, gives, no_result, either, over, over_pairs, exact, stops_if, to_bool_atom, to_num_atom, to_text_atom, Operand, operand, on_operands, on_operand, of_operand, combine, combine_bits, abstract_unary, abstract_binary, operator, finished, compared, of_bools, to_num}
use Rattle.ja_abstract.specs.Resolved.{join_values}
use Rattle.ja_abstract.specs.Reading.{View, some_label}
use Rattle.ja_abstract.specs.Values.{has_labels, has_atoms, may_equal, may_differ, value_if, truth, turned, text_if, type_of, is_function_label, is_equality}
use Rattle.ja_abstract.proofs.Converted.{to_primitive-of_both}
use Rattle.ja_meaning.specs.OperatorLaws.{of_unary, of_binary, UnaryIsExact, BinaryIsExact}
use Rattle.ja_meaning.proofs.Operators.{raw}

-- ---- joined with nothing

flags_none : (f : Flags) → join_flags f no_flags ≡ f
flags_none f = λ i. record {
  absent = or-false f.absent i;
  entry = or-false f.entry i;
  row = or-false f.row i;
  undefined = or-false f.undefined i;
  null = or-false f.null i;
  is_true = or-false f.is_true i;
  is_false = or-false f.is_false i;
  nan = or-false f.nan i;
}

numbers_none : (n : NumberPart) → join_numbers n number_part.Nothing ≡ n
numbers_none number_part.Nothing = refl
numbers_none (number_part.One z) = refl
numbers_none number_part.Index = refl
numbers_none number_part.OtherWhole = refl
numbers_none number_part.Whole = refl

texts_none : (t : TextPart) → join_texts t text_part.Nothing ≡ t
texts_none text_part.Nothing = refl
texts_none (text_part.One s) = refl
texts_none text_part.IndexText = refl
texts_none text_part.OtherText = refl
texts_none text_part.Text = refl

pub join_none : (v : AbstractValue) → join v no_value ≡ v
join_none v = λ i. record {
  flags = flags_none v.flags i;
  number = numbers_none v.number i;
  text = texts_none v.text i;
  label = λ l. or-false (v.label l) i;
}

pub none_join : (v : AbstractValue) → join no_value v ≡ v
none_join v = refl

either_none : (r : Abstracted) → either r no_result ≡ r
either_none r = λ i. record { value = join_none r.value i; may_stop = or-false r.may_stop i }

-- over one atom
pub over_one : {A : Type 0} (f : A → Abstracted) (x : A) → over f (x ∷ []) ≡ f x
over_one f x = either_none (f x)

pub pair_one : {A : Type 0} (f : A → A → Abstracted) (x y : A)
    → over_pairs f (x ∷ []) (y ∷ []) ≡ f x y
pair_one f x y = over_one (λ a. over (f a) (y ∷ [])) x ∙ over_one (f x) y

-- a constant is one atom
pub atoms_one : (q : Primitive) → atoms (of_primitive q) ≡ exactly q ∷ []
atoms_one primitive.Undefined = refl
atoms_one primitive.Null = refl
atoms_one (primitive.Bool true) = refl
atoms_one (primitive.Bool false) = refl
atoms_one (primitive.Number NaN) = refl
atoms_one (primitive.Number (Whole z)) = refl
atoms_one (primitive.Text t) = refl

pub unary_one : (f : Atom → Abstracted) (q : Primitive)
    → abstract_unary f (of_primitive q) ≡ f (exactly q)
unary_one f q = ap (over f) (atoms_one q) ∙ over_one f (exactly q)

pub binary_one : (f : Atom → Atom → Abstracted) (q r : Primitive)
    → abstract_binary f (of_primitive q) (of_primitive r) ≡ f (exactly q) (exactly r)
binary_one f q r =
    ap (λ xs. over_pairs f xs (atoms (of_primitive r))) (atoms_one q)
    ∙ ap (over_pairs f (exactly q ∷ [])) (atoms_one r) ∙ pair_one f (exactly q) (exactly r)

-- ---- numbers of a constant

-- the numbers of what a constant is converted to
abbrev numbers_of : Result Num Stop → List Operand
numbers_of x = flat_map operand (atoms (exact (to_primitive primitive.Number x)).value)

numbers_one : (n : Num) → numbers_of (Ok n) ≡ Some n ∷ []
numbers_one NaN = refl
numbers_one (Whole z) = refl

abbrev stops : Result Num Stop → Bool
stops x = (exact (to_primitive primitive.Number x)).may_stop

abbrev on_numbers : (Operand → Operand → Abstracted) → Result Num Stop → Result Num Stop
    → Abstracted
on_numbers f x y =
    either (stops_if (stops x || stops y)) (over_pairs f (numbers_of x) (numbers_of y))

on_two : (f : Operand → Operand → Abstracted) (g : Num → Num → Result Primitive Stop)
    → ((m n : Num) → f (Some m) (Some n) ≡ exact (g m n)) → (x y : Result Num Stop)
    → on_numbers f x y ≡ exact (of_both g x y)
on_two f g each (Ok m) (Ok n) =
    ap (λ xs. either (stops_if false) (over_pairs f xs (numbers_of (Ok n)))) (numbers_one m)
    ∙ ap (λ ys. either (stops_if false) (over_pairs f (Some m ∷ []) ys)) (numbers_one n)
    ∙ ap (either (stops_if false)) (pair_one f (Some m) (Some n)) ∙ each m n
on_two f g each (Ok m) (Err stop) =
    ap (λ xs. either (stops_if true) (over_pairs f xs [])) (numbers_one m)
on_two f g each (Err stop) y = refl

-- an operation on the numbers of two constants
on_operands_one : (f : Operand → Operand → Abstracted) (g : Num → Num → Result Primitive Stop)
    → ((m n : Num) → f (Some m) (Some n) ≡ exact (g m n)) → (q r : Primitive)
    → on_operands f (exactly q) (exactly r) ≡ exact (of_both g (to_number q) (to_number r))
on_operands_one f g each q r = on_two f g each (to_number q) (to_number r)

abbrev OfNumbers : (Num → Num → Result Num Stop) → (Operand → Operand → Abstracted) → Type 0
OfNumbers g f =
    (q r : Primitive)
    → on_operands f (exactly q) (exactly r) ≡ exact (machine.of_numbers g q r)

numbers_exact : (f : Operand → Operand → Abstracted) (g : Num → Num → Result Num Stop)
    → ((m n : Num) → f (Some m) (Some n) ≡ exact (to_primitive primitive.Number (g m n)))
    → OfNumbers g f
numbers_exact f g each q r =
    on_operands_one f (λ m n. to_primitive primitive.Number (g m n)) each q r
    ∙ ap exact (to_primitive-of_both primitive.Number g (to_number q) (to_number r))

arithmetic_exact : (g : Num → Num → Result Num Stop) (class : Abstracted)
    → OfNumbers g (combine g class)
arithmetic_exact g class = numbers_exact (combine g class) g (λ m n. refl)

bits_exact : (g : Num → Num → Num) → OfNumbers (λ m n. Ok (g m n)) (combine_bits g)
bits_exact g = numbers_exact (combine_bits g) (λ m n. Ok (g m n)) (λ m n. refl)

-- .. of one
on_one : (g : Num → Num) (x : Result Num Stop)
    → either (stops_if (stops x)) (over (of_operand g) (numbers_of x))
    ≡ exact (to_primitive (λ n. primitive.Number (g n)) x)
on_one g (Ok n) =
    ap (λ xs. either (stops_if false) (over (of_operand g) xs)) (numbers_one n)
    ∙ ap (either (stops_if false)) (over_one (of_operand g) (Some n))
on_one g (Err stop) = refl

on_operand_one : (g : Num → Num) (q : Primitive)
    → on_operand (of_operand g) (exactly q) ≡ exact (of_number g q)
on_operand_one g q = on_one g (to_number q)

-- ---- each operator on two constants

pub operator_one : (op : BinaryOp) (q r : Primitive)
    → operator op (exactly q) (exactly r) ≡ exact (raw op q r)
operator_one binary_op.Add q r = refl
operator_one binary_op.Sub q r = arithmetic_exact numbers.sub _ q r
operator_one binary_op.Mul q r = arithmetic_exact numbers.mul _ q r
operator_one binary_op.Div q r = arithmetic_exact numbers.div _ q r
operator_one binary_op.Rem q r = arithmetic_exact numbers.rem _ q r
operator_one binary_op.Shl q r = bits_exact bits.shl q r
operator_one binary_op.Shr q r = bits_exact bits.shr q r
operator_one binary_op.Ushr q r = bits_exact bits.ushr q r
operator_one binary_op.And q r = bits_exact bits.and q r
operator_one binary_op.Or q r = bits_exact bits.or q r
operator_one binary_op.Xor q r = bits_exact bits.xor q r
operator_one binary_op.Lt q r = refl
operator_one binary_op.Ge q r = refl
operator_one binary_op.Gt q r = refl
operator_one binary_op.Le q r = refl
operator_one binary_op.LooseEq q r = refl
operator_one binary_op.LooseNe q r = refl
operator_one binary_op.StrictEq q r = refl
operator_one binary_op.StrictNe q r = refl

-- ---- a constant is no object

pub label_none : (q : Primitive) (l : Label) → (of_primitive q).label l ≡ false
label_none primitive.Undefined l = refl
label_none primitive.Null l = refl
label_none (primitive.Bool true) l = refl
label_none (primitive.Bool false) l = refl
label_none (primitive.Number NaN) l = refl
label_none (primitive.Number (Whole z)) l = refl
label_none (primitive.Text t) l = refl

none_of : (test : Labels) (labels : List Label) → ((l : Label) → test l ≡ false)
    → list_any test labels ≡ false
none_of test [] each = refl
none_of test (l ∷ ls) each = or_from (test l) _ (each l) (none_of test ls each)

module _ (w : View) where
  pub no_label : (q : Primitive) (test : Labels)
      → some_label w (λ l. (of_primitive q).label l && test l) ≡ false
  no_label q test = none_of _ _ (λ l. ap (λ b. b && test l) (label_none q l))

  pub no_labels : (q : Primitive) → has_labels w (of_primitive q) ≡ false
  no_labels q = none_of _ _ (label_none q)

  never_equal : (q r : Primitive) → may_equal w (of_primitive q) (of_primitive r) ≡ false
  never_equal q r = no_label q (of_primitive r).label

  never_differ : (q r : Primitive) → may_differ w (of_primitive q) (of_primitive r) ≡ false
  never_differ q r =
      or_from _ _ (no_label q _)
      (or_from _ _ (ap (λ b. b && has_atoms (of_primitive r)) (no_labels q))
      (and_right (has_atoms (of_primitive q)) _ (no_labels r)))

  objects_none : (op : BinaryOp) (q r : Primitive)
      → value_if (is_equality op) (of_bools (may_equal w (of_primitive q) (of_primitive r))
      (may_differ w (of_primitive q) (of_primitive r))) ≡ no_value
  objects_none op q r =
      ap (λ b. value_if (is_equality op) (of_bools b
      (may_differ w (of_primitive q) (of_primitive r)))) (never_equal q r)
      ∙ ap (λ b. value_if (is_equality op) (of_bools false b)) (never_differ q r)
      ∙ none (is_equality op)
    where
      none : (b : Bool) → value_if b (of_bools false false) ≡ no_value
      none true = refl
      none false = refl

  -- ---- what is made of a result

  abbrev made : BinaryOp → Abstracted → Abstracted
  made op r = record { value = finished op r.value; may_stop = r.may_stop }

  made_one : (op : BinaryOp) (q r : Primitive)
      → of_binary w op (of_primitive q) (of_primitive r) ≡ made op (exact (raw op q r))
  made_one op q r =
      let all = abstract_binary (operator op) (of_primitive q) (of_primitive r) in
      ap (λ (v : AbstractValue).
      record { value = finished op (join v all.value); may_stop = all.may_stop })
      (objects_none op q r)
      ∙ ap (made op) (binary_one (operator op) q r ∙ operator_one op q r)

  -- a comparison that is true, one that is false, and one that is turned
  true_made : (x : Result (Option Bool) Stop) → made binary_op.Lt (exact (compared x))
      ≡ exact (machine.compared is_true x)
  true_made (Ok (Some true)) = refl
  true_made (Ok (Some false)) = refl
  true_made (Ok None) = refl
  true_made (Err stop) = refl

  false_made : (x : Result (Option Bool) Stop) → made binary_op.Le (exact (compared x))
      ≡ exact (machine.compared is_false x)
  false_made (Ok (Some true)) = refl
  false_made (Ok (Some false)) = refl
  false_made (Ok None) = refl
  false_made (Err stop) = refl

  turned_made : (x : Result Bool Stop)
      → made binary_op.LooseNe (exact (to_primitive primitive.Bool x))
      ≡ exact (to_primitive (λ b. primitive.Bool (not b)) x)
  turned_made (Ok true) = refl
  turned_made (Ok false) = refl
  turned_made (Err stop) = refl

  abbrev OfTwo : BinaryOp → Primitive → Primitive → Type 0
  OfTwo op q r =
      (x : Result Primitive Stop)
      → machine.binary op (value.Primitive q) (value.Primitive r) ≡ Some x
      → made op (exact (raw op q r)) ≡ exact x

  made_is : (op : BinaryOp) (q r : Primitive) → OfTwo op q r
  made_is binary_op.Lt q r x is = true_made (less q r) ∙ ap exact (same_Some _ x is)
  made_is binary_op.Gt q r x is = true_made (less r q) ∙ ap exact (same_Some _ x is)
  made_is binary_op.Le q r x is = false_made (less r q) ∙ ap exact (same_Some _ x is)
  made_is binary_op.Ge q r x is = false_made (less q r) ∙ ap exact (same_Some _ x is)
  made_is binary_op.LooseNe q r x is = turned_made (loose_equal q r) ∙ ap exact (same_Some _ x is)
  made_is binary_op.StrictNe q r x is =
      turned_made (Ok (strict_equal q r)) ∙ ap exact (same_Some _ x is)
  made_is op q r x is = ap exact (same_Some _ x is)

pub binary_exact : BinaryIsExact
binary_exact w op q r x is = made_one w op q r ∙ made_is w op q r x is

-- ---- operators on one constant

module _ (w : View) where
  truth_one : (q : Primitive) → truth w (of_primitive q) ≡ of_primitive (primitive.Bool (to_bool q))
  truth_one q =
      ap (λ b. join (value_if b (of_bools true false))
      (abstract_unary to_bool_atom (of_primitive q)).value) (no_labels w q)
      ∙ ap (λ (r : Abstracted). r.value) (unary_one to_bool_atom q)

  turned_one : (b : Bool) → turned (of_primitive (primitive.Bool b))
      ≡ of_primitive (primitive.Bool (not b))
  turned_one true = refl
  turned_one false = refl

  -- the type of a constant
  abbrev type_by : Bool → Bool → Primitive → AbstractValue
  type_by function object q =
      let v = of_primitive q in
      join_values (text_if v.flags.undefined (codes "undefined")
      ∷ text_if v.flags.null (codes "object")
      ∷ text_if (v.flags.is_true || v.flags.is_false) (codes "boolean")
      ∷ text_if (v.flags.nan || has_number v.number) (codes "number")
      ∷ text_if (has_text v.text) (codes "string")
      ∷ text_if function (codes "function")
      ∷ text_if object (codes "object") ∷ [])

  type_is : (h : Heap) (q : Primitive) → type_by false false q
      ≡ of_primitive (primitive.Text (machine.type_of h (value.Primitive q)))
  type_is h primitive.Undefined = refl
  type_is h primitive.Null = refl
  type_is h (primitive.Bool true) = refl
  type_is h (primitive.Bool false) = refl
  type_is h (primitive.Number NaN) = refl
  type_is h (primitive.Number (Whole z)) = refl
  type_is h (primitive.Text t) = refl

  type_one : (h : Heap) (q : Primitive) → type_of w (of_primitive q)
      ≡ of_primitive (primitive.Text (machine.type_of h (value.Primitive q)))
  type_one h q =
      ap (λ b. type_by b (some_label w
      (λ l. (of_primitive q).label l && not (is_function_label w.program l))) q)
      (no_label w q (is_function_label w.program))
      ∙ ap (λ b. type_by false b q) (no_label w q (λ l. not (is_function_label w.program l)))
      ∙ type_is h q

  -- whether the number of a constant stops
  number_stops : (q : Primitive) → (to_num (of_primitive q)).may_stop
      ≡ (exact (to_primitive primitive.Number (to_number q))).may_stop
  number_stops q = ap (λ (r : Abstracted). r.may_stop) (unary_one to_num_atom q)

  -- an operator on the number of a constant
  of_number_one : (f : Atom → Abstracted) (g : Num → Num) (q : Primitive)
      → f (exactly q) ≡ exact (of_number g q)
      → record {
        value = (abstract_unary f (of_primitive q)).value;
        may_stop = (to_num (of_primitive q)).may_stop;
      } ≡ exact (of_number g q)
  of_number_one f g q is =
      ap (λ (r : Abstracted). record {
        value = r.value;
        may_stop = (to_num (of_primitive q)).may_stop;
      }) (unary_one f q ∙ is)
      ∙ ap (λ b. record { value = (exact (of_number g q)).value; may_stop = b }) (number_stops q)
      ∙ same_stop (to_number q)
    where
      same_stop : (x : Result Num Stop)
          → record {
            value = (exact (to_primitive (λ n. primitive.Number (g n)) x)).value;
            may_stop = (exact (to_primitive primitive.Number x)).may_stop;
          }
          ≡ exact (to_primitive (λ n. primitive.Number (g n)) x)
      same_stop (Ok n) = refl
      same_stop (Err stop) = refl

  abbrev OfOne : Heap → UnaryOp → Primitive → Type 0
  OfOne h op q =
      (x : Result Primitive Stop) → machine.unary h op (value.Primitive q) ≡ Some x
      → of_unary w op (of_primitive q) ≡ exact x

  unary_is : (h : Heap) (op : UnaryOp) (q : Primitive) → OfOne h op q
  unary_is h unary_op.ToNum q x is =
      of_number_one to_num_atom (λ n. n) q refl ∙ ap exact (same_Some _ x is)
  unary_is h unary_op.Neg q x is =
      of_number_one (on_operand (of_operand numbers.neg)) numbers.neg q
      (on_operand_one numbers.neg q) ∙ ap exact (same_Some _ x is)
  unary_is h unary_op.BitNot q x is =
      of_number_one (on_operand (of_operand bits.not)) bits.not q (on_operand_one bits.not q)
      ∙ ap exact (same_Some _ x is)
  unary_is h unary_op.ToText q x is =
      ap (λ (r : Abstracted). gives r.value) (unary_one to_text_atom q)
      ∙ ap exact (same_Some _ x is)
  unary_is h unary_op.ToBool q x is = ap gives (truth_one q) ∙ ap exact (same_Some _ x is)
  unary_is h unary_op.Not q x is =
      ap (λ v. gives (turned v)) (truth_one q) ∙ ap gives (turned_one (to_bool q))
      ∙ ap exact (same_Some _ x is)
  unary_is h unary_op.TypeOf q x is = ap gives (type_one h q) ∙ ap exact (same_Some _ x is)

pub unary_exact : UnaryIsExact
unary_exact w h op q x is = unary_is w h op q x is
