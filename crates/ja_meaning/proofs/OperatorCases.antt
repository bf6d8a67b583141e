-- Operators on abstract values cover the machine's: with their stops, and of objects by labels.
use Rattle.std.specs.Prelude.{◌≡◌, not, Bool, true, false, IsTrue, Option, Some, Result, Ok, Err}
use Rattle.std.proofs.Common.{refl, sym, subst, ap, ◌∙◌}
use Rattle.std.proofs.lemmas.Bool.{false≢true}
use Rattle.std.proofs.lemmas.Option.{same_Some, none-some}
use Rattle.ja_prim.specs.declared.stop.Stop.{Stop}
use Rattle.ja_prim.specs.declared.primitive.Num.{Num}
use Rattle.ja_prim.specs.declared.primitive.Num.TheVariants.{NaN, Whole}
use Rattle.ja_prim.specs.declared.primitive.Primitive.{Primitive}
use Rattle.ja_prim.specs.declared.primitive.Primitive.TheVariants as primitive
use Rattle.ja_prim.specs.Conversions.{to_number}
use Rattle.ja_prim.specs.Comparison.{less, loose_equal, to_primitive}
use Rattle.ja_graph.specs.declared.node.UnaryOp.TheVariants as unary_op
use Rattle.ja_graph.specs.declared.node.BinaryOp.{BinaryOp}
use Rattle.ja_graph.specs.declared.node.BinaryOp.TheVariants as binary_op
use Rattle.ja_machine.specs.declared.machine.Addr.{Addr}
use Rattle.ja_machine.specs.declared.machine.Value.{Value}
use Rattle.ja_machine.specs.declared.machine.Value.TheVariants as value
use Rattle.ja_machine.specs.declared.machine.Heap.{Heap}
use Rattle.ja_machine.specs.Values.{is_true, is_false, of_number, on_primitive, OperatorOutcome}
use Rattle.ja_machine.specs.Values as machine
use Rattle.ja_abstract.specs.AbstractValue.{AbstractValue}
use Rattle.ja_abstract.specs.Primitives.{abstract_binary, operator, to_num, compared, index_or_whole}
use Rattle.ja_abstract.proofs.Atoms.{Covers}
use Rattle.ja_abstract.proofs.Converted.{to_num-all, to_uint32-all, OfWhole, InRange}
use Rattle.ja_meaning.specs.Meaning.{has_value}
use Rattle.ja_meaning.specs.OperatorLaws.{UnaryIsCovered, BinaryIsCovered, UnaryMayStop, BinaryMayStop, IsOfProfile, IsUnsigned}
use Rattle.ja_meaning.proofs.ExactOperators.{unary_one}
use Rattle.ja_meaning.proofs.Operators.{raw, FitsIn, binary-all, unary-known, binary-known}

pub unary_covered : UnaryIsCovered
unary_covered w h op v x z good there has is = unary-known w h good op v x z there has is

pub binary_covered : BinaryIsCovered
binary_covered w h op v u x y z good there two has too is =
    binary-known w h good op v u x y z there two has too is

-- ---- stops

abbrev stopped : Stop → Result Primitive Stop
stopped stop = Err stop

-- an operator on the number of a value stops where that stops
number_stop : (g : Num → Num) (v : AbstractValue) (x : Value) (h : Heap) (stop : Stop)
    → IsTrue (has_value h v x) → on_primitive (of_number g) x ≡ Some (Err stop)
    → IsTrue (to_num v).may_stop
number_stop g v (value.Object a) h stop has is = absurd (none-some (stopped stop) is)
number_stop g v (value.Primitive q) h stop has is =
    by (to_number q) refl (same_Some (of_number g q) (Err stop) is)
  where
    by : (x : Result Num Stop) → to_number q ≡ x
        → to_primitive (λ n. primitive.Number (g n)) x ≡ Err stop → IsTrue (to_num v).may_stop
    by (Ok n) number e = cc
    by (Err s) number e =
        subst (λ y. Covers (to_num v) (to_primitive primitive.Number y)) number
        (to_num-all v q has)

pub unary_stops : UnaryMayStop
unary_stops w h unary_op.ToNum v x stop has is = number_stop (λ n. n) v x h stop has is
unary_stops w h unary_op.Neg v x stop has is =
    number_stop Rattle.ja_prim.specs.Arithmetic.neg v x h stop has is
unary_stops w h unary_op.BitNot v x stop has is =
    number_stop Rattle.ja_prim.specs.Bits.not v x h stop has is
unary_stops w h unary_op.ToText v (value.Object a) stop has is =
    absurd (none-some (stopped stop) is)
unary_stops w h unary_op.ToText v (value.Primitive q) stop has is = cc
unary_stops w h unary_op.ToBool v x stop has is = cc
unary_stops w h unary_op.Not v x stop has is = cc
unary_stops w h unary_op.TypeOf v x stop has is = cc

-- numbers of the profile fit in
in_range : (q : Primitive) → IsOfProfile binary_op.Rem (value.Primitive q) → (m : Num)
    → to_number q ≡ Ok m → OfWhole InRange m
in_range q f NaN is = tt
in_range q f (Whole z) is = f z is

fits : (op : BinaryOp) (q : Primitive) → IsOfProfile op (value.Primitive q) → FitsIn op q
fits binary_op.Rem q f = in_range q f
fits op q f = tt

-- what is made of a result stops where that stops
compared_stops : (holds : Option Bool → Bool) (x : Result (Option Bool) Stop) (stop : Stop)
    → machine.compared holds x ≡ Err stop → compared x ≡ Err stop
compared_stops holds (Ok b) stop e = cc
compared_stops holds (Err s) stop e = e

turned_stops : (x : Result Bool Stop) (stop : Stop)
    → to_primitive (λ b. primitive.Bool (not b)) x ≡ Err stop
    → to_primitive primitive.Bool x ≡ Err stop
turned_stops (Ok b) stop e = cc
turned_stops (Err s) stop e = e

raw_stops : (op : BinaryOp) (q r : Primitive) (stop : Stop)
    → machine.binary op (value.Primitive q) (value.Primitive r) ≡ Some (Err stop)
    → raw op q r ≡ Err stop
raw_stops binary_op.Lt q r stop is = compared_stops is_true (less q r) stop (same_Some _ _ is)
raw_stops binary_op.Gt q r stop is = compared_stops is_true (less r q) stop (same_Some _ _ is)
raw_stops binary_op.Le q r stop is = compared_stops is_false (less r q) stop (same_Some _ _ is)
raw_stops binary_op.Ge q r stop is = compared_stops is_false (less q r) stop (same_Some _ _ is)
raw_stops binary_op.LooseNe q r stop is = turned_stops (loose_equal q r) stop (same_Some _ _ is)
raw_stops binary_op.StrictNe q r stop is = cc
raw_stops op q r stop is = same_Some _ _ is

-- no operator stops of an object
abbrev is_stop : OperatorOutcome → Bool
is_stop (Some (Err stop)) = true
is_stop x = false

goes_on_left : (op : BinaryOp) (a : Addr) (y : Value)
    → is_stop (machine.binary op (value.Object a) y) ≡ false
goes_on_left binary_op.LooseEq a (value.Primitive r) = refl
goes_on_left binary_op.LooseEq a (value.Object b) = refl
goes_on_left binary_op.LooseNe a (value.Primitive r) = refl
goes_on_left binary_op.LooseNe a (value.Object b) = refl
goes_on_left op a y = refl

goes_on_right : (op : BinaryOp) (q : Primitive) (b : Addr)
    → is_stop (machine.binary op (value.Primitive q) (value.Object b)) ≡ false
goes_on_right binary_op.LooseEq q b = refl
goes_on_right op q b = refl

never_stops : (x : OperatorOutcome) (stop : Stop) → is_stop x ≡ false → x ≡ Some (Err stop) → ⊥
never_stops x stop goes is = false≢true (sym goes ∙ ap is_stop is)

pub binary_stops : BinaryMayStop
binary_stops w h op v u (value.Primitive q) (value.Primitive r) stop f g has too is =
    subst (Covers (abstract_binary (operator op) v u)) (raw_stops op q r stop is)
    (binary-all op v u q r (fits op q f) (fits op r g) has too)
binary_stops w h op v u (value.Primitive q) (value.Object b) stop f g has too is =
    absurd (never_stops _ stop (goes_on_right op q b) is)
binary_stops w h op v u (value.Object a) y stop f g has too is =
    absurd (never_stops _ stop (goes_on_left op a y) is)

-- ---- unsigned numbers

pub is_unsigned : IsUnsigned
is_unsigned = record {
  covered = to_uint32-all;
  exact = λ n. unary_one index_or_whole (primitive.Number n);
}
