-- What the operators on abstract values come to beside those of the machine (ES3 9, 11.4 to 11.10).
use Rattle.std.specs.Prelude.{◌≡◌, ◌≢◌, ◌⊎◌, ◌≤◌, ◌&&◌, ℤ, pos, unsigned_abs, Bool, true, false, IsTrue, Some, Result, Ok, Err}
use Rattle.ja_base.specs.declared.ids.Label.{Label}
use Rattle.ja_prim.specs.declared.primitive.Num.{Num}
use Rattle.ja_prim.specs.declared.primitive.Num.TheVariants.{Whole}
use Rattle.ja_prim.specs.declared.primitive.Primitive.{Primitive}
use Rattle.ja_prim.specs.declared.stop.Stop.{Stop}
use Rattle.ja_prim.specs.declared.primitive.Primitive.TheVariants as primitive
use Rattle.ja_prim.specs.Conversions.{to_number}
use Rattle.ja_prim.specs.Bits as bits
use Rattle.ja_prim.specs.Judged.{max_magnitude}
use Rattle.ja_graph.specs.declared.node.UnaryOp.{UnaryOp}
use Rattle.ja_graph.specs.declared.node.UnaryOp.TheVariants as unary_op
use Rattle.ja_graph.specs.declared.node.BinaryOp.{BinaryOp}
use Rattle.ja_graph.specs.declared.node.BinaryOp.TheVariants as binary_op
use Rattle.ja_machine.specs.declared.machine.Value.{Value}
use Rattle.ja_machine.specs.declared.machine.Value.TheVariants as value
use Rattle.ja_machine.specs.declared.machine.Heap.{Heap}
use Rattle.ja_machine.specs.Machine.{class_of_site}
use Rattle.ja_machine.specs.State.{IsHeap, IsValueOf}
use Rattle.ja_machine.specs.Values.{type_of_class}
use Rattle.ja_machine.specs.Values as machine
use Rattle.ja_abstract.specs.AbstractValue.{AbstractValue, same_label, of_primitive, of_label}
use Rattle.ja_abstract.specs.Parts.{has_primitive}
use Rattle.ja_abstract.specs.Primitives.{Abstracted, gives, exact, abstract_binary, operator, to_num, to_uint32, of_bools}
use Rattle.ja_abstract.specs.Reading.{View, some_label}
use Rattle.ja_abstract.specs.Values as abstract
use Rattle.ja_meaning.specs.Meaning.{has_value}

-- ---- what an operator gives of abstract values, and whether it may stop

-- the operators that take the number of their operand
abbrev pub takes_number : UnaryOp → Bool
takes_number unary_op.ToNum = true
takes_number unary_op.Neg = true
takes_number unary_op.BitNot = true
takes_number op = false

abbrev pub of_unary : View → UnaryOp → AbstractValue → Abstracted
of_unary w op v =
    record { value = abstract.unary w op v; may_stop = takes_number op && (to_num v).may_stop }

abbrev pub of_binary : View → BinaryOp → AbstractValue → AbstractValue → Abstracted
of_binary w op v u =
    record {
      value = abstract.binary w op v u;
      may_stop = (abstract_binary (operator op) v u).may_stop;
    }

-- ---- they cover the machine's

-- what the machine gives of values that abstract values have is in what is given of these
abbrev pub UnaryIsCovered : Type 0
UnaryIsCovered =
    (w : View) (h : Heap) (op : UnaryOp) (v : AbstractValue) (x : Value) (z : Primitive)
    → IsHeap w.program h → IsValueOf h x → IsTrue (has_value h v x)
    → machine.unary h op x ≡ Some (Ok z) → IsTrue (has_primitive (of_unary w op v).value z)

abbrev pub BinaryIsCovered : Type 0
BinaryIsCovered =
    (w : View) (h : Heap) (op : BinaryOp) (v u : AbstractValue) (x y : Value) (z : Primitive)
    → IsHeap w.program h → IsValueOf h x → IsValueOf h y → IsTrue (has_value h v x)
    → IsTrue (has_value h u y) → machine.binary op x y ≡ Some (Ok z)
    → IsTrue (has_primitive (of_binary w op v u).value z)

-- where the machine stops, the abstract operator says that it may
abbrev pub UnaryMayStop : Type 0
UnaryMayStop =
    (w : View) (h : Heap) (op : UnaryOp) (v : AbstractValue) (x : Value) (stop : Stop)
    → IsTrue (has_value h v x) → machine.unary h op x ≡ Some (Err stop)
    → IsTrue (of_unary w op v).may_stop

-- A remainder never stops where its operands are numbers of the profile: so this is known of them
-- in the law about stops.
abbrev pub IsOfProfile : BinaryOp → Value → Type 0
IsOfProfile binary_op.Rem (value.Primitive q) =
    (z : ℤ) → to_number q ≡ Ok (Whole z) → unsigned_abs z ≤ max_magnitude
IsOfProfile op x = Unit {0}

abbrev pub BinaryMayStop : Type 0
BinaryMayStop =
    (w : View) (h : Heap) (op : BinaryOp) (v u : AbstractValue) (x y : Value) (stop : Stop)
    → IsOfProfile op x → IsOfProfile op y → IsTrue (has_value h v x) → IsTrue (has_value h u y)
    → machine.binary op x y ≡ Some (Err stop) → IsTrue (of_binary w op v u).may_stop

-- ---- of constants they are the machine's

-- of one primitive each they give exactly what the machine gives: that one primitive, or nothing
-- where it stops, and only there they may stop
abbrev pub UnaryIsExact : Type 0
UnaryIsExact =
    (w : View) (h : Heap) (op : UnaryOp) (q : Primitive) (x : Result Primitive Stop)
    → machine.unary h op (value.Primitive q) ≡ Some x → of_unary w op (of_primitive q) ≡ exact x

abbrev pub BinaryIsExact : Type 0
BinaryIsExact =
    (w : View) (op : BinaryOp) (q r : Primitive) (x : Result Primitive Stop)
    → machine.binary op (value.Primitive q) (value.Primitive r) ≡ Some x
    → of_binary w op (of_primitive q) (of_primitive r) ≡ exact x

-- ---- the unsigned numbers of 32 bits (9.6)

abbrev pub unsigned : Num → Primitive
unsigned n = primitive.Number (Whole (pos (bits.to_uint32 n)))

-- that of a number is in what is given of a value that has it, and of just one it is just that one
pub record IsUnsigned : Type 0 where
  pub covered : (v : AbstractValue) (n : Num) → IsTrue (has_primitive v (primitive.Number n))
      → IsTrue (has_primitive (to_uint32 v).value (unsigned n))
  pub exact : (n : Num)
      → to_uint32 (of_primitive (primitive.Number n)) ≡ gives (of_primitive (unsigned n))

-- ---- of objects by their labels

abbrev pub IsLabelOf : View → Label → Type 0
IsLabelOf w l = IsTrue (some_label w (same_label l))

-- whether two abstract values are equal is exactly this
abbrev pub AreEqual : View → AbstractValue → AbstractValue → (may_be may_not : Bool) → Type 0
AreEqual w a b may_be may_not =
    (op : BinaryOp) → (op ≡ binary_op.LooseEq) ⊎ (op ≡ binary_op.StrictEq)
    → abstract.binary w op a b ≡ of_bools may_be may_not

-- The object of a new label is equal to itself; two of an old label may be one or two; objects of
-- two labels are different, and so are an object and a primitive.
pub record AreEqualByLabels (w : View) : Type 0 where
  pub of_new : (l : Label) → IsLabelOf w l → l.old ≡ false
      → AreEqual w (of_label l) (of_label l) true false
  pub of_old : (l : Label) → IsLabelOf w l → l.old ≡ true
      → AreEqual w (of_label l) (of_label l) true true
  pub of_two : (l m : Label) → IsLabelOf w l → IsLabelOf w m → l ≢ m
      → AreEqual w (of_label l) (of_label m) false true
  pub before_primitive : (l : Label) (q : Primitive) → IsLabelOf w l
      → AreEqual w (of_label l) (of_primitive q) false true
  pub behind_primitive : (l : Label) (q : Primitive) → IsLabelOf w l
      → AreEqual w (of_primitive q) (of_label l) false true

-- an object is true, and its type is that of its class
pub record IsToldByLabel (w : View) (l : Label) : Type 0 where
  pub truth : abstract.unary w unary_op.ToBool (of_label l) ≡ of_primitive (primitive.Bool true)
  pub not : abstract.unary w unary_op.Not (of_label l) ≡ of_primitive (primitive.Bool false)
  pub type_of : abstract.unary w unary_op.TypeOf (of_label l)
      ≡ of_primitive (primitive.Text (type_of_class (Some (class_of_site w.program l.site.0))))
