-- The operators on abstract values (ES3 9, 11.4, 11.5 to 11.10): those on primitives, and what they
-- come to on objects (SAS 2009).
use Rattle.std.specs.Prelude.{ℕ, Bool, true, false, not, ◌&&◌, ◌||◌, if◌then◌else◌, ◌==◌, List, [], ◌∷◌, length}
use lib.Chars.{codes}
use Rattle.ja_prim.specs.declared.primitive.Primitive.TheVariants as primitive
use Rattle.ja_prim.specs.Arithmetic as numbers
use Rattle.ja_prim.specs.Bits as bits
use Rattle.ja_graph.specs.declared.node.UnaryOp.{UnaryOp}
use Rattle.ja_graph.specs.declared.node.UnaryOp.TheVariants as unary_op
use Rattle.ja_graph.specs.declared.node.BinaryOp.{BinaryOp}
use Rattle.ja_graph.specs.declared.node.BinaryOp.TheVariants as binary_op
use Rattle.ja_graph.specs.declared.program.Class.{Class}
use Rattle.ja_graph.specs.declared.program.Class.TheVariants as class
use Rattle.ja_graph.specs.declared.program.Program.{Program}
use Rattle.ja_machine.specs.Machine.{class_of_site}
use Rattle.ja_abstract.specs.AbstractValue.{Labels, AbstractValue, same_label, join, no_value, of_primitive, has_number, has_text}
use Rattle.ja_abstract.specs.Resolved.{join_values}
use Rattle.ja_abstract.specs.Primitives.{atoms, abstract_unary, abstract_binary, to_num, to_text_atom, to_bool_atom, on_operand, of_operand, operator, finished, of_bools}
use Rattle.ja_abstract.specs.Reading.{View, some_label}

-- the value has some primitive, some object
abbrev pub has_atoms : AbstractValue → Bool
has_atoms v = not (length (atoms v) == 0)

abbrev pub has_labels : View → AbstractValue → Bool
has_labels w v = some_label w v.label

abbrev pub value_if : Bool → AbstractValue → AbstractValue
value_if b v = if b then v else no_value

-- without its objects
abbrev pub primitives_of : AbstractValue → AbstractValue
primitives_of v =
    record v {
      flags = record v.flags { absent = false; entry = false; row = false };
      label =
          λ l. false;
    }

-- what is absent reads as undefined, and a row leaves the profile
abbrev pub as_read : AbstractValue → AbstractValue
as_read v =
    let is_undefined = v.flags.undefined || v.flags.absent in
    record v {
      flags = record v.flags {
        absent = false;
        entry = false;
        row = false;
        undefined =
            is_undefined;
      };
    }

-- ---- of one value

abbrev pub truth : View → AbstractValue → AbstractValue
truth w v =
    join (value_if (has_labels w v) (of_bools true false)) (abstract_unary to_bool_atom v).value

abbrev pub turned : AbstractValue → AbstractValue
turned v = of_bools v.flags.is_false v.flags.is_true

abbrev pub text_if : Bool → List ℕ → AbstractValue
text_if b t = value_if b (of_primitive (primitive.Text t))

abbrev pub is_function_class : Class → Bool
is_function_class class.Function = true
is_function_class c = false

abbrev pub is_function_label : Program → Labels
is_function_label p l = is_function_class (class_of_site p l.site.0)

abbrev pub type_of : View → AbstractValue → AbstractValue
type_of w v =
    join_values (text_if v.flags.undefined (codes "undefined")
    ∷ text_if v.flags.null (codes "object")
    ∷ text_if (v.flags.is_true || v.flags.is_false) (codes "boolean")
    ∷ text_if (v.flags.nan || has_number v.number) (codes "number")
    ∷ text_if (has_text v.text) (codes "string")
    ∷ text_if (some_label w (λ l. v.label l && is_function_label w.program l)) (codes "function")
    ∷ text_if (some_label w (λ l. v.label l && not (is_function_label w.program l)))
    (codes "object") ∷ [])

abbrev pub unary : View → UnaryOp → AbstractValue → AbstractValue
unary w unary_op.ToNum v = (to_num v).value
unary w unary_op.ToText v = (abstract_unary to_text_atom v).value
unary w unary_op.Neg v = (abstract_unary (on_operand (of_operand numbers.neg)) v).value
unary w unary_op.BitNot v = (abstract_unary (on_operand (of_operand bits.not)) v).value
unary w unary_op.ToBool v = truth w v
unary w unary_op.Not v = turned (truth w v)
unary w unary_op.TypeOf v = type_of w v

-- ---- of two values

-- an object is equal to itself alone: the one object of a new label, and maybe those of an old one
abbrev pub may_equal : View → AbstractValue → AbstractValue → Bool
may_equal w a b = some_label w (λ l. a.label l && b.label l)

abbrev pub may_differ : View → AbstractValue → AbstractValue → Bool
may_differ w a b =
    some_label w (λ l. a.label l && some_label w
    (λ m. b.label m && (l.old || not (same_label l m))))
    || ((has_labels w a && has_atoms b) || (has_atoms a && has_labels w b))

abbrev pub is_equality : BinaryOp → Bool
is_equality binary_op.LooseEq = true
is_equality binary_op.LooseNe = true
is_equality binary_op.StrictEq = true
is_equality binary_op.StrictNe = true
is_equality op = false

abbrev pub binary : View → BinaryOp → AbstractValue → AbstractValue → AbstractValue
binary w op a b =
    let of_objects = value_if (is_equality op) (of_bools (may_equal w a b) (may_differ w a b)) in
    finished op (join of_objects (abstract_binary (operator op) a b).value)

-- undefined or null is among it
abbrev pub has_nullish : AbstractValue → Bool
has_nullish v = v.flags.undefined || v.flags.null

-- what isn't an object: absent and a row too
abbrev pub has_non_object : AbstractValue → Bool
has_non_object v = v.flags.absent || (v.flags.row || has_atoms v)
