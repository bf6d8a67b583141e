-- What the rows of nodes that compute on registers give, computed.
use Rattle.std.specs.Prelude.{◌≡◌, ℕ, pos, negsuc, true, List, [], ◌∷◌, String}
use Rattle.std.specs.Global.{Global}
use Rattle.std.proofs.Common.{refl}
use lib.Chars.{codes}
use Rattle.ja_base.specs.declared.ids.ScopeKind.TheVariants as scope_kind
use Rattle.ja_prim.specs.declared.primitive.Num.TheVariants.{Whole}
use Rattle.ja_prim.specs.declared.primitive.Primitive.TheVariants as primitive
use Rattle.ja_graph.specs.declared.node.Node.{Node}
use Rattle.ja_graph.specs.declared.node.Node.TheVariants as node
use Rattle.ja_graph.specs.declared.node.UnaryOp.{UnaryOp}
use Rattle.ja_graph.specs.declared.node.UnaryOp.TheVariants as unary_op
use Rattle.ja_graph.specs.declared.node.BinaryOp.{BinaryOp}
use Rattle.ja_graph.specs.declared.node.BinaryOp.TheVariants as binary_op
use Rattle.ja_abstract.specs.declared.abstraction.NumberPart.TheVariants as number_part
use Rattle.ja_abstract.specs.declared.abstraction.TextPart.TheVariants as text_part
use Rattle.ja_abstract.specs.AbstractValue.{AbstractValue, join, no_value, null_value, undefined_value, of_label, of_primitive}
use Rattle.ja_abstract.specs.Primitives.{of_bools, of_number_part, of_text_part, whole_value, nan_value}
use Rattle.ja_laws.proofs.SmallProgram.{reg, blank, holding, number, one_text, true_value, false_value, object, old_objects, array, function_object, SeenValue, seen}
use Rattle.ja_rows.specs.Out.{nowhere}
use Rattle.ja_laws.proofs.SmallSteps.{gives, sets, goes_to}

module _ (text : String Global) where
  -- ---- Const, Move

  abbrev five : Node
  five = node.Const (reg 6) (primitive.Number (Whole (pos 5)))

  const_sets : sets text five (holding 6 nan_value blank) 6 ≡ (1, seen (number 5)) ∷ []
  const_sets = refl

  const_leaves_others : sets text five (holding 7 nan_value blank) 7 ≡ (1, seen nan_value) ∷ []
  const_leaves_others = refl

  abbrev move : Node
  move = node.Move (reg 6) (reg 7)

  move_sets : sets text move (holding 7 (join null_value (of_label object)) blank) 6
      ≡ (1, seen (join null_value (of_label object))) ∷ []
  move_sets = refl

  -- a register without a part gives no state
  move_of_nothing : goes_to text move (holding 7 no_value blank) ≡ []
  move_of_nothing = refl

  -- ---- Unary

  abbrev unary : UnaryOp → AbstractValue → List (ℕ × SeenValue)
  unary op v = sets text (node.Unary (reg 6) op (reg 7)) (holding 7 v blank) 6

  number_of_undefined : unary unary_op.ToNum undefined_value ≡ (1, seen nan_value) ∷ []
  number_of_undefined = refl

  number_of_true : unary unary_op.ToNum true_value ≡ (1, seen (number 1)) ∷ []
  number_of_true = refl

  -- an operator on primitives takes no object
  number_of_object : unary unary_op.ToNum (of_label object) ≡ []
  number_of_object = refl

  text_of_index : unary unary_op.ToText (of_number_part number_part.Index)
      ≡ (1, seen (of_text_part text_part.IndexText)) ∷ []
  text_of_index = refl

  negative : unary unary_op.Neg (number 5)
      ≡ (1, seen (of_primitive (primitive.Number (Whole (negsuc 4))))) ∷ []
  negative = refl

  negative_class : unary unary_op.Neg (of_number_part number_part.Index) ≡ (1, seen whole_value)
      ∷ []
  negative_class = refl

  complement : unary unary_op.BitNot (number 0)
      ≡ (1, seen (of_primitive (primitive.Number (Whole (negsuc 0))))) ∷ []
  complement = refl

  object_is_true : unary unary_op.ToBool (of_label object) ≡ (1, seen true_value) ∷ []
  object_is_true = refl

  truth_of_both : unary unary_op.ToBool (join null_value (of_label object))
      ≡ (1, seen (of_bools true true)) ∷ []
  truth_of_both = refl

  not_turns : unary unary_op.Not (join null_value (number 0)) ≡ (1, seen true_value) ∷ []
  not_turns = refl

  not_of_object : unary unary_op.Not (of_label object) ≡ (1, seen false_value) ∷ []
  not_of_object = refl

  type_of_function : unary unary_op.TypeOf (of_label function_object)
      ≡ (1, seen (one_text (codes "function"))) ∷ []
  type_of_function = refl

  type_of_null_and_array : unary unary_op.TypeOf (join null_value (of_label array))
      ≡ (1, seen (one_text (codes "object"))) ∷ []
  type_of_null_and_array = refl

  -- two constants are a class
  type_of_two : unary unary_op.TypeOf (join (number 1) true_value)
      ≡ (1, seen (of_text_part text_part.OtherText)) ∷ []
  type_of_two = refl

  -- ---- Binary

  abbrev binary : BinaryOp → AbstractValue → AbstractValue → List (ℕ × SeenValue)
  binary op v u = sets text (node.Binary (reg 6) op (reg 7) (reg 8))
      (holding 7 v (holding 8 u blank)) 6

  sum : binary binary_op.Add (number 2) (number 3) ≡ (1, seen (number 5)) ∷ []
  sum = refl

  sum_of_texts : binary binary_op.Add (one_text (codes "2")) (one_text (codes "3"))
      ≡ (1, seen (one_text (codes "23"))) ∷ []
  sum_of_texts = refl

  -- an operation that stops gives no state
  past_the_range : binary binary_op.Mul (number 9007199254740991) (number 2) ≡ []
  past_the_range = refl

  -- the first operand is the left one
  difference : binary binary_op.Sub (number 5) (number 3) ≡ (1, seen (number 2)) ∷ []
  difference = refl

  less : binary binary_op.Lt (number 1) (number 2) ≡ (1, seen true_value) ∷ []
  less = refl

  greater : binary binary_op.Gt (number 1) (number 2) ≡ (1, seen false_value) ∷ []
  greater = refl

  at_most_itself : binary binary_op.Le (number 2) (number 2) ≡ (1, seen true_value) ∷ []
  at_most_itself = refl

  -- no comparison with NaN is true
  not_at_least : binary binary_op.Ge nan_value (number 2) ≡ (1, seen false_value) ∷ []
  not_at_least = refl

  new_is_itself : binary binary_op.StrictEq (of_label object) (of_label object)
      ≡ (1, seen true_value) ∷ []
  new_is_itself = refl

  old_may_be_another : binary binary_op.StrictEq (of_label old_objects) (of_label old_objects)
      ≡ (1, seen (of_bools true true)) ∷ []
  old_may_be_another = refl

  new_is_not_old : binary binary_op.LooseEq (of_label object) (of_label old_objects)
      ≡ (1, seen false_value) ∷ []
  new_is_not_old = refl

  object_is_no_primitive : binary binary_op.LooseNe (of_label object) (number 1)
      ≡ (1, seen true_value) ∷ []
  object_is_no_primitive = refl

  nothings_are_equal : binary binary_op.LooseEq undefined_value null_value ≡ (1, seen true_value)
      ∷ []
  nothings_are_equal = refl

  nothings_differ : binary binary_op.StrictNe undefined_value null_value ≡ (1, seen true_value) ∷ []
  nothings_differ = refl

  no_objects_are_added : binary binary_op.Add (of_label object) (number 1) ≡ []
  no_objects_are_added = refl

  -- ---- Branch

  abbrev branch : AbstractValue → List (ℕ × SeenValue)
  branch v = sets text (node.Branch (reg 6)) (holding 6 v blank) 6

  on_true : branch true_value ≡ (1, seen true_value) ∷ []
  on_true = refl

  on_false : branch false_value ≡ (2, seen false_value) ∷ []
  on_false = refl

  on_either : branch (of_bools true true) ≡ (1, seen (of_bools true true))
      ∷ (2, seen (of_bools true true)) ∷ []
  on_either = refl

  on_no_truth : branch (number 1) ≡ []
  on_no_truth = refl

  -- ---- Throw

  abbrev throw : AbstractValue → List (ℕ × SeenValue)
  throw v = sets text (node.Throw (reg 6)) (holding 6 v blank) 0

  throws_to_handler : throw (number 5) ≡ (3, seen (number 5)) ∷ []
  throws_to_handler = refl

  throws_nothing : throw no_value ≡ []
  throws_nothing = refl

  -- ---- Return, Escape, Stop

  return_gives_nothing : gives text (node.Return (reg 5)) blank ≡ nowhere
  return_gives_nothing = refl

  escape_gives_nothing : gives text node.Escape blank ≡ nowhere
  escape_gives_nothing = refl

  stop_gives_nothing : gives text (node.Stop scope_kind.Row) blank ≡ nowhere
  stop_gives_nothing = refl
