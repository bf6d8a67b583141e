-- Operators (ES3 11.4 to 11.14).
use Rattle.std.specs.Prelude.{true, Some, pos}
use Rattle.ja_base.specs.declared.ids.Place.{Place}
use Rattle.ja_base.specs.declared.ids.Reg.{Reg}
use Rattle.ja_prim.specs.declared.primitive.Num.TheVariants.{Whole}
use Rattle.ja_prim.specs.declared.primitive.Primitive.TheVariants as primitive
use Rattle.ja_syntax.specs.declared.tree.BinaryOperator.{BinaryOperator}
use Rattle.ja_syntax.specs.declared.tree.BinaryOperator.TheVariants as operator
use Rattle.ja_syntax.specs.declared.tree.UnaryOperator.{UnaryOperator}
use Rattle.ja_syntax.specs.declared.tree.UnaryOperator.TheVariants as unary
use Rattle.ja_syntax.specs.declared.tree.UpdateOperator.{UpdateOperator}
use Rattle.ja_syntax.specs.declared.tree.UpdateOperator.TheVariants.{IncrementBefore, DecrementBefore, IncrementBehind, DecrementBehind}
use Rattle.ja_graph.specs.declared.node.BinaryOp.{BinaryOp}
use Rattle.ja_graph.specs.declared.node.BinaryOp.TheVariants as op
use Rattle.ja_graph.specs.declared.node.Hint.TheVariants as hint
use Rattle.ja_graph.specs.declared.node.UnaryOp.TheVariants.{Neg, BitNot, Not, TypeOf}
use Rattle.ja_graph.specs.declared.node.Node.TheVariants.{Branch, Convert, Binary, ReadSoft, DeleteRef, DeleteProp, NeedObject, HasProp, InstanceOf}
use Rattle.ja_lower_draft.specs.Lines.{Listing, Valued, Scene, site, spot_of, behind_spots, with_node, with_branch, with_result, with_spot, with_jump, with_default, with_unary, with_number, with_text, with_truth, with_const, with_copy, with_move}
use Rattle.ja_lower_listing.specs.declared.item.Spot.{Spot}
use Rattle.ja_lower_expressions.specs.declared.outcome.Outcome.{Outcome}
use Rattle.ja_lower_expressions.specs.declared.outcome.Outcome.TheVariants.{Value, Name, Member, Special}
use Rattle.ja_lower_expressions.specs.References.{Form, get_value, put_value, value_of}

-- ---- unary operators (11.4)

-- `delete` doesn't read a reference; what is no reference is listed for its effects, and the answer
-- is true (11.4.1)
abbrev pub with_delete : Scene → Place → Outcome → Listing → Valued
with_delete scene place (Value v) l = with_const scene place (primitive.Bool true) l
with_delete scene place (Name base name at) l =
    with_result scene place (λ dst. DeleteRef dst base name) l
with_delete scene place (Member object key at) l =
    with_result scene place (λ dst. DeleteProp dst object key) l
with_delete scene place (Special form at) l = with_const scene place (primitive.Bool true) l

-- a name that nothing binds is no error for `typeof` (11.4.3)
abbrev pub get_softly : Scene → Outcome → Listing → Valued
get_softly scene (Name base name place) l =
    with_result scene place (λ dst. ReadSoft dst base name) l
get_softly scene outcome l = get_value scene outcome l

abbrev pub with_type : Scene → Place → Outcome → Listing → Valued
with_type scene place outcome l = let v = get_softly scene outcome l in
    with_unary scene place TypeOf v.value v.listing

-- what an operator does with the value of its operand
abbrev pub apply_unary : UnaryOperator → Scene → Place → Reg → Listing → Valued
apply_unary unary.Void scene place v l = with_const scene place primitive.Undefined l
apply_unary unary.Plus scene place v l = with_number scene place v l
apply_unary unary.Minus scene place v l = let n = with_number scene place v l in
    with_unary scene place Neg n.value n.listing
apply_unary unary.Complement scene place v l = let n = with_number scene place v l in
    with_unary scene place BitNot n.value n.listing
apply_unary unary.Not scene place v l = let b = with_truth scene place v l in
    with_unary scene place Not b.value b.listing
apply_unary operator scene place v l = record { listing = l; value = v }

abbrev pub on_value : UnaryOperator → Scene → Place → Outcome → Listing → Valued
on_value operator scene place outcome l = let v = get_value scene outcome l in
    apply_unary operator scene place v.value v.listing

-- an operator before what its operand comes to
abbrev pub on_outcome : UnaryOperator → Scene → Place → Outcome → Listing → Valued
on_outcome unary.Delete scene place outcome l = with_delete scene place outcome l
on_outcome unary.Typeof scene place outcome l = with_type scene place outcome l
on_outcome operator scene place outcome l = on_value operator scene place outcome l

unfoldable pub list_unary : UnaryOperator → Form → Place → Scene → Listing → Valued
list_unary operator operand place scene l = let r = operand scene l in
    on_outcome operator scene place r.outcome r.listing

-- ---- `++` and `--` (11.3, 11.4.4, 11.4.5)

abbrev pub update_op : UpdateOperator → BinaryOp
update_op IncrementBefore = op.Add
update_op DecrementBefore = op.Sub
update_op IncrementBehind = op.Add
update_op DecrementBehind = op.Sub

-- the value is the new number before the operand, and the number that was read behind it
abbrev pub update_value : UpdateOperator → Reg → Reg → Reg
update_value IncrementBefore old new = new
update_value DecrementBefore old new = new
update_value IncrementBehind old new = old
update_value DecrementBehind old new = old

unfoldable pub update_outcome : UpdateOperator → Scene → Place → Outcome → Listing → Valued
update_outcome operator scene place outcome l =
    let v = get_value scene outcome l in
    let old = with_number scene place v.value v.listing in
    let one = with_const scene place (primitive.Number (Whole (pos 1))) old.listing in
    let new = with_result scene place (λ dst. Binary dst (update_op operator) old.value one.value)
    one.listing in
    record {
      listing = put_value scene place outcome new.value new.listing;
      value = update_value operator old.value new.value;
    }

unfoldable pub list_update : UpdateOperator → Form → Place → Scene → Listing → Valued
list_update operator operand place scene l =
    let r = operand scene l in update_outcome operator scene place r.outcome r.listing

-- ---- operators between two operands, whose values are in registers

-- the operation of other arithmetic, of shifts and of bits
abbrev pub binary_op : BinaryOperator → BinaryOp
binary_op operator.Times = op.Mul
binary_op operator.Divide = op.Div
binary_op operator.Remainder = op.Rem
binary_op operator.Minus = op.Sub
binary_op operator.ShiftLeft = op.Shl
binary_op operator.ShiftRight = op.Shr
binary_op operator.ShiftRightUnsigned = op.Ushr
binary_op operator.BitAnd = op.And
binary_op operator.BitXor = op.Xor
binary_op operator.BitOr = op.Or
binary_op other = op.Add

abbrev pub with_binary : Scene → Place → BinaryOp → Reg → Reg → Listing → Valued
with_binary scene place o a b l = with_result scene place (λ dst. Binary dst o a b) l

-- `+`, `<` and `>=` take the default values of both, the left one first (11.6.1, 11.8)
unfoldable pub on_defaults : BinaryOp → Scene → Place → Reg → Reg → Listing → Valued
on_defaults o scene place a b l =
    let x = with_default scene place hint.Number a l in
    let y = with_default scene place hint.Number b x.listing in
    with_binary scene place o x.value y.value y.listing

-- `>` and `<=` take that of the right one first (11.8.2, 11.8.3)
unfoldable pub on_defaults_backwards : BinaryOp → Scene → Place → Reg → Reg → Listing → Valued
on_defaults_backwards o scene place a b l =
    let y = with_default scene place hint.Number b l in
    let x = with_default scene place hint.Number a y.listing in
    with_binary scene place o x.value y.value x.listing

-- other arithmetic, shifts and bits take both as numbers (11.5, 11.6.2, 11.7, 11.10)
unfoldable pub on_numbers : BinaryOp → Scene → Place → Reg → Reg → Listing → Valued
on_numbers o scene place a b l =
    let x = with_number scene place a l in
    let y = with_number scene place b x.listing in
    with_binary scene place o x.value y.value y.listing

-- `==` and `!=` take the default value of an object against a primitive that is neither undefined
-- nor null (11.9.1 to 11.9.3)
abbrev pub beside : Scene → Place → Reg → Reg → Listing → Valued
beside scene place src other l =
    with_result scene place (λ dst. Convert dst src hint.Number (Some other)) l

unfoldable pub on_loose : BinaryOp → Scene → Place → Reg → Reg → Listing → Valued
on_loose o scene place a b l =
    let x = beside scene place a b l in
    let y = beside scene place b a x.listing in
    with_binary scene place o x.value y.value y.listing

-- 11.8.7
unfoldable pub on_in : Scene → Place → Reg → Reg → Listing → Valued
on_in scene place a b l =
    let k = with_text scene place a (with_node scene place (NeedObject b (site 0)) l) in
    with_result scene place (λ dst. HasProp dst b k.value) k.listing

-- 11.8.6
abbrev pub on_instance : Scene → Place → Reg → Reg → Listing → Valued
on_instance scene place a b l =
    with_result scene place (λ dst. InstanceOf dst a b (site 0) (site 1)) l

abbrev pub apply_binary : BinaryOperator → Scene → Place → Reg → Reg → Listing → Valued
apply_binary operator.Plus scene place a b l = on_defaults op.Add scene place a b l
apply_binary operator.Less scene place a b l = on_defaults op.Lt scene place a b l
apply_binary operator.GreaterEqual scene place a b l = on_defaults op.Ge scene place a b l
apply_binary operator.Greater scene place a b l = on_defaults_backwards op.Gt scene place a b l
apply_binary operator.LessEqual scene place a b l = on_defaults_backwards op.Le scene place a b l
apply_binary operator.Equal scene place a b l = on_loose op.LooseEq scene place a b l
apply_binary operator.NotEqual scene place a b l = on_loose op.LooseNe scene place a b l
apply_binary operator.StrictEqual scene place a b l = with_binary scene place op.StrictEq a b l
apply_binary operator.StrictNotEqual scene place a b l = with_binary scene place op.StrictNe a b l
apply_binary operator.In scene place a b l = on_in scene place a b l
apply_binary operator.Instanceof scene place a b l = on_instance scene place a b l
apply_binary operator scene place a b l = on_numbers (binary_op operator) scene place a b l

-- ---- `&&`, `||` and `?` (11.11, 11.12)

-- From the value of the left operand: it is moved to where the value of both stands; the right
-- operand is listed where the left one doesn't decide.
unfoldable pub and_then : Form → Place → Scene → Reg → Listing → Valued
and_then right place scene a l =
    let end = spot_of l 0 in
    let value = with_copy scene place a (behind_spots 1 l) in
    let b = with_truth scene place a value.listing in
    let y = value_of right scene (with_branch scene place (Branch b.value) end b.listing) in
    record {
      listing = with_spot end (with_move scene place value.value y.value y.listing);
      value = value.value;
    }

unfoldable pub or_else : Form → Place → Scene → Reg → Listing → Valued
or_else right place scene a l =
    let end = spot_of l 0 in
    let other = spot_of l 1 in
    let value = with_copy scene place a (behind_spots 2 l) in
    let b = with_truth scene place a value.listing in
    let y = value_of right scene (with_spot other
    (with_jump end (with_branch scene place (Branch b.value) other b.listing))) in
    record {
      listing = with_spot end (with_move scene place value.value y.value y.listing);
      value = value.value;
    }

-- what is listed of `?` behind its condition
pub record Choice : Type 0 where
  pub listing : Listing
  pub value : Reg
  pub other : Spot
  pub end : Spot

-- the consequent, whose value is moved to where the value of both stands
unfoldable pub consequence : Form → Place → Scene → Reg → Listing → Choice
consequence consequent place scene condition l =
    let b = with_truth scene place condition l in
    let other = spot_of b.listing 0 in
    let end = spot_of b.listing 1 in
    let y = value_of consequent scene (with_branch scene place (Branch b.value) other
    (behind_spots 2 b.listing)) in
    let value = with_copy scene place y.value y.listing in
    record { listing = value.listing; value = value.value; other = other; end = end }

-- the other expression behind it
unfoldable pub alternative : Form → Place → Scene → Choice → Valued
alternative otherwise place scene choice =
    let z = value_of otherwise scene (with_spot choice.other
    (with_jump choice.end choice.listing)) in
    record {
      listing = with_spot choice.end (with_move scene place choice.value z.value z.listing);
      value = choice.value;
    }

unfoldable pub list_conditional : Form → Form → Form → Place → Scene → Listing → Valued
list_conditional condition consequent otherwise place scene l =
    let c = value_of condition scene l in
    alternative otherwise place scene (consequence consequent place scene c.value c.listing)

-- an operation behind what was listed: `&&` and `||` stand at the first token of the form, any
-- other at its operator
unfoldable pub apply_operation : BinaryOperator → Form → Place → Place → Scene → Valued → Valued
apply_operation operator.And right first place scene v =
    and_then right first scene v.value v.listing
apply_operation operator.Or right first place scene v = or_else right first scene v.value v.listing
apply_operation operator right first place scene v =
    let y = value_of right scene v.listing in
    apply_binary operator scene place v.value y.value y.listing

-- ---- assignments (11.13)

-- to what the target comes to
unfoldable pub assign_to : Form → Place → Scene → Outcome → Listing → Valued
assign_to value place scene target l =
    let v = value_of value scene l in
    record { listing = put_value scene place target v.value v.listing; value = v.value }

unfoldable pub assign_to_by : BinaryOperator → Form → Place → Scene → Outcome → Listing → Valued
assign_to_by operator value place scene target l =
    let old = get_value scene target l in
    let v = value_of value scene old.listing in
    let new = apply_binary operator scene place old.value v.value v.listing in
    record { listing = put_value scene place target new.value new.listing; value = new.value }

unfoldable pub assign : Form → Form → Place → Scene → Listing → Valued
assign target value place scene l = let r = target scene l in
    assign_to value place scene r.outcome r.listing

unfoldable pub assign_by : BinaryOperator → Form → Form → Place → Scene → Listing → Valued
assign_by operator target value place scene l =
    let r = target scene l in assign_to_by operator value place scene r.outcome r.listing
