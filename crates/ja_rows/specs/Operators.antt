-- The nodes that compute on registers, and those that go on by one.
use Rattle.std.specs.Prelude.{◌++◌}
use Rattle.ja_base.specs.declared.ids.Reg.{Reg}
use Rattle.ja_prim.specs.declared.primitive.Primitive.{Primitive}
use Rattle.ja_graph.specs.declared.node.NodeInfo.{NodeInfo}
use Rattle.ja_graph.specs.declared.node.UnaryOp.{UnaryOp}
use Rattle.ja_graph.specs.declared.node.BinaryOp.{BinaryOp}
use Rattle.ja_machine.specs.Frames.{thrown}
use Rattle.ja_abstract.specs.AbstractValue.{of_primitive}
use Rattle.ja_abstract.specs.Reading.{View, no_demands}
use Rattle.ja_abstract.specs.Values.{unary, binary}
use Rattle.ja_rows.specs.Out.{Out, out, goes, sets, at}

-- a register is a constant
abbrev pub transfer_const : View → NodeInfo → Reg → Primitive → Out
transfer_const w i dst q = out (sets w dst (of_primitive q) i.next) no_demands

-- a register is another
abbrev pub transfer_move : View → NodeInfo → Reg → Reg → Out
transfer_move w i dst src = out (sets w dst (at w src) i.next) no_demands

-- an operator on one value (11.4)
abbrev pub transfer_unary : View → NodeInfo → Reg → UnaryOp → Reg → Out
transfer_unary w i dst op src = out (sets w dst (unary w op (at w src)) i.next) no_demands

-- an operator on two values (11.5 to 11.10)
abbrev pub transfer_binary : View → NodeInfo → Reg → BinaryOp → Reg → Reg → Out
transfer_binary w i dst op a b = out (sets w dst (binary w op (at w a) (at w b)) i.next) no_demands

-- to one node on true, to the other on false
abbrev pub transfer_branch : View → NodeInfo → Reg → Out
transfer_branch w i src =
    out (goes (at w src).flags.is_true i.next w.state
    ++ goes (at w src).flags.is_false i.other w.state) no_demands

-- a value is thrown (12.13)
abbrev pub transfer_throw : View → NodeInfo → Reg → Out
transfer_throw w i src = out (sets w thrown (at w src) i.handler) no_demands
