-- Frames: the registers with which a function is entered, and the names that remain to a
-- `for`-`in`.
use Rattle.std.specs.Prelude.{ℕ, ◌-◌, ◌==◌, if◌then◌else◌, List, [], ◌∷◌, ◌++◌, map, length, replicate, slice_get, slice_set, Option, Some, None, unwrap_or}
use Rattle.std.specs.Option.{option_map_or}
use Rattle.std.specs.List.{range_with_len}
use Rattle.ja_base.specs.declared.ids.FnId.{FnId}
use Rattle.ja_base.specs.declared.ids.NodeId.{NodeId}
use Rattle.ja_base.specs.declared.ids.Reg.{Reg}
use Rattle.ja_prim.specs.declared.primitive.Primitive.TheVariants.{Undefined}
use Rattle.ja_prim.specs.Texts.{same_text}
use Rattle.ja_graph.specs.declared.registers.TheConstants.{SCOPE, THROWN, REST}
use Rattle.ja_graph.specs.declared.program.Function.{Function}
use Rattle.ja_graph.specs.declared.program.Program.{Program}
use Rattle.ja_machine.specs.declared.machine.Addr.{Addr}
use Rattle.ja_machine.specs.declared.machine.Value.{Value}
use Rattle.ja_machine.specs.declared.machine.Value.TheVariants as value
use Rattle.ja_machine.specs.declared.machine.Remaining.{Remaining}
use Rattle.ja_machine.specs.declared.machine.Frame.{Frame}
use Rattle.ja_machine.specs.Writes.{whole_number}

abbrev pub undefined : Value
undefined = value.Primitive Undefined

-- what a register of the frame holds
abbrev pub register_of : Frame → Reg → Value
register_of f r = unwrap_or (slice_get f.registers r.0) undefined

-- the registers named `thrown` and `scope`
abbrev pub thrown : Reg
thrown = THROWN

abbrev pub scope : Reg
scope = SCOPE

abbrev pub moved_to : Frame → NodeId → Frame
moved_to f next = record f { node = next }

abbrev pub with_register : Frame → Reg → Value → Frame
with_register f r v = record f { registers = slice_set f.registers r.0 v }

abbrev pub with_result : Frame → Reg → Value → NodeId → Frame
with_result f dst v next = record f { registers = slice_set f.registers dst.0 v; node = next }

-- ---- entry

abbrev pub parameters_of : Program → FnId → ℕ
parameters_of p f =
    option_map_or (λ (fn : Function). length fn.parameters) (slice_get p.functions f.0) 0

abbrev pub registers_of : Program → FnId → ℕ
registers_of p f = option_map_or (λ (fn : Function). fn.registers) (slice_get p.functions f.0) 0

abbrev pub object_or_undefined : Option Addr → Value
object_or_undefined None = undefined
object_or_undefined (Some a) = value.Object a

abbrev pub argument : List Value → ℕ → Value
argument arguments i = unwrap_or (slice_get arguments i) undefined

-- `thrown`, `this`, `scope`, `callee`, `count`, the parameters, the rest of the arguments and the
-- temporaries: an argument that is missing is undefined, and so are the registers that no argument
-- sets
abbrev pub entry_registers : ℕ → ℕ → Addr → Option Addr → Addr → List Value → List Value
entry_registers registers parameters receiver callee chain arguments =
    undefined ∷ value.Object receiver ∷ value.Object chain ∷ object_or_undefined callee
    ∷ whole_number (length arguments) ∷ map (argument arguments) (range_with_len 0 parameters)
    ++ replicate (registers - REST.0 - parameters) undefined

-- the frame of a function that is entered after so many steps
abbrev pub entered : Program → ℕ → FnId → Addr → Option Addr → Addr → List Value → Frame
entered p steps f receiver callee chain arguments = record {
  function = f;
  node = record { 0 = 0 };
  born = steps;
  receiver = receiver;
  callee = callee;
  scope = chain;
  arguments = arguments;
  registers =
      entry_registers (registers_of p f) (parameters_of p f) receiver callee chain arguments;
  lists = [];
}

-- ---- the lists of `for`-`in` (12.6.4)

abbrev pub remaining : List Remaining → Reg → List (List ℕ)
remaining [] list = []
remaining (r ∷ rs) list = if r.list.0 == list.0 then r.names else remaining rs list

abbrev pub with_remaining : List Remaining → Reg → List (List ℕ) → List Remaining
with_remaining [] list names = record { list = list; names = names } ∷ []
with_remaining (r ∷ rs) list names =
    if r.list.0 == list.0 then record { list = list; names = names } ∷ rs else r
    ∷ with_remaining rs list names

-- names without the first that is this one; none stands twice among those of a list
abbrev pub without_first : List (List ℕ) → List ℕ → List (List ℕ)
without_first [] name = []
without_first (other ∷ names) name =
    if same_text other name then names else other ∷ without_first names name
