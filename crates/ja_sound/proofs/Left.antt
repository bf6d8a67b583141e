-- Each step out of a function is sound.
use Rattle.std.specs.Prelude.{◌≡◌, ◌⊎◌, ◌<◌, length, Some}
use Rattle.std.specs.List.{AllByRecursion}
use Rattle.std.specs.Option.{option_to_list}
use Rattle.std.proofs.Common.{sym, subst, inl, inr, arith}
use Rattle.ja_base.specs.declared.ids.Reg.{Reg}
use Rattle.ja_graph.specs.declared.node.Node.{Node}
use Rattle.ja_graph.specs.declared.node.Node.TheVariants as node
use Rattle.ja_graph.specs.declared.node.NodeInfo.{NodeInfo}
use Rattle.ja_graph.specs.declared.program.Function.{Function}
use Rattle.ja_graph.specs.declared.program.Program.{Program}
use Rattle.ja_graph.specs.Node.{register_set, registers_named}
use Rattle.ja_graph.specs.Program.{node_at}
use Rattle.ja_graph.specs.WellFormed.{IsWellFormed, IsDestination, IsRegister}
use Rattle.ja_machine.specs.declared.machine.Heap.{Heap}
use Rattle.ja_machine.specs.declared.machine.Frame.{Frame}
use Rattle.ja_machine.specs.Frames.{thrown}
use Rattle.ja_machine.specs.State.{IsFrame, AreFrames}
use Rattle.ja_machine.specs.Runs.{AreSteps}
use Rattle.ja_machine.proofs.Standing.{node_well_formed, sets_thrown}
use Rattle.ja_sound.specs.Statements.{SoundOutOf}
use Rattle.ja_sound.proofs.Registers.{destination_of}
use Rattle.ja_sound.proofs.Returned.{Sets, DestinationsFit, given_after}

-- ---- registers of well-formed nodes

destination_by : (fn : Function) (n : Node) (r : Reg) → Sets n r
    → AllByRecursion (IsDestination fn) (option_to_list (register_set n)) → IsDestination fn r
unfolding register_set
destination_by fn (node.Call dst callee receiver args error) r is all =
    subst (IsDestination fn) is all.0
destination_by fn (node.New dst callee args site error) r is all =
    subst (IsDestination fn) is all.0
destination_by fn (node.Convert dst src hint other) r is all = subst (IsDestination fn) is all.0
destination_by fn n r is all = elim is [ ]

returned_register : (fn : Function) (n : Node) (r : Reg) → n ≡ node.Return r
    → AllByRecursion (IsRegister fn) (registers_named n) → IsRegister fn r
unfolding registers_named
returned_register fn n r is all =
    (subst (λ m. AllByRecursion (IsRegister fn) (registers_named m)) is all).0

module _ (p : Program) (good : IsWellFormed p) where
  destinations_fit : DestinationsFit p
  destinations_fit h f i r known at (inl is) =
      destination_of p h f known r (destination_by known.function i.node r is
      (node_well_formed p good h f known i at).sets)
  destinations_fit h f i r known at (inr is) =
      destination_of p h f known r (subst (IsDestination known.function) (sym is)
      (sets_thrown p good h f known))

  -- what a Return or an Escape reads is a register of the frame
  left_fits : (h : Heap) (f : Frame) (i : NodeInfo) → IsFrame p h f
      → node_at p f.function f.node ≡ Some i → (r : Reg) → i.node ≡ node.Return r ⊎ (r ≡ thrown)
      → r.0 < length f.registers
  left_fits h f i known at r (inl is) =
      let k : length f.registers ≡ known.function.registers = known.registers in
      let l : r.0 < known.function.registers =
      returned_register known.function i.node r is
      (node_well_formed p good h f known i at).names_registers in
      omega arith
  left_fits h f i known at r (inr is) =
      let k : length f.registers ≡ known.function.registers = known.registers in
      let d : IsDestination known.function r =
      subst (IsDestination known.function) (sym is) (sets_thrown p good h f known) in
      let l : r.0 < known.function.registers = d.0 in
      omega arith

  pub returns_sound : AreSteps p → SoundOutOf p
  returns_sound steps e m c d answer top caller moved below x y w exit calling at next known after
      same =
      let frames = subst (AreFrames p c.heap) at.frames_are at.known.frames in
      given_after p destinations_fit e m c d top caller moved below x y w exit calling at
      (left_fits c.heap top y.info frames.0 at.info) steps answer next after
