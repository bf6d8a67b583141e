-- What is known of the nodes of a well-formed program.
use Rattle.std.proofs.Common.{◌≡◌, ◌<◌, ◌≤◌, length, Some, None, Option, refl, subst, arith}
use Rattle.std.specs.Prelude.{slice_get}
use Rattle.std.specs.Option.{option_map_or, option_to_list}
use Rattle.std.specs.List.{AllByRecursion}
use Rattle.ja_base.specs.declared.ids.FnId.{FnId}
use Rattle.ja_base.specs.declared.ids.NameId.{NameId}
use Rattle.ja_prim.specs.Judged.{max_magnitude}
use Rattle.ja_graph.specs.declared.node.NodeInfo.{NodeInfo}
use Rattle.ja_graph.specs.declared.program.Function.{Function}
use Rattle.ja_graph.specs.declared.program.Program.{Program}
use Rattle.ja_graph.specs.Node.{name_in, function_in}
use Rattle.ja_graph.specs.WellFormed.{IsWellFormed, IsNodeWellFormed, IsName, fixed_registers}
use Rattle.ja_machine.specs.Frames.{parameters_of}

-- ---- numbers in range

module _ (p : Program) (fn : Function) (info : NodeInfo) (well : IsNodeWellFormed p fn info) where
  -- the name of a node is one of the program
  pub named : (name : NameId) → name_in info.node ≡ Some name → name.0 < length p.names
  named name e =
      (subst (λ (o : Option NameId). AllByRecursion (IsName p) (option_to_list o)) e well.name).0

  -- .. and so is its function, which has no more parameters than registers
  pub few_parameters : IsWellFormed p → (f : FnId) → function_in info.node ≡ Some f
      → parameters_of p f ≤ max_magnitude
  few_parameters good f e = few (slice_get p.functions f.0) refl
    where
      few : (found : Option Function) → slice_get p.functions f.0 ≡ found
          → option_map_or (λ (g : Function). length g.parameters) found 0 ≤ max_magnitude
      few None is = omega arith
      few (Some g) is =
          let most : g.registers ≤ 262144 = (good.each f.0 g is).few_registers in
          let all : fixed_registers g ≤ g.registers = (good.each f.0 g is).registers in
          omega arith
