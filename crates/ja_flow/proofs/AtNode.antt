-- At the node of a call the registers and sites that an edge takes are of the state.
use Rattle.std.proofs.Common.{arith, ◌≡◌, ◌<◌, ◌≤◌, ◌+◌, ℕ, [], length, Option, Some, None, refl, sym, subst, ap, ◌∙◌, vec_len}
use Rattle.std.specs.Option.{IfSome, option_map_or, option_to_list}
use Rattle.std.specs.List.{AllByRecursion, slice_get}
use Rattle.ja_base.specs.declared.ids.Reg.{Reg}
use Rattle.ja_base.proofs.Lists.{all_weaker, element_within}
use Rattle.ja_base.specs.declared.ids.FnId.{FnId}
use Rattle.ja_base.proofs.Options.{none_not_some}
use Rattle.ja_graph.specs.declared.node.Node.{Node}
use Rattle.ja_graph.specs.declared.node.Node.TheVariants as node
use Rattle.ja_graph.specs.declared.node.NodeInfo.{NodeInfo}
use Rattle.ja_graph.specs.declared.program.Function.{Function}
use Rattle.ja_graph.specs.declared.program.Program.{Program}
use Rattle.ja_graph.specs.Node.{Making, register_set, registers_named, makings}
use Rattle.ja_graph.specs.WellFormed.{IsWellFormed, IsRegister, IsDestination, IsNodeWellFormed, IsFunctionWellFormed}
use Rattle.ja_machine.specs.Frames.{parameters_of, registers_of}
use Rattle.ja_machine.proofs.Nodes.{IsTold, node_told}
use Rattle.ja_rows.specs.Out.{Point}
use Rattle.ja_aheap.specs.Heap.{heap_of}
use Rattle.ja_astate.specs.declared.state.AState.{AState}
use Rattle.ja_transfer.specs.Outcomes.{IsAtNode}
use Rattle.ja_transfer.proofs.FunctionAt.{HasFunction, function_at}
use Rattle.ja_flow.specs.code.Back.{destination}
use Rattle.ja_flow.specs.code.Calling.{callee_of}

-- a function has the registers of its parameters and those that each function has
pub fixed_of : (p : Program) (f : FnId) → IsWellFormed p → f.0 < length p.functions
    → 6 + parameters_of p f ≤ registers_of p f
fixed_of p f good within = by (slice_get p.functions f.0) refl
  where
    by : (o : Option Function) → slice_get p.functions f.0 ≡ o → 6 + parameters_of p f
        ≤ registers_of p f
    by None none =
        let (fn, some) = element_within p.functions f.0 within in
        absurd (none_not_some (sym none ∙ some))
    by (Some fn) some =
        let parameters : parameters_of p f ≡ length fn.parameters =
        ap (λ o. option_map_or (λ (fn : Function). length fn.parameters) o 0) some in
        let registers : registers_of p f ≡ fn.registers =
        ap (λ o. option_map_or (λ (fn : Function). fn.registers) o 0) some in
        omega (arith, (good.each f.0 fn some).registers, parameters, registers)

-- the site of a construction
abbrev pub HasSite : ℕ → Node → Type 0
HasSite s (node.New dst callee list site error) = site.0 < s
HasSite s n = Unit {0}

site_made : (s : ℕ) (n : Node) → AllByRecursion (λ (m : Making). m.site.0 < s) (makings n)
    → HasSite s n
unfolding makings
site_made s (node.New dst callee list site error) sites = sites.0
site_made s n sites = tt

callee_named : (r : ℕ) (n : Node) → AllByRecursion (λ (x : Reg). x.0 < r) (registers_named n)
    → IfSome (callee_of n) (λ c. c.1.0 < r)
unfolding registers_named
callee_named r (node.Call dst callee receiver list error) named = named.0
callee_named r (node.New dst callee list site error) named = named.0
callee_named r n named = tt

destination_set : (fn : Function) (n : Node)
    → AllByRecursion (IsDestination fn) (option_to_list (register_set n))
    → IfSome (destination n) (λ (d : Reg). d.0 < fn.registers)
unfolding register_set
destination_set fn (node.Call dst callee receiver list error) sets = sets.0.0
destination_set fn (node.New dst callee list site error) sets = sets.0.0
destination_set fn (node.Convert dst src kind other) sets = sets.0.0
destination_set fn n sets = tt

module _ (p : Program) (x : Point) (a : AState) (at : IsAtNode p x a) where
  stands : HasFunction (slice_get p.functions x.context.function.0) x.number.0 x.info
  stands = function_at (slice_get p.functions x.context.function.0) x.number.0 x.info at.node_is

  well : IsFunctionWellFormed p stands.function
  well = at.well_formed.each x.context.function.0 stands.function stands.function_is

  known : IsNodeWellFormed p stands.function x.info
  known = well.each x.number.0 x.info stands.info_is

  registers_are : vec_len a.registers ≡ stands.function.registers
  registers_are =
      at.state_is.registers
      ∙ ap (λ o. option_map_or (λ (fn : Function). fn.registers) o 0) stands.function_is

  parameters_are : parameters_of p x.context.function ≡ length stands.function.parameters
  parameters_are =
      ap (λ o. option_map_or (λ (fn : Function). length fn.parameters) o 0) stands.function_is

  pub registers_within : AllByRecursion (λ (r : Reg). r.0 < vec_len a.registers)
      (registers_named x.info.node)
  registers_within =
      all_weaker (IsRegister stands.function) (λ (r : Reg). r.0 < vec_len a.registers)
      (λ r within. subst (λ n. r.0 < n) (sym registers_are) within)
      (registers_named x.info.node) known.names_registers

  pub callee_within : IfSome (callee_of x.info.node) (λ c. c.1.0 < vec_len a.registers)
  callee_within = callee_named (vec_len a.registers) x.info.node registers_within

  pub destination_within : IfSome (destination x.info.node)
      (λ (d : Reg). d.0 < vec_len a.registers)
  destination_within =
      subst (λ n. IfSome (destination x.info.node) (λ (d : Reg). d.0 < n)) (sym registers_are)
      (destination_set stands.function x.info.node known.sets)

  pub site_within : HasSite (heap_of a.heap).sites x.info.node
  site_within =
      site_made (heap_of a.heap).sites x.info.node
      (all_weaker (IsTold p) (λ (m : Making). m.site.0 < (heap_of a.heap).sites)
      (λ m told. let within : m.site.0 < length p.sites = told.site.1 in
      omega (arith, within, at.state_is.heap.sites)) (makings x.info.node)
      (node_told p at.well_formed x.context.function.0 stands.function x.number.0 x.info
      stands.function_is stands.info_is))

  pub fixed_within : 5 + parameters_of p x.context.function < vec_len a.registers
  fixed_within = omega (arith, well.registers, registers_are, parameters_are)

  pub few_registers : vec_len a.registers < 4294967296
  few_registers = omega (arith, well.few_registers, registers_are)
