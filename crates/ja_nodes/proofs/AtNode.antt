-- At a node of a program the registers, names and sites that its row takes are of the state and of
-- the program.
use Rattle.std.proofs.Common.{arith, ◌≡◌, ◌≢◌, ◌<◌, ◌+◌, ℕ, suc, [], length, Option, Some, None, refl, sym, subst, ap, ◌∙◌, vec_len}
use Rattle.std.specs.Option.{IfSome, option_map_or, option_to_list}
use Rattle.std.specs.List.{AllByRecursion, slice_get}
use Rattle.std.proofs.lemmas.Option.{slice_get_within}
use Rattle.ja_base.specs.declared.ids.FnId.{FnId}
use Rattle.ja_base.specs.declared.ids.Reg.{Reg}
use Rattle.ja_base.specs.declared.ids.Site.{Site}
use Rattle.ja_base.proofs.Lists.{all_weaker}
use Rattle.ja_graph.specs.declared.node.Node.{Node}
use Rattle.ja_graph.specs.declared.node.Node.TheVariants as node
use Rattle.ja_graph.specs.declared.node.NodeInfo.{NodeInfo}
use Rattle.ja_graph.specs.declared.program.Class.TheVariants as class
use Rattle.ja_graph.specs.declared.program.Function.{Function}
use Rattle.ja_graph.specs.declared.program.Program.{Program}
use Rattle.ja_graph.specs.Node.{Making, making_if_any, register_set, registers_named, name_in, makings}
use Rattle.ja_graph.specs.Program.{global}
use Rattle.ja_graph.specs.Node.{makes_arguments}
use Rattle.ja_graph.specs.WellFormed.{IsDestination, IsRegister, IsName, IsNodeWellFormed, IsWellFormed}
use Rattle.ja_machine.proofs.Nodes.{IsMadeAs, InOrder, node_makings}
use Rattle.ja_abstract.specs.Made.{parameter_ids}
use Rattle.ja_rows.specs.Out.{Point}
use Rattle.ja_aheap.specs.Heap.{heap_of}
use Rattle.ja_astate.specs.declared.state.AState.{AState}
use Rattle.ja_transfer.specs.Outcomes.{IsAtNode}
use Rattle.ja_transfer.proofs.FunctionAt.{HasFunction, function_at}

-- ---- the numbers that the row of a kind takes: of registers, names and sites, which differ

abbrev pub HasNumbers : Program → ℕ → ℕ → Node → Type 0
HasNumbers p r s (node.Const dst q) = dst.0 < r
HasNumbers p r s (node.Move dst src) = (dst.0 < r) × (src.0 < r)
HasNumbers p r s (node.FindName dst name) = dst.0 < r
HasNumbers p r s (node.ReadRef dst base name error) =
    (dst.0 < r) × (base.0 < r) × IsName p name × (error.0 < s)
HasNumbers p r s (node.ReadSoft dst base name) = (dst.0 < r) × (base.0 < r)
HasNumbers p r s (node.WriteRef base name src) = (base.0 < r) × (src.0 < r) × IsName p name
HasNumbers p r s (node.DeleteRef dst base name) = (dst.0 < r) × (base.0 < r) × IsName p name
HasNumbers p r s (node.Declare name) = IsName p name
HasNumbers p r s (node.Convert dst src kind other) =
    (dst.0 < r) × (src.0 < r) × IfSome other (λ (o : Reg). o.0 < r)
HasNumbers p r s (node.Unary dst op src) = (dst.0 < r) × (src.0 < r)
HasNumbers p r s (node.Binary dst op a b) = (dst.0 < r) × (a.0 < r) × (b.0 < r)
HasNumbers p r s (node.Branch src) = src.0 < r
HasNumbers p r s (node.Call dst callee receiver args error) =
    (callee.0 < r) × (receiver.0 < r) × (error.0 < s)
HasNumbers p r s (node.Throw src) = src.0 < r
HasNumbers p r s (node.ToObject dst src sites error) =
    (dst.0 < r) × (src.0 < r) × (sites.boolean.0 < s) × (sites.number.0 < s)
    × (sites.text.0 < s) × (error.0 < s)
HasNumbers p r s (node.NeedObject src error) = (src.0 < r) × (error.0 < s)
HasNumbers p r s (node.ReadProp dst object key) = (dst.0 < r) × (object.0 < r) × (key.0 < r)
HasNumbers p r s (node.WriteProp object key src error) =
    (object.0 < r) × (key.0 < r) × (src.0 < r) × (error.0 < s)
HasNumbers p r s (node.DeleteProp dst object key) = (dst.0 < r) × (object.0 < r) × (key.0 < r)
HasNumbers p r s (node.HasProp dst object key) = (dst.0 < r) × (object.0 < r) × (key.0 < r)
HasNumbers p r s (node.InstanceOf dst left right not_function not_object) =
    (dst.0 < r) × (left.0 < r) × (right.0 < r) × (not_function.0 < s) × (not_object.0 < s)
HasNumbers p r s (node.NewObject dst site kind) = (dst.0 < r) × (site.0 < s)
HasNumbers p r s (node.Bind name src read_only) = (src.0 < r) × IsName p name
HasNumbers p r s (node.PushScope site) = site.0 < s
HasNumbers p r s (node.New dst callee args site error) =
    (callee.0 < r) × (site.0 < s) × (error.0 < s)
HasNumbers p r s (node.Names list object) = object.0 < r
HasNumbers p r s (node.Pick list dst object) = (dst.0 < r) × (object.0 < r)
HasNumbers p r s (node.MakeFunction dst function site proto_site) =
    (dst.0 < r) × (site.0 < s) × (proto_site.0 < s) × (site.0 ≢ proto_site.0)
HasNumbers p r s (node.Enter site arguments) =
    (site.0 < s) × IfSome arguments (λ (m : Site). (m.0 < s) × (site.0 ≢ m.0))
HasNumbers p r s (node.Intrinsic dst which args) =
    (dst.0 < r) × AllByRecursion (λ (q : Reg). q.0 < r) args
HasNumbers p r s (node.Device dst which) = dst.0 < r
HasNumbers p r s n = Unit {0}

other_in_range : (fn : Function) (other : Option Reg)
    → AllByRecursion (IsRegister fn) (option_to_list other)
    → IfSome other (λ (o : Reg). o.0 < fn.registers)
other_in_range fn None all = tt
other_in_range fn (Some o) all = all.0

-- two sites that are numbered in order
two_apart : (a b k : ℕ) → a ≡ k → b ≡ suc k → a ≢ b
two_apart a b k first second same = omega (arith, first, second, same)

arguments_apart : (s k : ℕ) (site : Site) (arguments : Option Site)
    → AllByRecursion (λ (m : Making). m.site.0 < s) (making_if_any arguments class.Object)
    → site.0 ≡ k → InOrder (suc k) (making_if_any arguments class.Object)
    → IfSome arguments (λ (m : Site). (m.0 < s) × (site.0 ≢ m.0))
arguments_apart s k site None within first order = tt
arguments_apart s k site (Some m) within first order =
    (within.0, two_apart site.0 m.0 k first order.0)

by_kind : (p : Program) (fn : Function) (s k : ℕ) (n : Node)
    → AllByRecursion (IsDestination fn) (option_to_list (register_set n))
    → AllByRecursion (IsRegister fn) (registers_named n)
    → AllByRecursion (IsName p) (option_to_list (name_in n))
    → AllByRecursion (λ (m : Making). m.site.0 < s) (makings n) → InOrder k (makings n)
    → HasNumbers p fn.registers s n
unfolding register_set registers_named name_in makings
by_kind p fn s k (node.Const dst q) sets named name sites order = sets.0.0
by_kind p fn s k (node.Move dst src) sets named name sites order = (sets.0.0, named.0)
by_kind p fn s k (node.FindName dst n) sets named name sites order = sets.0.0
by_kind p fn s k (node.ReadRef dst base n error) sets named name sites order =
    (sets.0.0, named.0, name.0, sites.0)
by_kind p fn s k (node.ReadSoft dst base n) sets named name sites order = (sets.0.0, named.0)
by_kind p fn s k (node.WriteRef base n src) sets named name sites order =
    (named.0, named.1.0, name.0)
by_kind p fn s k (node.DeleteRef dst base n) sets named name sites order =
    (sets.0.0, named.0, name.0)
by_kind p fn s k (node.Declare n) sets named name sites order = name.0
by_kind p fn s k (node.Convert dst src kind other) sets named name sites order =
    (sets.0.0, named.0, other_in_range fn other named.1)
by_kind p fn s k (node.Unary dst op src) sets named name sites order = (sets.0.0, named.0)
by_kind p fn s k (node.Binary dst op a b) sets named name sites order =
    (sets.0.0, named.0, named.1.0)
by_kind p fn s k (node.Branch src) sets named name sites order = named.0
by_kind p fn s k (node.Call dst callee receiver args error) sets named name sites order =
    (named.0, named.1.0, sites.0)
by_kind p fn s k (node.Throw src) sets named name sites order = named.0
by_kind p fn s k (node.ToObject dst src sites error) sets named name made order =
    (sets.0.0, named.0, made.0, made.1.0, made.1.1.0, made.1.1.1.0)
by_kind p fn s k (node.NeedObject src error) sets named name sites order = (named.0, sites.0)
by_kind p fn s k (node.ReadProp dst object key) sets named name sites order =
    (sets.0.0, named.0, named.1.0)
by_kind p fn s k (node.WriteProp object key src error) sets named name sites order =
    (named.0, named.1.0, named.1.1.0, sites.0)
by_kind p fn s k (node.DeleteProp dst object key) sets named name sites order =
    (sets.0.0, named.0, named.1.0)
by_kind p fn s k (node.HasProp dst object key) sets named name sites order =
    (sets.0.0, named.0, named.1.0)
by_kind p fn s k (node.InstanceOf dst left right not_function not_object)
    sets named name sites order =
    (sets.0.0, named.0, named.1.0, sites.0, sites.1.0)
by_kind p fn s k (node.NewObject dst site kind) sets named name sites order = (sets.0.0, sites.0)
by_kind p fn s k (node.Bind n src read_only) sets named name sites order = (named.0, name.0)
by_kind p fn s k (node.PushScope site) sets named name sites order = sites.0
by_kind p fn s k (node.New dst callee args site error) sets named name sites order =
    (named.0, sites.0, sites.1.0)
by_kind p fn s k (node.Names list object) sets named name sites order = named.1.0
by_kind p fn s k (node.Pick list dst object) sets named name sites order = (sets.0.0, named.1.0)
by_kind p fn s k (node.MakeFunction dst function site proto_site) sets named name sites order =
    (sets.0.0, sites.0, sites.1.0, two_apart site.0 proto_site.0 k order.0 order.1.0)
by_kind p fn s k (node.Enter site arguments) sets named name sites order =
    (sites.0, arguments_apart s k site arguments sites.1 order.0 order.1)
by_kind p fn s k (node.Intrinsic dst which args) sets named name sites order = (sets.0.0, named)
by_kind p fn s k (node.Device dst which) sets named name sites order = sets.0.0
by_kind p fn s k n sets named name sites order = tt

-- ---- the function of a node

-- ---- at a node

module _ (p : Program) (x : Point) (a : AState) (at : IsAtNode p x a) where
  stands : HasFunction (slice_get p.functions x.context.function.0) x.number.0 x.info
  stands = function_at (slice_get p.functions x.context.function.0) x.number.0 x.info at.node_is

  registers_are : vec_len a.registers ≡ stands.function.registers
  registers_are =
      at.state_is.registers
      ∙ ap (λ o. option_map_or (λ (fn : Function). fn.registers) o 0) stands.function_is

  -- a state has the registers that each function has
  pub fixed_registers : 5 < vec_len a.registers
  fixed_registers =
      let fixed = (at.well_formed.each x.context.function.0 stands.function
      stands.function_is).registers in
      omega (arith, fixed, registers_are)

  -- .. one for each parameter of the function, and one for the rest of its arguments
  pub parameters_fit : (5 + length (parameter_ids p x.context.function) < vec_len a.registers)
      × (5 + length (parameter_ids p x.context.function) < 4294967296)
  parameters_fit =
      let fn = stands.function in
      let good = at.well_formed.each x.context.function.0 fn stands.function_is in
      let fixed = good.registers in
      let few = good.few_registers in
      let count : length (parameter_ids p x.context.function) ≡ length fn.parameters =
      ap (λ (o : Option Function). length (option_map_or (λ (g : Function). g.parameters) o []))
      stands.function_is in
      (omega (arith, fixed, registers_are, count), omega (arith, fixed, few, count))

  -- .. and the site of the global object
  pub global_site : global.0 < (heap_of a.heap).sites
  global_site =
      let (info, info_is, class_is, fits) = at.well_formed.builtins global.0 _ refl in
      let within : global.0 < length p.sites = slice_get_within p.sites global.0 info info_is in
      omega (arith, within, at.state_is.heap.sites)

  -- .. and what the row of the node takes
  pub numbers_at : (n : Node) → x.info.node ≡ n
      → HasNumbers p (vec_len a.registers) (heap_of a.heap).sites n
  numbers_at n is =
      let fn : Function = stands.function in
      let s : ℕ = (heap_of a.heap).sites in
      let known : IsNodeWellFormed p fn x.info =
      (at.well_formed.each x.context.function.0 fn stands.function_is).each x.number.0 x.info
      stands.info_is in
      let made = node_makings p at.well_formed x.context.function.0 fn x.number.0 x.info
      stands.function_is stands.info_is in
      let sites : AllByRecursion (λ (m : Making). m.site.0 < s) (makings x.info.node) =
      all_weaker (λ (m : Making). IsMadeAs p (makes_arguments m.site x.info.node) m)
      (λ (m : Making). m.site.0 < s)
      (λ m is. let within : m.site.0 < length p.sites = is.told.site.1 in
      omega (arith, within, at.state_is.heap.sites)) (makings x.info.node) made.each in
      subst (HasNumbers p (vec_len a.registers) s) is
      (subst (λ r. HasNumbers p r s x.info.node) (sym registers_are)
      (by_kind p fn s made.first x.info.node known.sets known.names_registers known.name sites
      made.in_order))

-- ---- the functions of a program

few_in : (p : Program) → IsWellFormed p → (f : ℕ) (o : Option Function)
    → slice_get p.functions f ≡ o
    → length (option_map_or (λ (fn : Function). fn.parameters) o []) < 4294967296
few_in p good f None is = omega arith
few_in p good f (Some fn) is =
    let fixed = (good.each f fn is).registers in
    let few = (good.each f fn is).few_registers in
    omega (arith, fixed, few)

-- a function has few parameters
pub few_parameters : (p : Program) → IsWellFormed p → (f : FnId)
    → length (parameter_ids p f) < 4294967296
few_parameters p good f = few_in p good f.0 (slice_get p.functions f.0) refl
