-- What makes a program well formed.
use Rattle.std.specs.Prelude.{◌≡◌, ◌<◌, ◌≤◌, ◌⊎◌, ◌+◌, ◌-◌, ℕ, suc, List, [], ◌∷◌, ◌++◌, map, Option, Some, None, IsSome, IsTrue, slice_get, length, take}
use Rattle.std.specs.Option.{option_map, option_to_list}
use Rattle.std.specs.List.{AllByRecursion, flat_map, range_with_len}
use Rattle.ja_base.specs.declared.ids.FnId.{FnId}
use Rattle.ja_base.specs.declared.ids.NameId.{NameId}
use Rattle.ja_base.specs.declared.ids.Reg.{Reg}
use Rattle.ja_base.specs.declared.ids.Site.{Site}
use Rattle.ja_graph.specs.declared.builtins.TheConstants.{BUILTIN_CLASSES, BUILTIN_NAMES, INTRINSICS}
use Rattle.ja_graph.specs.declared.registers.TheConstants.{FIXED_REGISTERS, SCOPE, THROWN}
use Rattle.ja_graph.specs.declared.node.Args.TheVariants.{Tail}
use Rattle.ja_graph.specs.declared.node.Node.{Node}
use Rattle.ja_graph.specs.declared.node.Node.TheVariants.{Call, Escape, Intrinsic, Device}
use Rattle.ja_graph.specs.declared.node.NodeInfo.{NodeInfo}
use Rattle.ja_graph.specs.declared.program.Class.{Class}
use Rattle.ja_graph.specs.declared.program.Class.TheVariants as classes
use Rattle.ja_graph.specs.declared.program.Function.{Function}
use Rattle.ja_graph.specs.declared.program.ObjectSpec.{ObjectSpec}
use Rattle.ja_graph.specs.declared.program.PropertySpec.{PropertySpec}
use Rattle.ja_graph.specs.declared.program.SpecContent.{SpecContent}
use Rattle.ja_graph.specs.declared.program.SpecContent.TheVariants.{Object}
use Rattle.ja_graph.specs.declared.program.SiteInfo.{SiteInfo}
use Rattle.ja_graph.specs.declared.program.Program.{Program}
use Rattle.ja_graph.specs.Node.{Making, register_set, registers_named, name_in, function_in, makings}
use Rattle.ja_graph.specs.Program.{object_spec, runs_function}

-- ---- the greatest numbers: of registers of a function, and of nodes, sites and names of a program

abbrev pub max_registers : ℕ
max_registers = 262144

abbrev pub max_nodes : ℕ
max_nodes = 131072

abbrev pub max_sites : ℕ
max_sites = 393216

abbrev pub max_names : ℕ
max_names = 1048576

-- ---- functions and their nodes

-- the registers before the temporaries: one for each parameter, and those of each function
abbrev pub fixed_registers : Function → ℕ
fixed_registers fn = FIXED_REGISTERS + length fn.parameters

-- a register of the function
abbrev pub IsRegister : Function → Reg → Type 0
IsRegister fn r = r.0 < fn.registers

-- a register that a node may set: `thrown`, `scope` or a temporary
abbrev pub IsDestination : Function → Reg → Type 0
IsDestination fn r =
    IsRegister fn r × ((r.0 ≡ THROWN.0) ⊎ ((r.0 ≡ SCOPE.0) ⊎ (fixed_registers fn ≤ r.0)))

-- a name of the program
abbrev pub IsName : Program → NameId → Type 0
IsName p n = n.0 < length p.names

-- a function of the program
abbrev pub IsFunction : Program → FnId → Type 0
IsFunction p f = f.0 < length p.functions

-- how many arguments an operation of the built-in functions takes, if there is one of the number
abbrev pub arguments_taken : ℕ → Option ℕ
arguments_taken which = option_map (λ row. row.1) (slice_get INTRINSICS which)

-- what only some kinds of nodes ask for: the caller's arguments from the second on are there where
-- a function has at most one parameter; an operation is one of the built-in functions', with as
-- many arguments as it takes; a device is one of the program's
abbrev pub IsAllowed : Program → Function → Node → Type 0
IsAllowed p fn (Call dst callee receiver Tail error) = length fn.parameters ≤ 1
IsAllowed p fn (Intrinsic dst which args) = arguments_taken which ≡ Some (length args)
IsAllowed p fn (Device dst which) = which < length p.signatures
IsAllowed p fn node = Unit {0}

-- each number that a node has is in range, and so are its edges
pub record IsNodeWellFormed (p : Program) (fn : Function) (info : NodeInfo) : Type 0 where
  pub sets : AllByRecursion (IsDestination fn) (option_to_list (register_set info.node))
  pub names_registers : AllByRecursion (IsRegister fn) (registers_named info.node)
  pub name : AllByRecursion (IsName p) (option_to_list (name_in info.node))
  pub function : AllByRecursion (IsFunction p) (option_to_list (function_in info.node))
  pub allowed : IsAllowed p fn info.node
  pub next : info.next.0 < length fn.nodes
  pub other : info.other.0 < length fn.nodes
  pub handler : info.handler.0 < length fn.nodes

-- the last node is Escape
pub record LastIsEscape (nodes : List NodeInfo) : Type 0 where
  pub last : NodeInfo
  pub last_is : slice_get nodes (length nodes - 1) ≡ Some last
  pub escape : last.node ≡ Escape

-- a function ends with Escape, has the registers that each function has, and each of its nodes is
-- well formed
pub record IsFunctionWellFormed (p : Program) (fn : Function) : Type 0 where
  pub last : NodeInfo
  pub last_is : slice_get fn.nodes (length fn.nodes - 1) ≡ Some last
  pub escape : last.node ≡ Escape
  pub registers : fixed_registers fn ≤ fn.registers
  pub few_registers : fn.registers ≤ max_registers
  pub parameters : AllByRecursion (IsName p) fn.parameters
  pub each : (n : ℕ) (info : NodeInfo) → slice_get fn.nodes n ≡ Some info
      → IsNodeWellFormed p fn info

-- how many nodes the functions have in all
abbrev pub node_count : List Function → ℕ
node_count [] = 0
node_count (fn ∷ fns) = length fn.nodes + node_count fns

-- ---- sites

-- a site of a node: the function that has the node, and what it makes there
pub record OwnedMaking : Type 0 where
  pub owner : ℕ
  pub making : Making

abbrev pub owned : ℕ → Making → OwnedMaking
owned f m = record { owner = f; making = m }

-- the sites of the nodes of a function, in order
abbrev pub makings_of : ℕ → List NodeInfo → List OwnedMaking
makings_of f nodes = flat_map (λ (info : NodeInfo). map (owned f) (makings info.node)) nodes

-- those of functions, the first of which has this number
abbrev pub makings_from : ℕ → List Function → List OwnedMaking
makings_from f [] = []
makings_from f (fn ∷ fns) = makings_of f fn.nodes ++ makings_from (suc f) fns

-- The program tells the class and the owner of the site. Of the objects that nodes make those that
-- run a function are function objects (13.2).
pub record IsSiteTold (p : Program) (m : OwnedMaking) : Type 0 where
  pub info : SiteInfo
  pub info_is : slice_get p.sites m.making.site.0 ≡ Some info
  pub class : info.class ≡ m.making.class
  pub owner : info.owner ≡ Some (record { 0 = m.owner })
  pub runs : IsTrue (runs_function info) → m.making.class ≡ classes.Function

-- the functions that are told of a site are those of the program: the one whose node has it, and
-- those that are run where one of its objects is called and where it constructs
pub record NamesFunctions (p : Program) (info : SiteInfo) : Type 0 where
  pub owner : AllByRecursion (IsFunction p) (option_to_list info.owner)
  pub calls : AllByRecursion (IsFunction p) (option_to_list info.calls)
  pub constructs : AllByRecursion (IsFunction p) (option_to_list info.constructs)

-- ---- the opening heap

-- an object that stands before the i-th has this site
abbrev pub StandsBefore : Program → ℕ → Site → Type 0
StandsBefore p i s =
    (j : ℕ) × (q : ObjectSpec) × (j < i) × (slice_get p.opening j ≡ Some q) × (q.site.0 ≡ s.0)

-- the object that a property has is one of the opening heap
abbrev pub IsContent : Program → SpecContent → Type 0
IsContent p (Object s) = s.0 < length p.opening
IsContent p content = Unit {0}

-- an object of the opening heap has a site without a node, its prototype and its scope stand before
-- it, one that runs a function has a scope (13.2), and its properties have names of the program,
-- each once
pub record IsObjectWellFormed (p : Program) (i : ℕ) (o : ObjectSpec) : Type 0 where
  pub site : o.site.0 < length p.opening
  pub prototype : (s : Site) → o.prototype ≡ Some s → StandsBefore p i s
  pub scope : (s : Site) → o.scope ≡ Some s → StandsBefore p i s
  pub scoped : (info : SiteInfo) → slice_get p.sites o.site.0 ≡ Some info
      → IsTrue (runs_function info) → IsSome o.scope
  pub names : (j : ℕ) (q : PropertySpec) → slice_get o.properties j ≡ Some q → IsName p q.name
  pub contents : (j : ℕ) (q : PropertySpec) → slice_get o.properties j ≡ Some q
      → IsContent p q.content
  pub once : (j k : ℕ) (q r : PropertySpec) → slice_get o.properties j ≡ Some q
      → slice_get o.properties k ≡ Some r → q.name.0 ≡ r.name.0 → j ≡ k

-- the names of the built-in objects, as texts
abbrev pub builtin_names : List (List ℕ)
builtin_names = map (λ name. name.now) BUILTIN_NAMES

-- the program tells the class of a built-in object
abbrev pub IsBuiltin : Program → ℕ → Class → Type 0
IsBuiltin p s c =
    (info : SiteInfo) × (slice_get p.sites s ≡ Some info) × (info.class ≡ c)
    × (s < length p.opening)

-- Each function is well formed, and the first is the program's text. Each site without a node has
-- no owner and has its object in the opening heap, the built-in objects among them, under their
-- numbers. The sites of nodes stand behind them, numbered by function and node. No text is a name
-- twice, and the built-in names come first.
pub record IsWellFormed (p : Program) : Type 0 where
  pub text : Function
  pub text_is : slice_get p.functions 0 ≡ Some text
  pub text_among : 0 < p.text_functions
  pub text_functions : p.text_functions ≤ length p.functions
  pub value_first : p.value_first.0 < length p.functions
  pub text_first : p.text_first.0 < length p.functions
  pub each : (f : ℕ) (fn : Function) → slice_get p.functions f ≡ Some fn → IsFunctionWellFormed p fn
  pub few_nodes : node_count p.functions ≤ max_nodes
  pub objects : (i : ℕ) (o : ObjectSpec) → slice_get p.opening i ≡ Some o → IsObjectWellFormed p i o
  pub all_objects : (s : ℕ) → s < length p.opening → IsSome (object_spec p s)
  pub builtins : (s : ℕ) (c : Class) → slice_get BUILTIN_CLASSES s ≡ Some c → IsBuiltin p s c
  pub unowned : (s : ℕ) → s < length p.opening → (info : SiteInfo) → slice_get p.sites s ≡ Some info
      → info.owner ≡ None
  pub name_functions : AllByRecursion (NamesFunctions p) p.sites
  pub sites : length p.opening ≤ length p.sites
  pub numbered : map (λ (m : OwnedMaking). m.making.site.0) (makings_from 0 p.functions)
      ≡ range_with_len (length p.opening) (length p.sites - length p.opening)
  pub told : AllByRecursion (IsSiteTold p) (makings_from 0 p.functions)
  pub few_sites : length p.sites ≤ max_sites
  pub names : take (length builtin_names) p.names ≡ builtin_names
  pub distinct : (i j : ℕ) (t : List ℕ) → slice_get p.names i ≡ Some t
      → slice_get p.names j ≡ Some t → i ≡ j
  pub few_names : length p.names ≤ max_names
