-- What a tree is lowered to: the functions of its text with their nodes, the sites of these nodes,
-- and the names; and behind them the functions of host devices, and built-in functions.
use Rattle.std.specs.Prelude.{ℕ, Bool, true, false, suc, ◌+◌, List, [], ◌∷◌, ◌++◌, map, filter, length, Option, Some, None}
use Rattle.std.specs.List.{AllByRecursion, enumerate_from, fold, flat_map, sum_by, zip}
use Rattle.std.specs.Option.{option_map_or}
use Rattle.ja_base.specs.declared.ids.FnId.{FnId}
use Rattle.ja_base.specs.declared.ids.Reg.{Reg}
use Rattle.ja_prim.specs.declared.signature.Signature.{Signature}
use Rattle.ja_graph.specs.declared.registers.TheConstants.{FIXED_REGISTERS}
use Rattle.ja_graph.specs.declared.node.Node.{Node}
use Rattle.ja_graph.specs.declared.node.Node.TheVariants.{Device, Return, Escape}
use Rattle.ja_graph.specs.declared.node.NodeInfo.{NodeInfo}
use Rattle.ja_graph.specs.declared.program.Class.{Class}
use Rattle.ja_graph.specs.declared.program.Class.TheVariants as class
use Rattle.ja_graph.specs.declared.program.Function.{Function}
use Rattle.ja_graph.specs.declared.program.Program.{Program}
use Rattle.ja_graph.specs.declared.program.SiteInfo.{SiteInfo}
use Rattle.ja_graph.specs.Node.{Making, registers_in, registers_with, function_in, makings}
use Rattle.ja_graph.specs.Renaming.{Renaming, identity, renamed}
use Rattle.ja_graph.specs.WellFormed.{IsAllowed}
use Rattle.ja_lower_listing.specs.Listing.{assembled}
use Rattle.ja_lower_statements.specs.Functions.{program_listing, function_listing}
use Rattle.ja_lower_draft.specs.Lines.{Scene}
use Rattle.ja_lower_expressions.specs.Specials.{is_name}
use Rattle.ja_lower_names.specs.Names.{number, with_name}
use Rattle.ja_lower_names.specs.TextOrder.{Named, functions_in, names_in}
use Rattle.ja_lower.specs.declared.body.Body.{Body}
use Rattle.ja_lower.specs.declared.lowered.Lowered.{Lowered}
use Rattle.ja_syntax.specs.declared.tree.FunctionOf.{FunctionOf}
use Rattle.ja_syntax.specs.declared.tree.Name.{Name}
use Rattle.ja_syntax.specs.declared.tree.Statement.{Statement}

-- the names of a program: some come first, then those of the text, each once
unfoldable pub names_of : Bool → List (List ℕ) → List Statement → List (List ℕ)
names_of specials first statements =
    fold with_name (fold with_name [] first)
    (map (λ (n : Named). n.text) (filter (is_name specials) (names_in statements)))

-- what the forms of a text need of the program: the texts of built-in functions have special forms,
-- others have none
abbrev pub scene_with : Bool → List (List ℕ) → List Statement → Scene
scene_with specials names statements = record {
  names = names;
  functions = map (λ (f : FunctionOf Statement). f.place) (functions_in statements);
  handler = None;
  specials = specials;
}

abbrev pub scene_of : List (List ℕ) → List Statement → Scene
scene_of names statements = scene_with false names statements

-- ---- functions, whose nodes have their sites numbered each for itself

abbrev pub program_body : Scene → List Statement → Body
program_body scene statements =
    record { name = []; parameters = []; nodes = assembled (program_listing scene statements) }

-- a function without a name has an empty one
abbrev pub function_body : Scene → FunctionOf Statement → Body
function_body scene f = record {
  name = option_map_or (λ (n : Name). n.text) f.name [];
  parameters = map (λ (p : Name). number scene.names p.text) f.parameters;
  nodes = assembled (function_listing scene f);
}

-- the program, and the functions of its text in the order of the text
unfoldable pub bodies_of : Scene → List Statement → List Body
bodies_of scene statements =
    program_body scene statements ∷ map (function_body scene) (functions_in statements)

-- ---- registers: those that each function has, and as many as its nodes name

unfoldable pub registers_of : ℕ → List NodeInfo → ℕ
registers_of parameters nodes =
    registers_with (FIXED_REGISTERS + parameters)
    (flat_map (λ (info : NodeInfo). registers_in info.node) nodes)

-- ---- sites: they are numbered by function and node

-- a node whose sites are numbered from a number on
abbrev pub shifting : ℕ → Renaming
shifting first = record identity { site = λ s. record { 0 = first + s.0 } }

abbrev pub site_count : Node → ℕ
site_count node = length (makings node)

-- nodes whose sites are numbered from a number on
unfoldable pub numbered : ℕ → List NodeInfo → List NodeInfo
numbered first [] = []
numbered first (info ∷ infos) =
    record info { node = renamed (shifting first) info.node }
    ∷ numbered (first + site_count info.node) infos

unfoldable pub sites_in : List NodeInfo → ℕ
sites_in nodes = sum_by (λ (info : NodeInfo). site_count info.node) nodes

abbrev pub function_of : ℕ → Body → Function
function_of first body = record {
  name = body.name;
  parameters = body.parameters;
  registers = registers_of (length body.parameters) body.nodes;
  nodes = numbered first body.nodes;
}

unfoldable pub functions_of : ℕ → List Body → List Function
functions_of first [] = []
functions_of first (body ∷ bodies) =
    function_of first body ∷ functions_of (first + sites_in body.nodes) bodies

-- the function that is called, and that constructs, where a node makes a function object
abbrev pub run_by : Node → Class → Option FnId
run_by node class.Function = function_in node
run_by node other = None

-- what is known of a site of a node of a function
abbrev pub site_of : ℕ → NodeInfo → Making → SiteInfo
site_of function info making = record {
  class = making.class;
  place = info.place;
  owner = Some (record { 0 = function });
  calls = run_by info.node making.class;
  constructs = run_by info.node making.class;
  builtin = None;
}

unfoldable pub sites_of_nodes : ℕ → List NodeInfo → List SiteInfo
sites_of_nodes function nodes =
    flat_map (λ (info : NodeInfo). map (site_of function info) (makings info.node)) nodes

-- the sites of functions, the first of which has this number
unfoldable pub sites_of : ℕ → List Body → List SiteInfo
sites_of function [] = []
sites_of function (body ∷ bodies) =
    sites_of_nodes function body.nodes ++ sites_of (suc function) bodies

-- ---- the whole

-- functions whose sites are numbered from a number on, and which are numbered from another on
-- themselves
abbrev pub lowered_bodies : List (List ℕ) → ℕ → ℕ → List Body → Lowered
lowered_bodies names first_site first_function bodies =
    record {
      functions = functions_of first_site bodies;
      sites = sites_of first_function bodies;
      names = names;
    }

-- a text, where these names come first, and its sites are numbered from a number on
unfoldable pub lowered : List (List ℕ) → ℕ → List Statement → Lowered
lowered first first_site statements =
    let names = names_of false first statements in
    lowered_bodies names first_site 0 (bodies_of (scene_of names statements) statements)

-- ---- built-in functions, whose texts have special forms

-- the names of a program with built-in functions: some come first, then those of their texts, each
-- once
abbrev pub prelude_names : List (List ℕ) → List Statement → List (List ℕ)
prelude_names first statements = names_of true first statements

-- the functions of their texts, in a program with these names; what else stands in these texts is
-- nothing
unfoldable pub prelude_bodies : List (List ℕ) → List Statement → List Body
prelude_bodies names statements =
    map (function_body (scene_with true names statements)) (functions_in statements)

-- a function by its path
abbrev pub at_path : List ℕ → Body → Body
at_path path body = record body { name = path }

-- functions by their paths, one for each
abbrev pub at_paths : List (List ℕ) → List Body → List Body
at_paths paths bodies = map (λ row. at_path row.0 row.1) (zip paths bodies)

-- built-in functions by their paths, where these names come first, the sites are numbered from a
-- number on, and so are the functions
unfoldable pub lowered_prelude : List (List ℕ) → List (List ℕ) → ℕ → ℕ → List Statement → Lowered
lowered_prelude first paths first_site first_function statements =
    let names = prelude_names first statements in
    lowered_bodies names first_site first_function
    (at_paths paths (prelude_bodies names statements))

-- a text, and other functions behind its own, which know some of its names
abbrev pub followed_by : Lowered → Lowered → Lowered
followed_by text others =
    record {
      functions = text.functions ++ others.functions;
      sites = text.sites ++ others.sites;
      names = text.names;
    }

-- ---- the functions of host devices

-- no text has their nodes, which stand at 0:1
abbrev pub device_node : Node → ℕ → NodeInfo
device_node node next = record {
  node = node;
  place = record { line = 0; column = 1 };
  next = record { 0 = next };
  other = record { 0 = 2 };
  handler = record { 0 = 2 };
}

-- the first temporary of a function without parameters
abbrev pub device_register : Reg
device_register = record { 0 = FIXED_REGISTERS }

-- the device of a number is asked, and its answer returned
abbrev pub device_body : ℕ → Signature → Body
device_body which s = record {
  name = s.name;
  parameters = [];
  nodes =
      device_node (Device device_register which) 1 ∷ device_node (Return device_register) 2
      ∷ device_node Escape 2 ∷ [];
}

unfoldable pub device_bodies : List Signature → List Body
device_bodies signatures = map (λ row. device_body row.0 row.1) (enumerate_from 0 signatures)

abbrev pub device_names : List Signature → List (List ℕ)
device_names signatures = map (λ (s : Signature). s.name) signatures

-- ---- all together

-- the names that come before those of a text: those of the built-in functions, and then those of
-- the devices
abbrev pub first_names : List (List ℕ) → List Statement → List Signature → List (List ℕ)
first_names first prelude signatures = prelude_names first prelude ++ device_names signatures

-- built-in functions behind those of devices, which have no sites
abbrev pub behind_devices : List Signature → Lowered → Lowered
behind_devices signatures built_in =
    record built_in { functions = functions_of 0 (device_bodies signatures) ++ built_in.functions }

-- a text, and behind it the functions of devices and the built-in ones
unfoldable pub lowered_with_prelude : List (List ℕ) → List (List ℕ) → List Statement
    → List Signature → ℕ → List Statement → Lowered
lowered_with_prelude first paths prelude signatures first_site statements =
    let names = prelude_names first prelude in
    let text = lowered (first_names first prelude signatures) first_site statements in
    let behind = device_bodies signatures ++ at_paths paths (prelude_bodies names prelude) in
    followed_by text (lowered_bodies names (first_site + length text.sites) (length text.functions)
    behind)

-- each node of functions is allowed whatever the program is
abbrev pub AreAllowed : List Body → Type 0
AreAllowed bodies =
    AllByRecursion (λ (body : Body). AllByRecursion
    (λ (info : NodeInfo). (p : Program) → IsAllowed p (function_of 0 body) info.node)
    body.nodes) bodies
