-- The parts of a program that is well formed, by name, and what a program's accessors give.
use Rattle.std.specs.Prelude.{◌≡◌, ◌<◌, ◌≤◌, ◌+◌, ◌-◌, ℕ, List, [], ◌∷◌, Option, Some, None, IsSome, IsTrue, slice_get, length, map, take, ◌↔◌}
use Rattle.std.specs.Option.{option_map}
use Rattle.std.specs.List.{AllByRecursion, position_from, range_with_len}
use Rattle.std.specs.Str.{bytes_eq}
use Rattle.ja_base.specs.declared.ids.FnId.{FnId}
use Rattle.ja_base.specs.declared.ids.NameId.{NameId}
use Rattle.ja_base.specs.declared.ids.Site.{Site}
use Rattle.ja_graph.specs.declared.builtins.TheConstants.{BUILTIN_CLASSES}
use Rattle.ja_graph.specs.declared.node.Hint.{Hint}
use Rattle.ja_graph.specs.declared.node.Hint.TheVariants as hint
use Rattle.ja_graph.specs.declared.node.NodeInfo.{NodeInfo}
use Rattle.ja_graph.specs.declared.program.Class.{Class}
use Rattle.ja_graph.specs.declared.program.Function.{Function}
use Rattle.ja_graph.specs.declared.program.ObjectSpec.{ObjectSpec}
use Rattle.ja_graph.specs.declared.program.PropertySpec.{PropertySpec}
use Rattle.ja_graph.specs.declared.program.Program.{Program}
use Rattle.ja_graph.specs.declared.program.SiteInfo.{SiteInfo}
use Rattle.ja_graph.specs.Program.{object_spec, runs_function}
use Rattle.ja_graph.specs.WellFormed.{IsNodeWellFormed, IsFunctionWellFormed, IsObjectWellFormed, IsContent, IsName, IsBuiltin, IsSiteTold, NamesFunctions, OwnedMaking, StandsBefore, makings_from, node_count, builtin_names, max_nodes, max_sites, max_names}

-- ---- accessors

-- the first place of a text among names
abbrev pub name_place : List (List ℕ) → List ℕ → Option NameId
name_place names t = option_map (λ (k : ℕ). record { 0 = k }) (position_from (bytes_eq t) 0 names)

-- the function that gives the default value of an object
abbrev pub default_value : Program → Hint → FnId
default_value p hint.Number = p.value_first
default_value p hint.Text = p.text_first

-- ---- functions

-- each node of the function is well formed
abbrev pub AreNodesWellFormed : Program → Function → Type 0
AreNodesWellFormed p fn =
    (n : ℕ) (info : NodeInfo) → slice_get fn.nodes n ≡ Some info → IsNodeWellFormed p fn info

-- each function is well formed
abbrev pub AreFunctionsWellFormed : Program → Type 0
AreFunctionsWellFormed p =
    (f : ℕ) (fn : Function) → slice_get p.functions f ≡ Some fn → IsFunctionWellFormed p fn

-- ---- sites

-- the sites have the numbers from the first on and end before the last, in order, and the program
-- tells each
abbrev pub AreNumbered : Program → ℕ → ℕ → List OwnedMaking → Type 0
AreNumbered p first last [] = first ≡ last
AreNumbered p first last (m ∷ ms) =
    (m.making.site.0 ≡ first) × IsSiteTold p m × AreNumbered p (first + 1) last ms

-- a site has no owner
abbrev pub IsUnowned : Program → ℕ → Type 0
IsUnowned p s = (info : SiteInfo) → slice_get p.sites s ≡ Some info → info.owner ≡ None

-- no site without a node has one
abbrev pub AreUnowned : Program → Type 0
AreUnowned p = (s : ℕ) → s < length p.opening → IsUnowned p s

-- the objects of the first sites have these classes
abbrev pub HaveClasses : Program → List Class → Type 0
HaveClasses p classes = (s : ℕ) (c : Class) → slice_get classes s ≡ Some c → IsBuiltin p s c

-- the built-in objects have their classes
abbrev pub AreBuiltins : Program → Type 0
AreBuiltins p = HaveClasses p BUILTIN_CLASSES

-- ---- the opening heap

-- a site, if there is one, has an object before the i-th
abbrev pub StandsBeforeIfAny : Program → ℕ → Option Site → Type 0
StandsBeforeIfAny p i o = (s : Site) → o ≡ Some s → StandsBefore p i s

-- an object has a scope, if it runs a function
abbrev pub HasScope : Program → ObjectSpec → Type 0
HasScope p o =
    (info : SiteInfo) → slice_get p.sites o.site.0 ≡ Some info → IsTrue (runs_function info)
    → IsSome o.scope

-- properties have names of the program
abbrev pub HaveNames : Program → List PropertySpec → Type 0
HaveNames p qs = (j : ℕ) (q : PropertySpec) → slice_get qs j ≡ Some q → IsName p q.name

-- the objects that properties have are those of the opening heap
abbrev pub HaveContents : Program → List PropertySpec → Type 0
HaveContents p qs = (j : ℕ) (q : PropertySpec) → slice_get qs j ≡ Some q → IsContent p q.content

-- a property before the k-th has this name
abbrev pub IsPropertyBefore : List PropertySpec → ℕ → NameId → Type 0
IsPropertyBefore qs k n =
    (j : ℕ) × (q : PropertySpec) × (j < k) × (slice_get qs j ≡ Some q) × (q.name.0 ≡ n.0)

-- each name is that of one property
abbrev pub AreOnce : List PropertySpec → Type 0
AreOnce qs =
    (j k : ℕ) (q r : PropertySpec) → slice_get qs j ≡ Some q → slice_get qs k ≡ Some r
    → q.name.0 ≡ r.name.0 → j ≡ k

-- each object is well formed
abbrev pub AreObjectsWellFormed : Program → Type 0
AreObjectsWellFormed p =
    (i : ℕ) (o : ObjectSpec) → slice_get p.opening i ≡ Some o → IsObjectWellFormed p i o

-- each site without a node has an object
abbrev pub HaveObjects : Program → Type 0
HaveObjects p = (s : ℕ) → s < length p.opening → IsSome (object_spec p s)

-- ---- names

-- a text is among those before the k-th
abbrev pub IsAmong : List (List ℕ) → ℕ → List ℕ → Type 0
IsAmong names k t = (j : ℕ) × (j < k) × (slice_get names j ≡ Some t)

-- no text stands twice
abbrev pub AreDistinct : List (List ℕ) → Type 0
AreDistinct names =
    (i j : ℕ) (t : List ℕ) → slice_get names i ≡ Some t → slice_get names j ≡ Some t → i ≡ j

-- ---- sites of nodes

-- a result gives where the numbers of sites end, exactly where they are in order and told
abbrev pub EndsAt : Program → ℕ → List OwnedMaking → Option ℕ → Type 0
EndsAt p first ms result = (last : ℕ) → (result ≡ Some last) ↔ AreNumbered p first last ms

-- the sites of nodes stand behind those of the opening heap, numbered by function and node, and the
-- program tells each
pub record AreSitesNumbered (p : Program) : Type 0 where
  pub sites : length p.opening ≤ length p.sites
  pub numbered : map (λ (m : OwnedMaking). m.making.site.0) (makings_from 0 p.functions)
      ≡ range_with_len (length p.opening) (length p.sites - length p.opening)
  pub told : AllByRecursion (IsSiteTold p) (makings_from 0 p.functions)

-- ---- the program

-- the functions of a program
pub record HasFunctions (p : Program) : Type 0 where
  pub text_among : 0 < p.text_functions
  pub text_functions : p.text_functions ≤ length p.functions
  pub value_first : p.value_first.0 < length p.functions
  pub text_first : p.text_first.0 < length p.functions
  pub few_nodes : node_count p.functions ≤ max_nodes
  pub each : AreFunctionsWellFormed p

-- the sites of a program
pub record HasSites (p : Program) : Type 0 where
  pub few_sites : length p.sites ≤ max_sites
  pub builtins : AreBuiltins p
  pub unowned : AreUnowned p
  pub name_functions : AllByRecursion (NamesFunctions p) p.sites
  pub numbered : AreSitesNumbered p

-- the opening heap of a program
pub record HasOpening (p : Program) : Type 0 where
  pub objects : AreObjectsWellFormed p
  pub all_objects : HaveObjects p

-- the names of a program
pub record HasNames (p : Program) : Type 0 where
  pub few_names : length p.names ≤ max_names
  pub builtin : take (length builtin_names) p.names ≡ builtin_names
  pub distinct : AreDistinct p.names
