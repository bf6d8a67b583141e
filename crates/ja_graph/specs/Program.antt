-- The named parts of a program.
use Rattle.std.specs.Prelude.{ℕ, ◌==◌, ◌||◌, Bool, List, [], Option, is_some, slice_get, find}
use Rattle.std.specs.Option.{option_map_or}
use Rattle.std.specs.List.{list_any}
use Rattle.ja_base.specs.declared.ids.FnId.{FnId}
use Rattle.ja_base.specs.declared.ids.NodeId.{NodeId}
use Rattle.ja_base.specs.declared.ids.NameId.{NameId}
use Rattle.ja_base.specs.declared.ids.Site.{Site}
use Rattle.ja_graph.specs.declared.builtins.TheConstants as builtins
use Rattle.ja_graph.specs.declared.node.NodeInfo.{NodeInfo}
use Rattle.ja_graph.specs.declared.program.Function.{Function}
use Rattle.ja_graph.specs.declared.program.ObjectSpec.{ObjectSpec}
use Rattle.ja_graph.specs.declared.program.Program.{Program}
use Rattle.ja_graph.specs.declared.program.SiteInfo.{SiteInfo}
use Rattle.ja_graph.specs.Node.{makes_arguments}

-- the nodes of a function
abbrev pub nodes_of : Program → FnId → List NodeInfo
nodes_of p f = option_map_or (λ (fn : Function). fn.nodes) (slice_get p.functions f.0) []

-- a node of a function, if it has that number
abbrev pub node_at : Program → FnId → NodeId → Option NodeInfo
node_at p f n = slice_get (nodes_of p f) n.0

-- the object that a site has when a run begins
abbrev pub object_spec : Program → ℕ → Option ObjectSpec
object_spec p s = find (λ (o : ObjectSpec). o.site.0 == s) p.opening

-- the site of the global object, and those of the prototypes of the errors that a node throws
abbrev pub global : Site
global = builtins.GLOBAL

abbrev pub reference_error_prototype : Site
reference_error_prototype = builtins.REFERENCE_ERROR_PROTOTYPE

abbrev pub type_error_prototype : Site
type_error_prototype = builtins.TYPE_ERROR_PROTOTYPE

-- the name `message`
abbrev pub message : NameId
message = builtins.MESSAGE

-- whether the objects of a site are the arguments objects of a function's calls (10.1.8)
abbrev pub is_arguments_site : Program → Site → Bool
is_arguments_site p s =
    list_any (λ (fn : Function). list_any (λ (info : NodeInfo). makes_arguments s info.node)
    fn.nodes) p.functions

-- whether the objects of a site run a function, where they are called or where they construct
abbrev pub runs_function : SiteInfo → Bool
runs_function info = is_some info.calls || is_some info.constructs
