-- The listing of a whole function (ES3 10.1, 13, 14).
use Rattle.std.specs.Prelude.{ℕ, ◌+◌, Bool, true, false, if◌then◌else◌, List, [], ◌∷◌, ◌++◌, map, length, Option, Some, None}
use Rattle.ja_base.specs.declared.ids.Place.{Place}
use Rattle.ja_prim.specs.declared.primitive.Primitive.TheVariants as primitive
use Rattle.ja_graph.specs.declared.node.Node.TheVariants.{Enter, Declare, Bind, Return, Escape}
use Rattle.ja_graph.specs.declared.registers.TheConstants.{FIXED_REGISTERS}
use Rattle.ja_lower_listing.specs.Listing.{begins_with_node}
use Rattle.ja_lower_listing.specs.declared.item.Item.{Item}
use Rattle.ja_syntax.specs.declared.tree.Name.{Name}
use Rattle.ja_syntax.specs.declared.tree.FunctionOf.{FunctionOf}
use Rattle.ja_syntax.specs.declared.tree.Statement.{Statement, out-Statement}
use Rattle.ja_syntax.specs.declared.tree.Expression.{Expression}
use Rattle.ja_syntax.specs.declared.tree.Case.{Case}
use Rattle.ja_syntax.specs.declared.tree.Expression.TheOpen.{Statement-F}
use Rattle.ja_syntax.specs.Arguments.{mentions_arguments}
use Rattle.ja_syntax.specs.Hoisted.{hoisted_variables}
use Rattle.ja_lower_draft.specs.Lines.{Listing, Scene, site, restarted, name_id, with_node, with_const}
use Rattle.ja_lower_expressions.specs.Literals.{make_function}
use Rattle.ja_lower_statements.specs.Statements.{list_all_statements, does}

-- the first temporary: behind `thrown`, `this`, `scope`, `callee` and `count`, the parameters and
-- the rest of the arguments
abbrev pub first_temporary : ℕ → ℕ
first_temporary parameters = FIXED_REGISTERS + parameters

abbrev pub nothing_listed : ℕ → Listing
nothing_listed base = record { items = []; temporary = base; spot = 0 }

-- the activation is made, and an arguments object where the body mentions it (10.1.6, 10.1.8)
abbrev pub with_entry : Scene → Place → Bool → Listing → Listing
with_entry scene place true l = with_node scene place (Enter (site 0) (Some (site 1))) l
with_entry scene place false l = with_node scene place (Enter (site 0) None) l

-- a function declaration (13): its function object is made, and bound to its name
abbrev pub bind_function : Scene → Place → Option Name → ℕ → Listing → Listing
bind_function scene place None base l = l
bind_function scene place (Some name) base l =
    let f = make_function scene place (restarted base l) in
    with_node scene place (Bind (name_id scene name.text) f.value false) f.listing

abbrev pub declare_function : Scene → Statement-F Expression Statement Case → ℕ → Listing → Listing
declare_function scene (Statement-F.Statement::Function function) base l =
    bind_function scene function.place function.name base l
declare_function scene _ base l = l

abbrev pub declare_function_of : Scene → Statement → ℕ → Listing → Listing
declare_function_of scene s base l = declare_function scene (out-Statement s) base l

unfoldable pub declare_functions : Scene → List Statement → ℕ → Listing → Listing
declare_functions scene [] base l = l
declare_functions scene (s ∷ ss) base l =
    declare_functions scene ss base (declare_function_of scene s base l)

-- the variables (10.1.3), at the place of the function
unfoldable pub declare_variables : Scene → Place → List (List ℕ) → Listing → Listing
declare_variables scene place [] l = l
declare_variables scene place (v ∷ vs) l =
    declare_variables scene place vs (with_node scene place (Declare (name_id scene v)) l)

-- behind its statements a function gives undefined; Escape is its last node
abbrev pub ended : Scene → Place → ℕ → Listing → Listing
ended scene place base l =
    let v = with_const scene place primitive.Undefined (restarted base l) in
    with_node scene place Escape (with_node scene place (Return v.value) v.listing)

-- what a body does: its function declarations, its variables, its statements, and its end
abbrev pub with_body : Scene → Place → List Statement → ℕ → Listing → Listing
with_body scene place statements base l =
    ended scene place base (list_all_statements (map does statements)
    (record { scene = scene; ways = []; labels = [] }) base
    (declare_variables scene place (hoisted_variables statements)
    (declare_functions scene statements base l)))

-- nothing around a function handles what it throws
abbrev pub unhandled : Scene → Scene
unhandled scene = record scene { handler = None }

abbrev pub first_place : Place
first_place = record { line = 1; column = 1 }

-- a node before the first one, at which a program begins whose first line is a jump: what stands
-- behind the jump isn't run
abbrev pub first_const : Scene → List Item
first_const scene =
    (with_const scene first_place primitive.Undefined
    (nothing_listed (first_temporary 0))).listing.items

unfoldable pub beginning_with_node : Scene → List Item → List Item
beginning_with_node scene items =
    if begins_with_node items then items else first_const scene ++ items

-- the listing of the program: as a function without parameters, but with no activation of its own
unfoldable pub program_listing : Scene → List Statement → List Item
program_listing scene statements =
    beginning_with_node (unhandled scene) (with_body (unhandled scene) first_place statements
    (first_temporary 0) (nothing_listed (first_temporary 0))).items

-- the listing of a function, at the place of its word `function`
unfoldable pub function_listing : Scene → FunctionOf Statement → List Item
function_listing scene f =
    let base = first_temporary (length f.parameters) in
    (with_body (unhandled scene) f.place f.body base
    (with_entry (unhandled scene) f.place (mentions_arguments f.body)
    (nothing_listed base))).items
