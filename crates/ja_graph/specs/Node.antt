-- What a node names: registers, names, functions, and the sites where it makes objects.
use Rattle.std.specs.Prelude.{ℕ, Bool, true, false, ◌+◌, ◌==◌, max, List, [], ◌∷◌, ◌++◌, map, Option, Some, None}
use Rattle.std.specs.List.{fold}
use Rattle.std.specs.Option.{option_to_list}
use Rattle.ja_base.specs.declared.ids.FnId.{FnId}
use Rattle.ja_base.specs.declared.ids.NameId.{NameId}
use Rattle.ja_base.specs.declared.ids.Reg.{Reg}
use Rattle.ja_base.specs.declared.ids.Site.{Site}
use Rattle.ja_graph.specs.declared.node.Args.{Args}
use Rattle.ja_graph.specs.declared.node.Args.TheVariants as args
use Rattle.ja_graph.specs.declared.node.Made.{Made}
use Rattle.ja_graph.specs.declared.node.Made.TheVariants as made
use Rattle.ja_graph.specs.declared.node.Node.{Node}
use Rattle.ja_graph.specs.declared.node.Node.TheVariants as node
use Rattle.ja_graph.specs.declared.program.Class.{Class}
use Rattle.ja_graph.specs.declared.program.Class.TheVariants as class

-- the register that a node sets, if it sets one
unfoldable pub register_set : Node → Option Reg
register_set (node.Const dst prim) = Some dst
register_set (node.Move dst src) = Some dst
register_set (node.FindName dst name) = Some dst
register_set (node.ReadRef dst base name error) = Some dst
register_set (node.ReadSoft dst base name) = Some dst
register_set (node.DeleteRef dst base name) = Some dst
register_set (node.ToObject dst src sites error) = Some dst
register_set (node.ReadProp dst object key) = Some dst
register_set (node.DeleteProp dst object key) = Some dst
register_set (node.HasProp dst object key) = Some dst
register_set (node.InstanceOf dst left right not_function not_object) = Some dst
register_set (node.NewObject dst site kind) = Some dst
register_set (node.MakeFunction dst function site proto_site) = Some dst
register_set (node.Convert dst src hint other) = Some dst
register_set (node.Unary dst op src) = Some dst
register_set (node.Binary dst op a b) = Some dst
register_set (node.Call dst callee receiver args error) = Some dst
register_set (node.New dst callee args site error) = Some dst
register_set (node.Pick list dst object) = Some dst
register_set (node.Intrinsic dst which args) = Some dst
register_set (node.Device dst which) = Some dst
register_set _ = None

-- the registers of a call's arguments
abbrev pub argument_registers : Args → List Reg
argument_registers (args.Registers list) = list
argument_registers (args.Elements array) = array ∷ []
argument_registers args.Tail = []

-- the other registers that a node names, the number of a `for`-`in`'s list among them
unfoldable pub registers_named : Node → List Reg
registers_named (node.Move dst src) = src ∷ []
registers_named (node.ReadRef dst base name error) = base ∷ []
registers_named (node.ReadSoft dst base name) = base ∷ []
registers_named (node.WriteRef base name src) = base ∷ src ∷ []
registers_named (node.DeleteRef dst base name) = base ∷ []
registers_named (node.ToObject dst src sites error) = src ∷ []
registers_named (node.NeedObject src error) = src ∷ []
registers_named (node.ReadProp dst object key) = object ∷ key ∷ []
registers_named (node.WriteProp object key src error) = object ∷ key ∷ src ∷ []
registers_named (node.DeleteProp dst object key) = object ∷ key ∷ []
registers_named (node.HasProp dst object key) = object ∷ key ∷ []
registers_named (node.InstanceOf dst left right not_function not_object) = left ∷ right ∷ []
registers_named (node.Bind name src read_only) = src ∷ []
registers_named (node.Convert dst src hint other) = src ∷ option_to_list other
registers_named (node.Unary dst op src) = src ∷ []
registers_named (node.Binary dst op a b) = a ∷ b ∷ []
registers_named (node.Branch src) = src ∷ []
registers_named (node.Call dst callee receiver args error) =
    callee ∷ receiver ∷ argument_registers args
registers_named (node.New dst callee args site error) = callee ∷ args
registers_named (node.Names list object) = list ∷ object ∷ []
registers_named (node.Pick list dst object) = list ∷ object ∷ []
registers_named (node.Throw src) = src ∷ []
registers_named (node.Return src) = src ∷ []
registers_named (node.Intrinsic dst which args) = args
registers_named _ = []

-- the registers of a node
abbrev pub registers_in : Node → List Reg
registers_in node = option_to_list (register_set node) ++ registers_named node

-- as many registers as there were, or so many that these are among them
abbrev pub registers_with : ℕ → List Reg → ℕ
registers_with first rs = fold max first (map (λ (r : Reg). r.0 + 1) rs)

-- the name of a node, if it has one
unfoldable pub name_in : Node → Option NameId
name_in (node.FindName dst name) = Some name
name_in (node.ReadRef dst base name error) = Some name
name_in (node.ReadSoft dst base name) = Some name
name_in (node.WriteRef base name src) = Some name
name_in (node.DeleteRef dst base name) = Some name
name_in (node.Declare name) = Some name
name_in (node.Bind name src read_only) = Some name
name_in _ = None

-- the function that a node makes an object of
unfoldable pub function_in : Node → Option FnId
function_in (node.MakeFunction dst function site proto_site) = Some function
function_in _ = None

-- a node that may throw, so that it has a handler
unfoldable pub may_throw : Node → Bool
may_throw (node.ReadRef dst base name error) = true
may_throw (node.ToObject dst src sites error) = true
may_throw (node.NeedObject src error) = true
may_throw (node.WriteProp object key src error) = true
may_throw (node.InstanceOf dst left right not_function not_object) = true
may_throw (node.Convert dst src hint other) = true
may_throw (node.Call dst callee receiver args error) = true
may_throw (node.New dst callee args site error) = true
may_throw (node.Throw src) = true
may_throw _ = false

-- ---- sites

-- the class of a new empty object
abbrev pub class_of : Made → Class
class_of made.Object = class.Object
class_of made.Array = class.Array
class_of (made.Error kind) = class.Error

-- a site of a node, and the class of the objects that it makes there
pub record Making : Type 0 where
  pub site : Site
  pub class : Class

abbrev pub making : Site → Class → Making
making site class = record { site = site; class = class }

-- a site that may be missing
abbrev pub making_if_any : Option Site → Class → List Making
making_if_any None class = []
making_if_any (Some site) class = making site class ∷ []

-- the sites of a node, in the order of its fields
unfoldable pub makings : Node → List Making
makings (node.ReadRef dst base name error) = making error class.Error ∷ []
makings (node.ToObject dst src sites error) =
    making sites.boolean class.Boolean ∷ making sites.number class.Number
    ∷ making sites.text class.String ∷ making error class.Error ∷ []
makings (node.NeedObject src error) = making error class.Error ∷ []
makings (node.WriteProp object key src error) = making error class.Error ∷ []
makings (node.InstanceOf dst left right not_function not_object) =
    making not_function class.Error ∷ making not_object class.Error ∷ []
makings (node.NewObject dst site kind) = making site (class_of kind) ∷ []
makings (node.MakeFunction dst function site proto_site) =
    making site class.Function ∷ making proto_site class.Object ∷ []
makings (node.Enter site arguments) =
    making site class.Activation ∷ making_if_any arguments class.Object
makings (node.PushScope site) = making site class.Object ∷ []
makings (node.Call dst callee receiver args error) = making error class.Error ∷ []
makings (node.New dst callee args site error) =
    making site class.Object ∷ making error class.Error ∷ []
makings _ = []

-- whether a node makes arguments objects at a site (10.1.8)
abbrev pub makes_arguments : Site → Node → Bool
makes_arguments s (node.Enter site (Some arguments)) = arguments.0 == s.0
makes_arguments s node = false
