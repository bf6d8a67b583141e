-- A node with each of its numbers mapped.
use Rattle.std.specs.Prelude.{map}
use Rattle.std.specs.Option.{option_map}
use Rattle.ja_base.specs.declared.ids.FnId.{FnId}
use Rattle.ja_base.specs.declared.ids.NameId.{NameId}
use Rattle.ja_base.specs.declared.ids.Reg.{Reg}
use Rattle.ja_base.specs.declared.ids.Site.{Site}
use Rattle.ja_graph.specs.declared.node.Args.{Args}
use Rattle.ja_graph.specs.declared.node.Args.TheVariants as args
use Rattle.ja_graph.specs.declared.node.Node.{Node}
use Rattle.ja_graph.specs.declared.node.Node.TheVariants as node
use Rattle.ja_graph.specs.declared.node.Wrappers.{Wrappers}

-- where each number goes
pub record Renaming : Type 0 where
  pub register : Reg → Reg
  pub name : NameId → NameId
  pub function : FnId → FnId
  pub site : Site → Site

-- each number stays
abbrev pub identity : Renaming
identity = record { register = λ x. x; name = λ x. x; function = λ x. x; site = λ x. x }

abbrev pub renamed_wrappers : Renaming → Wrappers → Wrappers
renamed_wrappers r sites =
    record {
      boolean = r.site sites.boolean;
      number = r.site sites.number;
      text = r.site sites.text;
    }

abbrev pub renamed_args : Renaming → Args → Args
renamed_args r (args.Registers list) = args.Registers (map r.register list)
renamed_args r (args.Elements array) = args.Elements (r.register array)
renamed_args r args.Tail = args.Tail

-- the registers, names, functions and sites of a node; what else it has stays
unfoldable pub renamed : Renaming → Node → Node
renamed r (node.Const dst prim) = node.Const (r.register dst) prim
renamed r (node.Move dst src) = node.Move (r.register dst) (r.register src)
renamed r (node.FindName dst name) = node.FindName (r.register dst) (r.name name)
renamed r (node.ReadRef dst base name error) =
    node.ReadRef (r.register dst) (r.register base) (r.name name) (r.site error)
renamed r (node.ReadSoft dst base name) =
    node.ReadSoft (r.register dst) (r.register base) (r.name name)
renamed r (node.WriteRef base name src) =
    node.WriteRef (r.register base) (r.name name) (r.register src)
renamed r (node.DeleteRef dst base name) =
    node.DeleteRef (r.register dst) (r.register base) (r.name name)
renamed r (node.ToObject dst src sites error) =
    node.ToObject (r.register dst) (r.register src) (renamed_wrappers r sites) (r.site error)
renamed r (node.NeedObject src error) = node.NeedObject (r.register src) (r.site error)
renamed r (node.ReadProp dst object key) =
    node.ReadProp (r.register dst) (r.register object) (r.register key)
renamed r (node.WriteProp object key src error) =
    node.WriteProp (r.register object) (r.register key) (r.register src) (r.site error)
renamed r (node.DeleteProp dst object key) =
    node.DeleteProp (r.register dst) (r.register object) (r.register key)
renamed r (node.HasProp dst object key) =
    node.HasProp (r.register dst) (r.register object) (r.register key)
renamed r (node.InstanceOf dst left right not_function not_object) =
    node.InstanceOf (r.register dst) (r.register left) (r.register right) (r.site not_function)
    (r.site not_object)
renamed r (node.NewObject dst site kind) = node.NewObject (r.register dst) (r.site site) kind
renamed r (node.MakeFunction dst function site proto_site) =
    node.MakeFunction (r.register dst) (r.function function) (r.site site) (r.site proto_site)
renamed r (node.Enter site arguments) = node.Enter (r.site site) (option_map r.site arguments)
renamed r (node.Declare name) = node.Declare (r.name name)
renamed r (node.Bind name src read_only) = node.Bind (r.name name) (r.register src) read_only
renamed r (node.PushScope site) = node.PushScope (r.site site)
renamed r (node.Convert dst src hint other) =
    node.Convert (r.register dst) (r.register src) hint (option_map r.register other)
renamed r (node.Unary dst op src) = node.Unary (r.register dst) op (r.register src)
renamed r (node.Binary dst op a b) = node.Binary (r.register dst) op (r.register a) (r.register b)
renamed r (node.Branch src) = node.Branch (r.register src)
renamed r (node.Call dst callee receiver args error) =
    node.Call (r.register dst) (r.register callee) (r.register receiver) (renamed_args r args)
    (r.site error)
renamed r (node.New dst callee args site error) =
    node.New (r.register dst) (r.register callee) (map r.register args) (r.site site) (r.site error)
renamed r (node.Names list object) = node.Names (r.register list) (r.register object)
renamed r (node.Pick list dst object) =
    node.Pick (r.register list) (r.register dst) (r.register object)
renamed r (node.Throw src) = node.Throw (r.register src)
renamed r (node.Return src) = node.Return (r.register src)
renamed r node.Escape = node.Escape
renamed r (node.Intrinsic dst which args) =
    node.Intrinsic (r.register dst) which (map r.register args)
renamed r (node.Device dst which) = node.Device (r.register dst) which
renamed r (node.Stop kind) = node.Stop kind
