-- What renaming keeps of a node.
use Rattle.std.proofs.Common.{◌≡◌, List, Option, refl, ap, map-id}
use Rattle.std.specs.Option.{option_map}
use Rattle.std.proofs.lemmas.Iterator.Adapters.{option_map_id}
use Rattle.ja_base.specs.declared.ids.Reg.{Reg}
use Rattle.ja_base.specs.declared.ids.Site.{Site}
use Rattle.ja_graph.specs.declared.node.Args.{Args}
use Rattle.ja_graph.specs.declared.node.Args.TheVariants as args
use Rattle.ja_graph.specs.declared.node.Node.{Node}
use Rattle.ja_graph.specs.declared.node.Node.TheVariants as node
use Rattle.ja_graph.specs.Node.{may_throw, register_set}
use Rattle.ja_graph.specs.Renaming.{Renaming, identity, renamed, renamed_args}

-- of arguments
args_kept : (list : Args) → renamed_args identity list ≡ list
args_kept (args.Registers list) = ap (λ (rs : List Reg). args.Registers rs) (map-id list)
args_kept (args.Elements array) = refl
args_kept args.Tail = refl

-- where each number stays, so does the node
pub identity_keeps : (n : Node) → renamed identity n ≡ n
unfolding renamed
identity_keeps (node.Const dst prim) = refl
identity_keeps (node.Move dst src) = refl
identity_keeps (node.FindName dst name) = refl
identity_keeps (node.ReadRef dst base name error) = refl
identity_keeps (node.ReadSoft dst base name) = refl
identity_keeps (node.WriteRef base name src) = refl
identity_keeps (node.DeleteRef dst base name) = refl
identity_keeps (node.ToObject dst src sites error) = refl
identity_keeps (node.NeedObject src error) = refl
identity_keeps (node.ReadProp dst object key) = refl
identity_keeps (node.WriteProp object key src error) = refl
identity_keeps (node.DeleteProp dst object key) = refl
identity_keeps (node.HasProp dst object key) = refl
identity_keeps (node.InstanceOf dst left right not_function not_object) = refl
identity_keeps (node.NewObject dst site kind) = refl
identity_keeps (node.MakeFunction dst function site proto_site) = refl
identity_keeps (node.Enter site arguments) =
    ap (λ (x : Option Site). node.Enter site x) (option_map_id arguments)
identity_keeps (node.Declare name) = refl
identity_keeps (node.Bind name src read_only) = refl
identity_keeps (node.PushScope site) = refl
identity_keeps (node.Convert dst src hint other) =
    ap (λ (x : Option Reg). node.Convert dst src hint x) (option_map_id other)
identity_keeps (node.Unary dst op src) = refl
identity_keeps (node.Binary dst op a b) = refl
identity_keeps (node.Branch src) = refl
identity_keeps (node.Call dst callee receiver args error) =
    ap (λ (x : Args). node.Call dst callee receiver x error) (args_kept args)
identity_keeps (node.New dst callee args site error) =
    ap (λ (x : List Reg). node.New dst callee x site error) (map-id args)
identity_keeps (node.Names list object) = refl
identity_keeps (node.Pick list dst object) = refl
identity_keeps (node.Throw src) = refl
identity_keeps (node.Return src) = refl
identity_keeps node.Escape = refl
identity_keeps (node.Intrinsic dst which args) =
    ap (λ (x : List Reg). node.Intrinsic dst which x) (map-id args)
identity_keeps (node.Device dst which) = refl
identity_keeps (node.Stop kind) = refl

-- a renamed node may throw where the node may
pub throws_alike : (r : Renaming) (n : Node) → may_throw (renamed r n) ≡ may_throw n
unfolding renamed may_throw
throws_alike r (node.Const dst prim) = refl
throws_alike r (node.Move dst src) = refl
throws_alike r (node.FindName dst name) = refl
throws_alike r (node.ReadRef dst base name error) = refl
throws_alike r (node.ReadSoft dst base name) = refl
throws_alike r (node.WriteRef base name src) = refl
throws_alike r (node.DeleteRef dst base name) = refl
throws_alike r (node.ToObject dst src sites error) = refl
throws_alike r (node.NeedObject src error) = refl
throws_alike r (node.ReadProp dst object key) = refl
throws_alike r (node.WriteProp object key src error) = refl
throws_alike r (node.DeleteProp dst object key) = refl
throws_alike r (node.HasProp dst object key) = refl
throws_alike r (node.InstanceOf dst left right not_function not_object) = refl
throws_alike r (node.NewObject dst site kind) = refl
throws_alike r (node.MakeFunction dst function site proto_site) = refl
throws_alike r (node.Enter site arguments) = refl
throws_alike r (node.Declare name) = refl
throws_alike r (node.Bind name src read_only) = refl
throws_alike r (node.PushScope site) = refl
throws_alike r (node.Convert dst src hint other) = refl
throws_alike r (node.Unary dst op src) = refl
throws_alike r (node.Binary dst op a b) = refl
throws_alike r (node.Branch src) = refl
throws_alike r (node.Call dst callee receiver args error) = refl
throws_alike r (node.New dst callee args site error) = refl
throws_alike r (node.Names list object) = refl
throws_alike r (node.Pick list dst object) = refl
throws_alike r (node.Throw src) = refl
throws_alike r (node.Return src) = refl
throws_alike r node.Escape = refl
throws_alike r (node.Intrinsic dst which args) = refl
throws_alike r (node.Device dst which) = refl
throws_alike r (node.Stop kind) = refl

-- a renamed node sets the renamed register
pub sets_renamed : (r : Renaming) (n : Node)
    → register_set (renamed r n) ≡ option_map r.register (register_set n)
unfolding renamed register_set
sets_renamed r (node.Const dst prim) = refl
sets_renamed r (node.Move dst src) = refl
sets_renamed r (node.FindName dst name) = refl
sets_renamed r (node.ReadRef dst base name error) = refl
sets_renamed r (node.ReadSoft dst base name) = refl
sets_renamed r (node.WriteRef base name src) = refl
sets_renamed r (node.DeleteRef dst base name) = refl
sets_renamed r (node.ToObject dst src sites error) = refl
sets_renamed r (node.NeedObject src error) = refl
sets_renamed r (node.ReadProp dst object key) = refl
sets_renamed r (node.WriteProp object key src error) = refl
sets_renamed r (node.DeleteProp dst object key) = refl
sets_renamed r (node.HasProp dst object key) = refl
sets_renamed r (node.InstanceOf dst left right not_function not_object) = refl
sets_renamed r (node.NewObject dst site kind) = refl
sets_renamed r (node.MakeFunction dst function site proto_site) = refl
sets_renamed r (node.Enter site arguments) = refl
sets_renamed r (node.Declare name) = refl
sets_renamed r (node.Bind name src read_only) = refl
sets_renamed r (node.PushScope site) = refl
sets_renamed r (node.Convert dst src hint other) = refl
sets_renamed r (node.Unary dst op src) = refl
sets_renamed r (node.Binary dst op a b) = refl
sets_renamed r (node.Branch src) = refl
sets_renamed r (node.Call dst callee receiver args error) = refl
sets_renamed r (node.New dst callee args site error) = refl
sets_renamed r (node.Names list object) = refl
sets_renamed r (node.Pick list dst object) = refl
sets_renamed r (node.Throw src) = refl
sets_renamed r (node.Return src) = refl
sets_renamed r node.Escape = refl
sets_renamed r (node.Intrinsic dst which args) = refl
sets_renamed r (node.Device dst which) = refl
sets_renamed r (node.Stop kind) = refl
