-- The transfer function: the row of each kind of node.
use Rattle.ja_graph.specs.declared.node.Node.{Node}
use Rattle.ja_graph.specs.declared.node.Node.TheVariants as node
use Rattle.ja_graph.specs.declared.node.NodeInfo.{NodeInfo}
use Rattle.ja_abstract.specs.Reading.{View}
use Rattle.ja_rows.specs.Out.{Out, Point, nowhere}
use Rattle.ja_rows.specs.Names.{transfer_find_name, transfer_read_ref, transfer_read_soft, transfer_write_ref, transfer_delete_ref}
use Rattle.ja_rows.specs.Properties.{transfer_read_prop, transfer_write_prop, transfer_delete_prop, transfer_has_prop, transfer_instance_of}
use Rattle.ja_rows.specs.Objects.{transfer_to_object, transfer_need_object, transfer_new_object, transfer_make_function}
use Rattle.ja_rows.specs.Scopes.{transfer_enter, transfer_declare, transfer_bind, transfer_push_scope}
use Rattle.ja_rows.specs.Operators.{transfer_const, transfer_move, transfer_unary, transfer_binary, transfer_branch, transfer_throw}
use Rattle.ja_rows.specs.Edges.{transfer_convert, transfer_call, transfer_new}
use Rattle.ja_rows.specs.Enumeration.{transfer_names, transfer_pick}
use Rattle.ja_rows.specs.BuiltIns.{transfer_intrinsic, transfer_device}

-- ---- one clause for each kind of node

abbrev pub transfer_node : View → Point → NodeInfo → Node → Out
transfer_node w x i (node.Const dst q) = transfer_const w i dst q
transfer_node w x i (node.Move dst src) = transfer_move w i dst src
transfer_node w x i (node.FindName dst name) = transfer_find_name w i dst name
transfer_node w x i (node.ReadRef dst base name error) = transfer_read_ref w i dst base name error
transfer_node w x i (node.ReadSoft dst base name) = transfer_read_soft w i dst base name
transfer_node w x i (node.WriteRef base name src) = transfer_write_ref w i base name src
transfer_node w x i (node.DeleteRef dst base name) = transfer_delete_ref w i dst base name
transfer_node w x i (node.ToObject dst src sites error) = transfer_to_object w i dst src sites error
transfer_node w x i (node.NeedObject src error) = transfer_need_object w i src error
transfer_node w x i (node.ReadProp dst object key) = transfer_read_prop w i dst object key
transfer_node w x i (node.WriteProp object key src error) =
    transfer_write_prop w i object key src error
transfer_node w x i (node.DeleteProp dst object key) = transfer_delete_prop w i dst object key
transfer_node w x i (node.HasProp dst object key) = transfer_has_prop w i dst object key
transfer_node w x i (node.InstanceOf dst left right not_function not_object) =
    transfer_instance_of w i dst left right not_function not_object
transfer_node w x i (node.NewObject dst site kind) = transfer_new_object w i dst site kind
transfer_node w x i (node.MakeFunction dst function site proto_site) =
    transfer_make_function w i dst function site proto_site
transfer_node w x i (node.Enter site arguments) = transfer_enter w x i site arguments
transfer_node w x i (node.Declare name) = transfer_declare w i name
transfer_node w x i (node.Bind name src read_only) = transfer_bind w i name src read_only
transfer_node w x i (node.PushScope site) = transfer_push_scope w i site
transfer_node w x i (node.Convert dst src kind other) = transfer_convert w x i dst src kind other
transfer_node w x i (node.Unary dst op src) = transfer_unary w i dst op src
transfer_node w x i (node.Binary dst op a b) = transfer_binary w i dst op a b
transfer_node w x i (node.Branch src) = transfer_branch w i src
transfer_node w x i (node.Call dst callee receiver args error) =
    transfer_call w x i dst callee receiver args error
transfer_node w x i (node.New dst callee args site error) =
    transfer_new w x i dst callee args site error
transfer_node w x i (node.Names list object) = transfer_names w i list object
transfer_node w x i (node.Pick list dst object) = transfer_pick w i list dst object
transfer_node w x i (node.Throw src) = transfer_throw w i src
transfer_node w x i (node.Return src) = nowhere
transfer_node w x i node.Escape = nowhere
transfer_node w x i (node.Intrinsic dst which args) = transfer_intrinsic w i dst which args
transfer_node w x i (node.Device dst which) = transfer_device w i dst which
transfer_node w x i (node.Stop kind) = nowhere

abbrev pub transfer : View → Point → Out
transfer w x = transfer_node w x x.info x.info.node
