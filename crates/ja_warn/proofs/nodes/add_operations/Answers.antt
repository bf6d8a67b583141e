-- The operations of a node are those of its tests.
use Rattle.std.proofs.Common.{◌≡◌, ◌<◌, vec_len, ap, refl, subst}
use Rattle.std.specs.declared.result.Result.TheVariants.{Ok}
use Rattle.std.specs.List.{AllByRecursion}
use Rattle.ja_base.specs.declared.ids.Reg.{Reg}
use Rattle.ja_graph.specs.declared.node.Node.{Node}
use Rattle.ja_graph.specs.Node.{registers_named}
use Rattle.ja_astate.specs.declared.state.AState.{AState}
use Rattle.ja_astate.specs.Looks.{view_of}
use Rattle.ja_value.specs.Value.{value_of}
use Rattle.ja_rows.specs.Edges.{calls_at, constructs_at}
use Rattle.ja_rows.specs.Out.{name_keys}
use Rattle.ja_rows.specs.Warning.{no_function, no_object, row_of_name, row_of_property, tests, unbound}
use Rattle.ja_warn.specs.Told.{subject}
use Rattle.ja_warn.proofs.NodeLemmas.{one_test, two_tests}
use Rattle.ja_warn.proofs.nodes.add_operations.Goals as goal

-- the registers that are read are named
named : (a : AState) (n m : Node) → n ≡ m
    → AllByRecursion (λ (r : Reg). r.0 < vec_len a.registers) (registers_named n)
    → AllByRecursion (λ (r : Reg). r.0 < vec_len a.registers) (registers_named m)
named a n m =
    subst (λ x. AllByRecursion (λ (r : Reg). r.0 < vec_len a.registers) (registers_named x))

pub no_function-requires : goal.no_function-requires
unfolding registers_named
no_function-requires c =
    (named c.args.reader.now.state.now _ _ c.in-Call.is c.requires).0

pub no_function-requires-in-New : goal.no_function-requires-in-New
unfolding registers_named
no_function-requires-in-New c =
    (named c.args.reader.now.state.now _ _ c.in-New.is c.requires).0

pub no_object-requires : goal.no_object-requires
unfolding registers_named
no_object-requires c =
    (named c.args.reader.now.state.now _ _ c.in-ToObject.is c.requires).0

pub unbound-requires : goal.unbound-requires
unfolding registers_named
unbound-requires c =
    (named c.args.reader.now.state.now _ _ c.in-ReadRef.is c.requires).0

pub row_of_name-requires : goal.row_of_name-requires
unfolding registers_named
row_of_name-requires c =
    (named c.args.reader.now.state.now _ _ c.in-ReadRef.is c.requires).0

pub row_of_name-requires-in-ReadSoft : goal.row_of_name-requires-in-ReadSoft
unfolding registers_named
row_of_name-requires-in-ReadSoft c =
    (named c.args.reader.now.state.now _ _ c.in-ReadSoft.is c.requires).0

pub row_of_property-requires-clause-object : goal.row_of_property-requires-clause-object
unfolding registers_named
row_of_property-requires-clause-object c =
    (named c.args.reader.now.state.now _ _ c.in-ReadProp.is c.requires).0

pub row_of_property-requires-clause-key : goal.row_of_property-requires-clause-key
unfolding registers_named
row_of_property-requires-clause-key c =
    (named c.args.reader.now.state.now _ _ c.in-ReadProp.is c.requires).1.0

pub add_test-requires : goal.add_test-requires
unfolding registers_named
add_test-requires c =
    (named c.args.reader.now.state.now _ _ c.in-Call.is c.requires).0

pub add_test-requires-in-New : goal.add_test-requires-in-New
unfolding registers_named
add_test-requires-in-New c =
    (named c.args.reader.now.state.now _ _ c.in-New.is c.requires).0

pub add_test-requires-in-ToObject : goal.add_test-requires-in-ToObject
unfolding registers_named
add_test-requires-in-ToObject c =
    (named c.args.reader.now.state.now _ _ c.in-ToObject.is c.requires).0

pub add_test-requires-in-ReadRef : goal.add_test-requires-in-ReadRef
unfolding registers_named
add_test-requires-in-ReadRef c =
    (named c.args.reader.now.state.now _ _ c.in-ReadRef.is c.requires).0

pub add_test-requires-in-ReadRef-2 : goal.add_test-requires-in-ReadRef-2
unfolding registers_named
add_test-requires-in-ReadRef-2 c =
    (named c.args.reader.now.state.now _ _ c.in-ReadRef.is c.requires).0

pub add_test-requires-in-ReadSoft : goal.add_test-requires-in-ReadSoft
unfolding registers_named
add_test-requires-in-ReadSoft c =
    (named c.args.reader.now.state.now _ _ c.in-ReadSoft.is c.requires).0

pub add_test-requires-in-ReadProp : goal.add_test-requires-in-ReadProp
unfolding registers_named
add_test-requires-in-ReadProp c =
    (named c.args.reader.now.state.now _ _ c.in-ReadProp.is c.requires).0

pub returns-in-Call : goal.returns-in-Call
returns-in-Call c =
    one_test (view_of c.args.reader.now) c.args.function c.args.info.now
    (value_of c.args.called.now)
    (no_function calls_at c.in-Call.callee) c.in-Call.callee c.no_function.result
    c.add_test.result _ _ (ap tests c.in-Call.is) (ap subject c.in-Call.is) c.no_function.ensures
    c.add_test.ensures

pub returns-in-New : goal.returns-in-New
returns-in-New c =
    one_test (view_of c.args.reader.now) c.args.function c.args.info.now
    (value_of c.args.called.now)
    (no_function constructs_at c.in-New.callee) c.in-New.callee c.no_function-in-New.result
    c.add_test-in-New.result _ _ (ap tests c.in-New.is) (ap subject c.in-New.is)
    c.no_function-in-New.ensures c.add_test-in-New.ensures

pub returns-in-ToObject : goal.returns-in-ToObject
returns-in-ToObject c =
    one_test (view_of c.args.reader.now) c.args.function c.args.info.now
    (value_of c.args.called.now)
    (no_object c.in-ToObject.src) c.in-ToObject.src (Ok c.no_object.result)
    c.add_test-in-ToObject.result _ _ (ap tests c.in-ToObject.is) (ap subject c.in-ToObject.is)
    c.no_object.ensures c.add_test-in-ToObject.ensures

pub returns-in_ok-add_test-in-ReadRef : goal.returns-in_ok-add_test-in-ReadRef
returns-in_ok-add_test-in-ReadRef c =
    let w = view_of c.args.reader.now in
    let f = c.args.function in
    let i = c.args.info.now in
    let first = unbound c.in-ReadRef.base in
    let about_is = ap subject c.in-ReadRef.is in
    two_tests w f i (value_of c.args.called.now) first
    (row_of_name c.in-ReadRef.base (name_keys c.in-ReadRef.name))
    c.in-ReadRef.base c.row_of_name.result c.add_test-in-ReadRef-2.result _ _ _
    (ap tests c.in-ReadRef.is)
    (c.in_ok-add_test-in-ReadRef.ensures first refl about_is c.unbound.ensures) about_is
    c.row_of_name.ensures c.add_test-in-ReadRef-2.ensures

pub returns-in-ReadSoft : goal.returns-in-ReadSoft
returns-in-ReadSoft c =
    one_test (view_of c.args.reader.now) c.args.function c.args.info.now
    (value_of c.args.called.now)
    (row_of_name c.in-ReadSoft.base (name_keys c.in-ReadSoft.name)) c.in-ReadSoft.base
    c.row_of_name-in-ReadSoft.result c.add_test-in-ReadSoft.result _ _
    (ap tests c.in-ReadSoft.is) (ap subject c.in-ReadSoft.is) c.row_of_name-in-ReadSoft.ensures
    c.add_test-in-ReadSoft.ensures

pub returns-in-ReadProp : goal.returns-in-ReadProp
returns-in-ReadProp c =
    one_test (view_of c.args.reader.now) c.args.function c.args.info.now
    (value_of c.args.called.now)
    (row_of_property c.in-ReadProp.object c.in-ReadProp.key) c.in-ReadProp.object
    c.row_of_property.result c.add_test-in-ReadProp.result _ _ (ap tests c.in-ReadProp.is)
    (ap subject c.in-ReadProp.is) c.row_of_property.ensures c.add_test-in-ReadProp.ensures
