use Rattle.std.proofs.Common.{Some, ap, sym}
use Rattle.std.proofs.lemmas.Result.{IfOk-weaker}
use Rattle.ja_graph.specs.Node.{name_in, function_in}
use Rattle.ja_step.proofs.Known.{named, few_parameters}
use Rattle.ja_step.proofs.conf.Conf.step_node.Goals as goal

pub finds_name-requires : goal.finds_name-requires
unfolding name_in
finds_name-requires c =
    named c.args.program.now c.requires.info.0 c.args.info.now c.requires.info.1 c.in-FindName.name
    (ap name_in c.in-FindName.is)

pub reads_name-requires : goal.reads_name-requires
unfolding name_in
reads_name-requires c =
    named c.args.program.now c.requires.info.0 c.args.info.now c.requires.info.1 c.in-ReadRef.name
    (ap name_in c.in-ReadRef.is)

pub reads_softly-requires : goal.reads_softly-requires
unfolding name_in
reads_softly-requires c =
    named c.args.program.now c.requires.info.0 c.args.info.now c.requires.info.1 c.in-ReadSoft.name
    (ap name_in c.in-ReadSoft.is)

pub writes_name-requires : goal.writes_name-requires
unfolding name_in
writes_name-requires c =
    named c.args.program.now c.requires.info.0 c.args.info.now c.requires.info.1 c.in-WriteRef.name
    (ap name_in c.in-WriteRef.is)

pub deletes_name-requires : goal.deletes_name-requires
unfolding name_in
deletes_name-requires c =
    named c.args.program.now c.requires.info.0 c.args.info.now c.requires.info.1 c.in-DeleteRef.name
    (ap name_in c.in-DeleteRef.is)

pub makes_function-requires : goal.makes_function-requires
unfolding function_in
makes_function-requires c =
    few_parameters c.args.program.now c.requires.info.0 c.args.info.now c.requires.info.1
    c.requires.program c.in-MakeFunction.function (ap function_in c.in-MakeFunction.is)

pub declares-requires : goal.declares-requires
unfolding name_in
declares-requires c =
    named c.args.program.now c.requires.info.0 c.args.info.now c.requires.info.1 c.in-Declare.name
    (ap name_in c.in-Declare.is)

pub binds-requires : goal.binds-requires
unfolding name_in
binds-requires c =
    named c.args.program.now c.requires.info.0 c.args.info.now c.requires.info.1 c.in-Bind.name
    (ap name_in c.in-Bind.is)

pub returns-in-ReadProp : goal.returns-in-ReadProp
returns-in-ReadProp c =
    IfOk-weaker c.reads_property.result _ _
    (λ end e. rw c.in-ReadProp.is (ap (λ x. Some x) (sym e))) c.reads_property.ensures

pub returns-in-WriteProp : goal.returns-in-WriteProp
returns-in-WriteProp c =
    IfOk-weaker c.writes_property.result _ _
    (λ end e. rw c.in-WriteProp.is (ap (λ x. Some x) (sym e))) c.writes_property.ensures

pub returns-in-HasProp : goal.returns-in-HasProp
returns-in-HasProp c =
    IfOk-weaker c.has_property.result _ _ (λ end e. rw c.in-HasProp.is (ap (λ x. Some x) (sym e)))
    c.has_property.ensures
