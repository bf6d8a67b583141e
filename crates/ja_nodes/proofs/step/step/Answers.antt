-- The registers, the names and the sites of a node are of the state and of the program.
use Rattle.std.proofs.Common.{arith, ◌<◌, List, sym, subst, vec_len}
use Rattle.std.specs.List.{AllByRecursion}
use Rattle.std.specs.Result.{IfOk}
use Rattle.std.proofs.lemmas.Result.{IfOk-weaker}
use Rattle.ja_base.specs.declared.ids.Reg.{Reg}
use Rattle.ja_rows.specs.BuiltIns.{transfer_intrinsic}
use Rattle.ja_nodes.proofs.AtNode.{numbers_at, fixed_registers, few_parameters, global_site, parameters_fit}
use Rattle.ja_transfer.proofs.GivenLemmas.{of_kind}
use Rattle.ja_transfer.specs.Outcomes.{at_view, IsOutcome}
use Rattle.ja_nodes.proofs.step.step.Goals as goal

-- ---- Const

pub constant-requires : goal.constant-requires
constant-requires c =
    numbers_at _ _ _ c.requires.node _ c.in-Const.is

pub returns-in-Const : goal.returns-in-Const
returns-in-Const c =
    of_kind c.args.stepper.now _ _ c.constant.result c.in-Const.is c.constant.ensures

-- ---- Move

pub copies-requires : goal.copies-requires
copies-requires c =
    let h = numbers_at _ _ _ c.requires.node _ c.in-Move.is in
    record {
      dst = h.0;
      src = h.1;
    }

pub returns-in-Move : goal.returns-in-Move
returns-in-Move c =
    of_kind c.args.stepper.now _ _ c.copies.result c.in-Move.is c.copies.ensures

-- ---- FindName

pub find_name-requires : goal.find_name-requires
find_name-requires c =
    let h = numbers_at _ _ _ c.requires.node _ c.in-FindName.is in
    let fixed = fixed_registers _ _ _ c.requires.node in
    record {
      dst = h;
      scope = omega (arith, fixed);
    }

pub returns-in-FindName : goal.returns-in-FindName
returns-in-FindName c =
    of_kind c.args.stepper.now _ _ c.find_name.result c.in-FindName.is c.find_name.ensures

-- ---- ReadRef

pub read_ref-requires : goal.read_ref-requires
read_ref-requires c =
    let h = numbers_at _ _ _ c.requires.node _ c.in-ReadRef.is in
    record {
      dst = h.0;
      base = h.1;
      name = h.2;
      error = h.3;
    }

pub returns-in-ReadRef : goal.returns-in-ReadRef
returns-in-ReadRef c =
    of_kind c.args.stepper.now _ _ c.read_ref.result c.in-ReadRef.is c.read_ref.ensures

-- ---- ReadSoft

pub read_soft-requires : goal.read_soft-requires
read_soft-requires c =
    let h = numbers_at _ _ _ c.requires.node _ c.in-ReadSoft.is in
    record {
      dst = h.0;
      base = h.1;
    }

pub returns-in-ReadSoft : goal.returns-in-ReadSoft
returns-in-ReadSoft c =
    of_kind c.args.stepper.now _ _ c.read_soft.result c.in-ReadSoft.is c.read_soft.ensures

-- ---- WriteRef

pub write_ref-requires : goal.write_ref-requires
write_ref-requires c =
    let h = numbers_at _ _ _ c.requires.node _ c.in-WriteRef.is in
    record {
      base = h.0;
      src = h.1;
      name = h.2;
      sites = global_site _ _ _ c.requires.node;
    }

pub returns-in-WriteRef : goal.returns-in-WriteRef
returns-in-WriteRef c =
    of_kind c.args.stepper.now _ _ c.write_ref.result c.in-WriteRef.is c.write_ref.ensures

-- ---- DeleteRef

pub delete_ref-requires : goal.delete_ref-requires
delete_ref-requires c =
    let h = numbers_at _ _ _ c.requires.node _ c.in-DeleteRef.is in
    record {
      dst = h.0;
      base = h.1;
      name = h.2;
    }

pub returns-in-DeleteRef : goal.returns-in-DeleteRef
returns-in-DeleteRef c =
    of_kind c.args.stepper.now _ _ c.delete_ref.result c.in-DeleteRef.is c.delete_ref.ensures

-- ---- Declare

pub declare-requires : goal.declare-requires
declare-requires c =
    let h = numbers_at _ _ _ c.requires.node _ c.in-Declare.is in
    let fixed = fixed_registers _ _ _ c.requires.node in
    record {
      scope = omega (arith, fixed);
      name = h;
    }

pub returns-in-Declare : goal.returns-in-Declare
returns-in-Declare c =
    of_kind c.args.stepper.now _ _ c.declare.result c.in-Declare.is c.declare.ensures

-- ---- Convert

pub convert-requires : goal.convert-requires
convert-requires c =
    let h = numbers_at _ _ _ c.requires.node _ c.in-Convert.is in
    record {
      dst = h.0;
      src = h.1;
      other = h.2;
    }

pub returns-in-Convert : goal.returns-in-Convert
returns-in-Convert c =
    of_kind c.args.stepper.now _ _ c.convert.result c.in-Convert.is c.convert.ensures

-- ---- Unary

pub unary-requires : goal.unary-requires
unary-requires c =
    let h = numbers_at _ _ _ c.requires.node _ c.in-Unary.is in
    record {
      dst = h.0;
      src = h.1;
    }

pub returns-in-Unary : goal.returns-in-Unary
returns-in-Unary c =
    of_kind c.args.stepper.now _ _ c.unary.result c.in-Unary.is c.unary.ensures

-- ---- Binary

pub binary-requires : goal.binary-requires
binary-requires c =
    let h = numbers_at _ _ _ c.requires.node _ c.in-Binary.is in
    record {
      dst = h.0;
      a = h.1;
      b = h.2;
    }

pub returns-in-Binary : goal.returns-in-Binary
returns-in-Binary c =
    of_kind c.args.stepper.now _ _ c.binary.result c.in-Binary.is c.binary.ensures

-- ---- Branch

pub branch-stepper-requires : goal.branch-stepper-requires
branch-stepper-requires c =
    numbers_at _ _ _ c.requires.node _ c.in-Branch.is

pub returns-in-Branch : goal.returns-in-Branch
returns-in-Branch c =
    of_kind c.args.stepper.now _ _ c.branch-stepper.result c.in-Branch.is c.branch-stepper.ensures

-- ---- Call

pub call-requires : goal.call-requires
call-requires c =
    let h = numbers_at _ _ _ c.requires.node _ c.in-Call.is in
    let fixed = fixed_registers _ _ _ c.requires.node in
    record {
      callee = h.0;
      receiver = h.1;
      registers = omega (arith, fixed);
      error = h.2;
    }

pub returns-in-Call : goal.returns-in-Call
returns-in-Call c =
    of_kind c.args.stepper.now _ _ c.call.result c.in-Call.is (IfOk-weaker c.call.result _ _
    (λ o told. told c.in-Call.dst c.in-Call.args) c.call.ensures)

-- ---- Throw

pub throw-requires : goal.throw-requires
throw-requires c =
    let h = numbers_at _ _ _ c.requires.node _ c.in-Throw.is in
    let fixed = fixed_registers _ _ _ c.requires.node in
    record {
      registers = omega (arith, fixed);
      src = h;
    }

pub returns-in-Throw : goal.returns-in-Throw
returns-in-Throw c =
    of_kind c.args.stepper.now _ _ c.throw.result c.in-Throw.is c.throw.ensures

-- ---- ToObject

pub to_object-requires : goal.to_object-requires
to_object-requires c =
    let h = numbers_at _ _ _ c.requires.node _ c.in-ToObject.is in
    let fixed = fixed_registers _ _ _ c.requires.node in
    record {
      dst = h.0;
      src = h.1;
      registers = omega (arith, fixed);
      boolean = h.2;
      number = h.3;
      text = h.4;
      error = h.5;
    }

pub returns-in-ToObject : goal.returns-in-ToObject
returns-in-ToObject c =
    of_kind c.args.stepper.now _ _ c.to_object.result c.in-ToObject.is c.to_object.ensures

-- ---- NeedObject

pub need_object-requires : goal.need_object-requires
need_object-requires c =
    let h = numbers_at _ _ _ c.requires.node _ c.in-NeedObject.is in
    let fixed = fixed_registers _ _ _ c.requires.node in
    record {
      src = h.0;
      registers = omega (arith, fixed);
      error = h.1;
    }

pub returns-in-NeedObject : goal.returns-in-NeedObject
returns-in-NeedObject c =
    of_kind c.args.stepper.now _ _ c.need_object.result c.in-NeedObject.is c.need_object.ensures

-- ---- ReadProp

pub read_prop-requires : goal.read_prop-requires
read_prop-requires c =
    let h = numbers_at _ _ _ c.requires.node _ c.in-ReadProp.is in
    record {
      dst = h.0;
      object = h.1;
      key = h.2;
    }

pub returns-in-ReadProp : goal.returns-in-ReadProp
returns-in-ReadProp c =
    of_kind c.args.stepper.now _ _ c.read_prop.result c.in-ReadProp.is c.read_prop.ensures

-- ---- WriteProp

pub write_prop-requires : goal.write_prop-requires
write_prop-requires c =
    let h = numbers_at _ _ _ c.requires.node _ c.in-WriteProp.is in
    let fixed = fixed_registers _ _ _ c.requires.node in
    record {
      object = h.0;
      key = h.1;
      src = h.2;
      registers = omega (arith, fixed);
      error = h.3;
    }

pub returns-in-WriteProp : goal.returns-in-WriteProp
returns-in-WriteProp c =
    of_kind c.args.stepper.now _ _ c.write_prop.result c.in-WriteProp.is c.write_prop.ensures

-- ---- DeleteProp

pub delete_prop-requires : goal.delete_prop-requires
delete_prop-requires c =
    let h = numbers_at _ _ _ c.requires.node _ c.in-DeleteProp.is in
    record {
      dst = h.0;
      object = h.1;
      key = h.2;
    }

pub returns-in-DeleteProp : goal.returns-in-DeleteProp
returns-in-DeleteProp c =
    of_kind c.args.stepper.now _ _ c.delete_prop.result c.in-DeleteProp.is c.delete_prop.ensures

-- ---- HasProp

pub has_prop-requires : goal.has_prop-requires
has_prop-requires c =
    let h = numbers_at _ _ _ c.requires.node _ c.in-HasProp.is in
    record {
      dst = h.0;
      object = h.1;
      key = h.2;
    }

pub returns-in-HasProp : goal.returns-in-HasProp
returns-in-HasProp c =
    of_kind c.args.stepper.now _ _ c.has_prop.result c.in-HasProp.is c.has_prop.ensures

-- ---- InstanceOf

pub instance_of-requires : goal.instance_of-requires
instance_of-requires c =
    let h = numbers_at _ _ _ c.requires.node _ c.in-InstanceOf.is in
    let fixed = fixed_registers _ _ _ c.requires.node in
    record {
      dst = h.0;
      left = h.1;
      right = h.2;
      registers = omega (arith, fixed);
      not_function = h.3;
      not_object = h.4;
    }

pub returns-in-InstanceOf : goal.returns-in-InstanceOf
returns-in-InstanceOf c =
    of_kind c.args.stepper.now _ _ c.instance_of.result c.in-InstanceOf.is c.instance_of.ensures

-- ---- NewObject

pub new_object-requires : goal.new_object-requires
new_object-requires c =
    let h = numbers_at _ _ _ c.requires.node _ c.in-NewObject.is in
    record {
      dst = h.0;
      site = h.1;
    }

pub returns-in-NewObject : goal.returns-in-NewObject
returns-in-NewObject c =
    of_kind c.args.stepper.now _ _ c.new_object.result c.in-NewObject.is c.new_object.ensures

-- ---- Bind

pub bind-requires : goal.bind-requires
bind-requires c =
    let h = numbers_at _ _ _ c.requires.node _ c.in-Bind.is in
    let fixed = fixed_registers _ _ _ c.requires.node in
    record {
      scope = omega (arith, fixed);
      src = h.0;
      name = h.1;
    }

pub returns-in-Bind : goal.returns-in-Bind
returns-in-Bind c =
    of_kind c.args.stepper.now _ _ c.bind.result c.in-Bind.is c.bind.ensures

-- ---- PushScope

pub push_scope-requires : goal.push_scope-requires
push_scope-requires c =
    let h = numbers_at _ _ _ c.requires.node _ c.in-PushScope.is in
    let fixed = fixed_registers _ _ _ c.requires.node in
    record {
      scope = omega (arith, fixed);
      site = h;
    }

pub returns-in-PushScope : goal.returns-in-PushScope
returns-in-PushScope c =
    of_kind c.args.stepper.now _ _ c.push_scope.result c.in-PushScope.is c.push_scope.ensures

-- ---- New

pub construct-requires : goal.construct-requires
construct-requires c =
    let h = numbers_at _ _ _ c.requires.node _ c.in-New.is in
    let fixed = fixed_registers _ _ _ c.requires.node in
    record {
      callee = h.0;
      registers = omega (arith, fixed);
      site = h.1;
      error = h.2;
    }

pub returns-in-New : goal.returns-in-New
returns-in-New c =
    of_kind c.args.stepper.now _ _ c.construct.result c.in-New.is
    (IfOk-weaker c.construct.result _ _ (λ o told. told c.in-New.dst c.in-New.args)
    c.construct.ensures)

-- ---- Names

pub names-requires : goal.names-requires
names-requires c =
    numbers_at _ _ _ c.requires.node _ c.in-Names.is

pub returns-in-Names : goal.returns-in-Names
returns-in-Names c =
    of_kind c.args.stepper.now _ _ c.names.result c.in-Names.is (IfOk-weaker c.names.result _ _
    (λ o told. told c.in-Names.list) c.names.ensures)

-- ---- Pick

pub pick-requires : goal.pick-requires
pick-requires c =
    let h = numbers_at _ _ _ c.requires.node _ c.in-Pick.is in
    record {
      dst = h.0;
      object = h.1;
    }

pub returns-in-Pick : goal.returns-in-Pick
returns-in-Pick c =
    of_kind c.args.stepper.now _ _ c.pick.result c.in-Pick.is (IfOk-weaker c.pick.result _ _
    (λ o told. told c.in-Pick.list) c.pick.ensures)

-- ---- MakeFunction

pub make_function-requires : goal.make_function-requires
make_function-requires c =
    let h = numbers_at _ _ _ c.requires.node _ c.in-MakeFunction.is in
    let fixed = fixed_registers _ _ _ c.requires.node in
    record {
      dst = h.0;
      scope = omega (arith, fixed);
      few = few_parameters _ c.requires.node.well_formed c.in-MakeFunction.function;
      site = h.1;
      proto_site = h.2;
      apart = h.3;
    }

pub returns-in-MakeFunction : goal.returns-in-MakeFunction
returns-in-MakeFunction c =
    of_kind c.args.stepper.now _ _ c.make_function.result c.in-MakeFunction.is
    c.make_function.ensures

-- ---- Enter

pub enter-requires : goal.enter-requires
enter-requires c =
    let h = numbers_at _ _ _ c.requires.node _ c.in-Enter.is in
    let fit = parameters_fit _ _ _ c.requires.node in
    record {
      parameters = record { registers = fit.0; few = fit.1 };
      site = h.0;
      arguments = h.1;
    }

pub returns-in-Enter : goal.returns-in-Enter
returns-in-Enter c =
    of_kind c.args.stepper.now _ _ c.enter.result c.in-Enter.is c.enter.ensures

-- ---- Intrinsic

pub intrinsic-requires : goal.intrinsic-requires
intrinsic-requires c =
    let h = numbers_at _ _ _ c.requires.node _ c.in-Intrinsic.is in
    let count = vec_len c.args.stepper.now.reader.state.now.registers in
    record {
      dst = h.0;
      args =
          subst (AllByRecursion (λ (r : Reg). r.0 < count)) (sym c.as_slice.ensures) h.1;
    }

pub returns-in-Intrinsic : goal.returns-in-Intrinsic
returns-in-Intrinsic c =
    let s = c.args.stepper.now in
    of_kind s _ _ c.intrinsic.result c.in-Intrinsic.is (subst (λ (args : List Reg).
    IfOk c.intrinsic.result (IsOutcome s (transfer_intrinsic (at_view s) s.info.now
    c.in-Intrinsic.dst c.in-Intrinsic.which args))) c.as_slice.ensures c.intrinsic.ensures)

-- ---- Device

pub device-requires : goal.device-requires
device-requires c =
    numbers_at _ _ _ c.requires.node _ c.in-Device.is

pub returns-in-Device : goal.returns-in-Device
returns-in-Device c =
    of_kind c.args.stepper.now _ _ c.device.result c.in-Device.is c.device.ensures
