use Rattle.std.proofs.Common.{refl, ◌∙◌}
use Rattle.ja_base.specs.declared.ids.ScopeKind.TheVariants as scope_kind
use Rattle.ja_machine.specs.declared.machine.Put.TheVariants as put_ends
use Rattle.ja_machine.specs.Events.{left_scope}
use Rattle.ja_machine.specs.Nodes.{not_taken}
use Rattle.ja_step.specs.code.Steps.{standing}
use Rattle.ja_step.proofs.Puts.{left_by_put, left_event}
use Rattle.ja_step.proofs.conf.Conf.puts_name.Goals as goal

pub returns-in-RangeError : goal.returns-in-RangeError
returns-in-RangeError c =
    let s = c.args.self.now in
    let is = rw c.in-RangeError.is at c.in_ok-put.ensures.put in
    c.left_scope.ensures
    ∙ left_event s c.args.info.now (not_taken (standing s c.args.info.now)) c.args.a c.args.name.now
    c.args.value c.put.new.self put_ends.RangeError
    (λ x. left_scope (standing x c.args.info.now) scope_kind.Register) is
    (left_by_put s.heap c.args.a c.put.new.self put_ends.RangeError c.args.name.now c.args.value
    is) refl

pub returns-in-LengthObject : goal.returns-in-LengthObject
returns-in-LengthObject c =
    let s = c.args.self.now in
    let is = rw c.in-LengthObject.is at c.in_ok-put.ensures.put in
    c.left_scope-in-LengthObject.ensures
    ∙ left_event s c.args.info.now (not_taken (standing s c.args.info.now)) c.args.a c.args.name.now
    c.args.value c.put.new.self put_ends.LengthObject
    (λ x. left_scope (standing x c.args.info.now) scope_kind.LengthObject) is
    (left_by_put s.heap c.args.a c.put.new.self put_ends.LengthObject c.args.name.now
    c.args.value is) refl

pub returns-in-SharedArgument : goal.returns-in-SharedArgument
returns-in-SharedArgument c =
    let s = c.args.self.now in
    let is = rw c.in-SharedArgument.is at c.in_ok-put.ensures.put in
    c.left_scope-in-SharedArgument.ensures
    ∙ left_event s c.args.info.now (not_taken (standing s c.args.info.now)) c.args.a c.args.name.now
    c.args.value c.put.new.self put_ends.SharedArgument
    (λ x. left_scope (standing x c.args.info.now) scope_kind.SharedArgument) is
    (left_by_put s.heap c.args.a c.put.new.self put_ends.SharedArgument c.args.name.now
    c.args.value is) refl
