use Rattle.std.proofs.Common.{refl, ◌∙◌}
use Rattle.std.proofs.lemmas.Result.{IfOk-weaker}
use Rattle.ja_base.specs.declared.ids.ScopeKind.TheVariants as scope_kind
use Rattle.ja_machine.specs.declared.machine.Put.TheVariants as put_ends
use Rattle.ja_machine.specs.Events.{left_scope}
use Rattle.ja_machine.specs.Nodes.{wrong_length}
use Rattle.ja_step.specs.code.Steps.{standing}
use Rattle.ja_step.proofs.Puts.{left_by_put, left_event}
use Rattle.ja_step.proofs.conf.Conf.puts_property.Goals as goal

pub returns-in-LengthObject : goal.returns-in-LengthObject
returns-in-LengthObject c =
    let s = c.args.self.now in
    let is = rw c.in-LengthObject.is at c.in_ok-put.ensures.put in
    c.left_scope.ensures
    ∙ left_event s c.args.info.now (wrong_length (standing s c.args.info.now) c.args.error) c.args.a
    c.args.name.now c.args.value c.put.new.self put_ends.LengthObject
    (λ x. left_scope (standing x c.args.info.now) scope_kind.LengthObject) is
    (left_by_put s.heap c.args.a c.put.new.self put_ends.LengthObject c.args.name.now
    c.args.value is) refl

pub returns-in-SharedArgument : goal.returns-in-SharedArgument
returns-in-SharedArgument c =
    let s = c.args.self.now in
    let is = rw c.in-SharedArgument.is at c.in_ok-put.ensures.put in
    c.left_scope-in-SharedArgument.ensures
    ∙ left_event s c.args.info.now (wrong_length (standing s c.args.info.now) c.args.error) c.args.a
    c.args.name.now c.args.value c.put.new.self put_ends.SharedArgument
    (λ x. left_scope (standing x c.args.info.now) scope_kind.SharedArgument) is
    (left_by_put s.heap c.args.a c.put.new.self put_ends.SharedArgument c.args.name.now
    c.args.value is) refl

pub returns-in_ok-message-in-RangeError : goal.returns-in_ok-message-in-RangeError
returns-in_ok-message-in-RangeError c =
    let s = c.args.self.now in
    let is = rw c.in-RangeError.is at c.in_ok-put.ensures.put in
    IfOk-weaker
    c.throws.result
    _
    _
    (λ end e. rw c.in_ok-message-in-RangeError.ensures at e
    ∙ left_event s c.args.info.now (wrong_length (standing s c.args.info.now) c.args.error)
    c.args.a c.args.name.now c.args.value c.put.new.self put_ends.RangeError
    (λ x. wrong_length (standing x c.args.info.now) c.args.error) is
    (left_by_put s.heap c.args.a c.put.new.self put_ends.RangeError c.args.name.now c.args.value
    is) refl)
    c.throws.ensures
