use Rattle.std.specs.Prelude.{None, Some}
use Rattle.std.proofs.Common.{rules, ◌≡◌, ◌≢◌, ◌∙◌, List, length, map, sym, subst}
use Rattle.std.proofs.lemmas.List.{length-map}
use Rattle.std.specs.Result.{IfOk}
use Rattle.ja_operations.specs.code.Texts.{text_operation}
use Rattle.ja_abstract.specs.AbstractValue.{AbstractValue}
use Rattle.ja_abstract.specs.Operations.{Looked}
use Rattle.ja_rows.specs.Out.{at}
use Rattle.ja_transfer.specs.Outcomes.{at_view}
use Rattle.ja_functions.specs.code.Told.{IsTold}
use Rattle.ja_functions.proofs.Operations.{none_of_many, text_operation_is}
use Rattle.ja_functions.proofs.intrinsics.of_registers.Goals.{in_default-args-via-then-args-lt1, in_default-args-via-else-args-lt1+else-args-lt2+else-args-lt3}
use Rattle.ja_functions.proofs.intrinsics.of_registers.Goals as goal

pub returns-in-Some : goal.returns-in-Some
returns-in-Some c =
    let w = at_view c.args.stepper.now in
    let vs : List AbstractValue = map (at w) c.args.args.now in
    let is : text_operation c.args.which ≡ Some c.in-Some.operation =
    sym c.text_operation.ensures ∙ c.in-Some.is in
    subst (λ (l : Looked). IfOk c.text_operation_told.result (IsTold l))
    (sym (text_operation_is w vs c.args.which c.in-Some.operation is))
    c.text_operation_told.ensures

pub returns-in_default-args : goal.returns-in_default-args
returns-in_default-args c =
    let w = at_view c.args.stepper.now in
    let args = c.args.args.now in
    let vs : List AbstractValue = map (at w) args in
    let many = length-map args (at w) in
    let unlisted : text_operation c.args.which ≡ None =
    sym c.text_operation.ensures ∙ c.in_default.is in
    let other : (length args ≢ 1) × (length args ≢ 2) = elim c.in_default-args.branch [
      | in_default-args-via-then-args-lt1 h ↦ (
        λ e. search rules,
        λ e. search rules,
      )
      | in_default-args-via-else-args-lt1+else-args-lt2+else-args-lt3 h ↦ (
        λ e. search rules,
        λ e. search rules,
      )
    ] in
    let not_one = other.0 in
    let not_two = other.1 in
    subst (λ (l : Looked). IsTold l c.nothing.result)
    (sym (none_of_many c.args.which w vs unlisted (λ e. not_one (sym many ∙ e))
    (λ e. not_two (sym many ∙ e)))) c.nothing.ensures
