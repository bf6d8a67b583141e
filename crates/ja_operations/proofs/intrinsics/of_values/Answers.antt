use Rattle.std.proofs.Common.{◌≡◌, IfOk, Some, slice_get, sym, ap, subst, ◌∙◌, arith}
use Rattle.std.specs.Option.{option_map}
use Rattle.std.proofs.lemmas.Result.{IfOk-weaker}
use Rattle.ja_machine.specs.Intrinsics as spec
use Rattle.ja_machine.specs.TextOperations.{row}
use Rattle.ja_operations.proofs.NumberedOperations.{gives_row, one_listed, two_listed}
use Rattle.ja_operations.proofs.intrinsics.of_values.Goals as goal

pub returns-in-Some : goal.returns-in-Some
returns-in-Some c =
    IfOk-weaker c.on_primitives.result
    (λ outcome. outcome
    ≡ spec.on_primitives (row c.in-Some.operation) c.args.values.now c.args.heap.now)
    (λ outcome. Some outcome
    ≡ option_map (λ (row : spec.Computation). row c.args.values.now c.args.heap.now)
    (slice_get spec.rows c.args.which))
    (λ outcome e. ap Some e ∙ sym (gives_row c.args.which c.in-Some.operation c.in-Some.ensures
    c.args.values.now c.args.heap.now))
    (c.on_primitives.ensures c.args.heap.now)

pub returns-in-len1 : goal.returns-in-len1
returns-in-len1 c =
    subst (λ vs. IfOk c.of_one.result (λ outcome. Some outcome
    ≡ option_map (λ (row : spec.Computation). row vs c.args.heap.now)
    (slice_get spec.rows c.args.which)))
    (one_listed c.args.values.now c.value-item.result (omega arith) (omega arith) c.value-item.is)
    c.of_one.ensures

pub returns-in-len2 : goal.returns-in-len2
returns-in-len2 c =
    subst (λ vs. Some c.of_two.result
    ≡ option_map (λ (row : spec.Computation). row vs c.args.heap.now)
    (slice_get spec.rows c.args.which))
    (two_listed c.args.values.now c.first-item.result c.second-item.result (omega arith)
    (omega arith) c.first-item.is c.second-item.is)
    c.of_two.ensures
