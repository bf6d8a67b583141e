use Rattle.std.proofs.Common.{arith, ◌≡◌, ◌+◌, ◌-◌, ℕ, suc, Some, length, ap, ◌∙◌}
use Rattle.ja_abstract.specs.Made.{parameter_ids}
use Rattle.ja_transfer.specs.Outcomes.{at_view}
use Rattle.ja_value.specs.Value.{property_of}
use Rattle.ja_functions.specs.code.Aged.{aged_at, arguments_from}
use Rattle.ja_functions.proofs.Lists.{arguments_more}
use Rattle.ja_functions.proofs.arguments.other_arguments.Goals as goal

pub loop-left-preserved : goal.loop-left-preserved
loop-left-preserved c =
    let s = c.args.stepper.now in
    let p = s.reader.program.now in
    let f = s.context.function in
    let a = aged_at (at_view s).state c.args.site (Some c.args.list) in
    let count = length (parameter_ids p f) + 1 in
    let left = c.loop-left.left in
    let i : ℕ = left - 1 in
    let within = c.loop-left.invariant.0 in
    let some = c.loop-left-test.true in
    let next : left ≡ i + 1 = omega (arith, some) in
    let more : suc (count - left) ≡ count - i = omega (arith, some, within) in (
      omega (arith, within),
      arguments_more p f a i (count - left) (property_of c.loop-left.sum) _ _
          (c.loop-left.invariant.1 ∙ ap (λ m. arguments_from p f a m (count - left)) next)
          c.in_ok-one.ensures c.in_ok-join.ensures.joined
          ∙ ap (arguments_from p f a i) more,
    )
