use Rattle.std.proofs.Common.{arith, ◌≡◌, ◌+◌, ◌-◌, ◌++◌, ℕ, drop, map, ap, ◌∙◌}
use Rattle.ja_abstract.specs.Made.{parameter_properties}
use Rattle.ja_aheap.specs.Objects.{listed_of}
use Rattle.ja_transfer.specs.Outcomes.{at_view}
use Rattle.ja_functions.specs.code.Aged.{aged_at}
use Rattle.ja_functions.proofs.Lists.{Properties, parameters_more}
use Rattle.ja_functions.proofs.activations.list_parameters.Goals as goal

pub loop-left-preserved : goal.loop-left-preserved
loop-left-preserved c =
    let a = aged_at (at_view c.args.stepper.now).state c.args.site c.args.arguments in
    let names = c.parameters-names.result.now in
    let left = c.loop-left.left in
    let i : ℕ = left - 1 in
    let within = c.loop-left.invariant.0 in
    let some = c.loop-left-test.true in
    let next : left ≡ i + 1 = omega (arith, some) in
    let first : Properties = map listed_of c.args.listed.now.items in (
      omega (arith, within),
      parameters_more a names i (record { 0 = 0 }) first _ _ (omega (arith, within, some))
          (c.loop-left.invariant.1
          ∙ ap (λ (m : ℕ). first ++ parameter_properties a m (drop m names)) next)
          c.in_ok-list_parameter.ensures,
    )
