use Rattle.std.proofs.Common.{◌≡◌, ℕ, Some, length, slice_get, refl, ap, arith}
use Rattle.ja_graph.specs.declared.program.Function.{Function}
use Rattle.ja_graph.specs.WellFormed.{IsFunctionWellFormed}
use Rattle.ja_graph.proofs.EachLemmas.{read_at, below_more, below_all}
use Rattle.ja_graph.proofs.well_formed_functions.are_functions_well_formed.Goals as goal

pub loop-function-preserved : goal.loop-function-preserved
loop-function-preserved c =
    let p = c.args.program.now in
    let i = c.loop-function.function-index in
    let found : slice_get p.functions i ≡ Some c.function-item.result = read_at p.functions i
    c.function-item.result (omega (arith, ap length c.as_slice-function-items.ensures)) (cc) in
    below_more (λ (n : ℕ) (fn : Function). IsFunctionWellFormed p fn) p.functions i
    c.function-item.result c.loop-function.invariant found
    (c.if-not-is_function_well_formed.ensures.0 refl)

pub returns : goal.returns
returns c =
    let p = c.args.program.now in (
      λ _. below_all (λ (n : ℕ) (fn : Function). IsFunctionWellFormed p fn) p.functions
          c.loop-function.function-index (omega (arith, ap length c.as_slice-function-items.ensures))
          c.loop-function.invariant,
      λ _. refl,
    )
