-- By the numbers of functions, nodes and registers.
use Rattle.std.specs.Prelude.{slice_get, get_or, Some, List}
use Rattle.std.proofs.Common.{◌≡◌, ◌<◌, ◌*◌, ℕ, arith, length, subst, refl, ap}
use Rattle.std.proofs.lemmas.Option.{slice_get_read}
use Rattle.ja_graph.specs.declared.program.Function.{Function}
use Rattle.ja_height.specs.Height as spec
use Rattle.ja_height.proofs.Functions.{function_fits, few_functions, sum_more}
use Rattle.ja_height.proofs.bound.height.Goals as goal

at : (fs items : List Function) (i : ℕ) (x : Function) → items ≡ fs → i < length items
    → x ≡ get_or items i x → slice_get fs i ≡ Some x
at fs items i x same within is =
    subst (λ gs. slice_get gs i ≡ Some x) same
    (slice_get_read items (length items) i x refl within is)

pub function_height-contexts-requires-clause-registers :
    goal.function_height-contexts-requires-clause-registers
function_height-contexts-requires-clause-registers c =
    (function_fits c.args.program.now c.requires c.loop-function.function-index
    c.function-item.result (at c.args.program.now.functions c.as_slice-function-items.result.now
    c.loop-function.function-index c.function-item.result c.as_slice-function-items.ensures
    c.loop-function-test.true c.function-item.is)).0

pub function_height-contexts-requires-clause-nodes :
    goal.function_height-contexts-requires-clause-nodes
function_height-contexts-requires-clause-nodes c =
    (function_fits c.args.program.now c.requires c.loop-function.function-index
    c.function-item.result (at c.args.program.now.functions c.as_slice-function-items.result.now
    c.loop-function.function-index c.function-item.result c.as_slice-function-items.ensures
    c.loop-function-test.true c.function-item.is)).1

pub overflow_add-contexts : goal.overflow_add-contexts
overflow_add-contexts c =
    let before = c.loop-function.invariant.2 in
    let few = few_functions c.args.program.now c.requires in
    let same = ap (λ (fs : List Function). length fs) c.as_slice-function-items.ensures in
    let more = c.function_height-contexts.ensures.few in
    omega (arith, before, more, few, same, c.loop-function-test.true)

pub overflow_add-entering : goal.overflow_add-entering
overflow_add-entering c =
    let before = c.loop-function.invariant.3 in
    let few = few_functions c.args.program.now c.requires in
    let same = ap (λ (fs : List Function). length fs) c.as_slice-function-items.ensures in
    let fits = (function_fits c.args.program.now c.requires c.loop-function.function-index
    c.function-item.result (at c.args.program.now.functions c.as_slice-function-items.result.now
    c.loop-function.function-index c.function-item.result c.as_slice-function-items.ensures
    c.loop-function-test.true c.function-item.is)).1 in
    omega (
      arith,
      before,
      c.entering_count-entering.ensures.few,
      fits,
      few,
      same,
      c.loop-function-test.true,
    )

pub loop-function-preserved : goal.loop-function-preserved
loop-function-preserved c =
    let p = c.args.program.now in
    let i = c.loop-function.function-index in
    let fn = c.function-item.result in
    let inv = c.loop-function.invariant in
    let fits = (function_fits p c.requires i fn
    (at c.args.program.now.functions c.as_slice-function-items.result.now
    c.loop-function.function-index c.function-item.result c.as_slice-function-items.ensures
    c.loop-function-test.true c.function-item.is)).1 in
    let contexts = sum_more (λ (g : Function). spec.label_count p * spec.context_height p g)
    p.functions i fn
    (at c.args.program.now.functions c.as_slice-function-items.result.now
    c.loop-function.function-index c.function-item.result c.as_slice-function-items.ensures
    c.loop-function-test.true c.function-item.is) in
    let entering = sum_more spec.entering_count p.functions i fn
    (at c.args.program.now.functions c.as_slice-function-items.result.now
    c.loop-function.function-index c.function-item.result c.as_slice-function-items.ensures
    c.loop-function-test.true c.function-item.is) in (
      omega (arith, inv.0, contexts, c.function_height-contexts.ensures.exact),
      omega (arith, inv.1, entering, c.entering_count-entering.ensures.exact),
      omega (arith, inv.2, c.function_height-contexts.ensures.few),
      omega (arith, inv.3, c.entering_count-entering.ensures.few, fits),
    )

pub edges_height-requires-clause-functions : goal.edges_height-requires-clause-functions
edges_height-requires-clause-functions c = few_functions c.args.program.now c.requires

pub edges_height-requires-clause-entering : goal.edges_height-requires-clause-entering
edges_height-requires-clause-entering c =
    let few = few_functions c.args.program.now c.requires in
    let same = ap (λ (fs : List Function). length fs) c.as_slice-function-items.ensures in
    omega (arith, c.loop-function.invariant.3, few, same, c.loop-function.auto.function-index-end)

pub overflow_add-result : goal.overflow_add-result
overflow_add-result c =
    let few = few_functions c.args.program.now c.requires in
    let same = ap (λ (fs : List Function). length fs) c.as_slice-function-items.ensures in
    omega (
      arith,
      c.loop-function.invariant.2,
      few,
      same,
      c.loop-function.auto.function-index-end,
      c.edges_height.ensures.few,
    )
