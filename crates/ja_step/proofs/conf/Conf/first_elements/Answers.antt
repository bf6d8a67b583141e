use Rattle.std.proofs.Common.{ℕ, ◌+◌, Result, sym, subst, ◌∙◌}
use Rattle.ja_base.specs.declared.ids.ScopeKind.{ScopeKind}
use Rattle.ja_machine.specs.declared.machine.Value.{Value}
use Rattle.ja_machine.specs.Calls.{element}
use Rattle.ja_machine.specs.Heap.{content_at}
use Rattle.ja_machine.specs.Objects.{index_text}
use Rattle.ja_step.proofs.Elements.{AreFirst, one_more, stopped}
use Rattle.ja_step.proofs.conf.Conf.first_elements.Goals as goal

pub returns-in-Err : goal.returns-in-Err
returns-in-Err c =
    let f : ℕ → Result Value ScopeKind = λ i.
    element (content_at c.args.self.now.heap c.args.a (index_text i)) in
    stopped f c.args.count c.loop-index.index c.loop-index.values.items c.in-Err.kind
    c.loop-index-test.true (sym c.in_ok-value.ensures ∙ c.in-Err.is) c.loop-index.invariant

pub loop-index-preserved : goal.loop-index-preserved
loop-index-preserved c =
    let f : ℕ → Result Value ScopeKind = λ i.
    element (content_at c.args.self.now.heap c.args.a (index_text i)) in
    subst (AreFirst f c.args.count (c.loop-index.index + 1)) (sym c.in_ok-push-in-Ok.ensures.items)
    (one_more f c.args.count c.loop-index.index c.loop-index.values.items c.in-Ok.value
    c.loop-index-test.true (sym c.in_ok-value.ensures ∙ c.in-Ok.is) c.loop-index.invariant)
