use Rattle.std.proofs.Common.{◌≡◌, ◌∙◌, suc, ap, sym, arith}
use Rattle.ja_machine.specs.Heap.{size, with_new}
use Rattle.ja_machine.proofs.Heaps.{size-with_new}
use Rattle.ja_heap.proofs.Changes.{lent, row_fits, row_kept, row_longer, heap_of, on_err}
use Rattle.ja_heap.proofs.heap.Heap.alloc.Goals as goal

pub invariant_of-self-in_err-push-in-Some : goal.invariant_of-self-in_err-push-in-Some
invariant_of-self-in_err-push-in-Some c =
    let rows = c.self.inside.objects.items in
    let there = lent rows c.args.site.0 c.in-Some.objects.now c.in-Some.ensures.item.3.0
    c.in-Some.ensures.item.1 in (
      c.self.invariant.0 ∙ ap size (sym (row_kept rows c.args.site c.in-Some.objects.now there
          c.push.new.self c.in_err-push-in-Some.ensures.items)),
      c.self.invariant.1,
    )

pub returns-in_err-push-in-Some-clause-kept : goal.returns-in_err-push-in-Some-clause-kept
returns-in_err-push-in-Some-clause-kept c =
    let rows = c.self.inside.objects.items in
    let there = lent rows c.args.site.0 c.in-Some.objects.now c.in-Some.ensures.item.3.0
    c.in-Some.ensures.item.1 in
    on_err _ (row_kept rows c.args.site c.in-Some.objects.now there c.push.new.self
    c.in_err-push-in-Some.ensures.items ∙ c.self.view_is)

pub invariant_of-self-in-Some : goal.invariant_of-self-in-Some
invariant_of-self-in-Some c =
    let rows = c.self.inside.objects.items in
    let there = lent rows c.args.site.0 c.in-Some.objects.now c.in-Some.ensures.item.3.0
    c.in-Some.ensures.item.1 in
    let longer = row_longer rows c.args.site c.in-Some.objects.now there c.push.new.self
    c.args.object c.in_ok-push-in-Some.ensures.items in
    let more = size-with_new (heap_of rows) c.args.site c.args.object
    (row_fits rows c.args.site c.in-Some.ensures.item.3.0) in
    let one : c.in_ok-size.size ≡ suc (size (heap_of rows)) = c.in_ok-size.ensures
    ∙ omega (arith, c.self.invariant.0) in
    (one ∙ (sym more ∙ ap size (sym longer)), c.self.invariant.1)

pub returns-in_ok-push-in-Some-clause-heap : goal.returns-in_ok-push-in-Some-clause-heap
returns-in_ok-push-in-Some-clause-heap c =
    let rows = c.self.inside.objects.items in
    let there = lent rows c.args.site.0 c.in-Some.objects.now c.in-Some.ensures.item.3.0
    c.in-Some.ensures.item.1 in
    row_longer rows c.args.site c.in-Some.objects.now there c.push.new.self c.args.object
    c.in_ok-push-in-Some.ensures.items ∙ ap (λ h. with_new h c.args.site c.args.object)
    c.self.view_is
