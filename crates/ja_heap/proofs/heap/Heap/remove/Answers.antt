use Rattle.std.proofs.Common.{◌∙◌, refl, ap, sym, None}
use Rattle.ja_machine.specs.declared.machine.Heap.{Heap}
use Rattle.ja_machine.specs.declared.machine.Object.{Object}
use Rattle.ja_machine.specs.Heap.{with_object}
use Rattle.ja_machine.specs.Writes.{changed, without}
use Rattle.ja_heap.proofs.Changes.{lent, past, row_object, row_kept, row_changed, found, size_kept, changed_found, changed_none, heap_of}
use Rattle.ja_heap.proofs.heap.Heap.remove.Goals as goal

pub returns-in-None-get_mut : goal.returns-in-None-get_mut
returns-in-None-get_mut c =
    let rows = c.self.inside.objects.items in
    let row = c.in-Some.objects.now in
    let there = lent rows c.args.a.site.0 row c.in-Some.ensures.item.3.0 c.in-Some.ensures.item.1 in
    let gone = row_object rows c.args.a.site row there c.args.a.ordinal None
    (past row.items c.args.a.ordinal c.in-None-get_mut.ensures.item.3) in
    let change = λ (o : Object). record o { properties = without o.properties c.args.name.now } in
    row_kept rows c.args.a.site row there row refl
    ∙ (sym (changed_none (heap_of rows) c.args.a change gone)
    ∙ ap (λ (h : Heap). changed h c.args.a change) c.self.view_is)

pub invariant_of-self-2 : goal.invariant_of-self-2
invariant_of-self-2 c =
    let rows = c.self.inside.objects.items in
    let row = c.in-Some.objects.now in
    let there = lent rows c.args.a.site.0 row c.in-Some.ensures.item.3.0 c.in-Some.ensures.item.1 in
    let old = c.in-Some-get_mut.object.now in
    let stands = lent row.items c.args.a.ordinal old c.in-Some-get_mut.ensures.item.3.0
    c.in-Some-get_mut.ensures.item.1 in (
      c.self.invariant.0 ∙ size_kept rows c.args.a row there old stands c.remove.new.self,
      c.self.invariant.1,
    )

pub returns : goal.returns
returns c =
    let rows = c.self.inside.objects.items in
    let row = c.in-Some.objects.now in
    let there = lent rows c.args.a.site.0 row c.in-Some.ensures.item.3.0 c.in-Some.ensures.item.1 in
    let old = c.in-Some-get_mut.object.now in
    let stands = lent row.items c.args.a.ordinal old c.in-Some-get_mut.ensures.item.3.0
    c.in-Some-get_mut.ensures.item.1 in
    let change = λ (o : Object). record o { properties = without o.properties c.args.name.now } in
    let rest = sym (changed_found (heap_of rows) c.args.a old change
    (found rows c.args.a row there old stands))
    ∙ ap (λ (h : Heap). changed h c.args.a change) c.self.view_is in
    row_changed rows c.args.a.site row there c.args.a.ordinal c.remove.new.self
    ∙ (ap (with_object (heap_of rows) c.args.a) c.remove.ensures ∙ rest)
