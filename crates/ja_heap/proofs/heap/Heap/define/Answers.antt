use Rattle.std.proofs.Common.{◌∙◌, refl, ap, sym, None}
use Rattle.std.proofs.lemmas.Result.{on_ok_weaker, on_err_weaker}
use Rattle.ja_machine.specs.declared.machine.Heap.{Heap}
use Rattle.ja_machine.specs.declared.machine.Object.{Object}
use Rattle.ja_machine.specs.Heap.{with_object}
use Rattle.ja_machine.specs.Writes.{changed, with_definition}
use Rattle.ja_heap.proofs.Changes.{lent, past, row_object, row_kept, row_changed, found, size_kept, changed_found, changed_none, heap_of, with_object_same}
use Rattle.ja_heap.proofs.heap.Heap.define.Goals as goal

pub returns-in-None-get_mut-clause-defined : goal.returns-in-None-get_mut-clause-defined
returns-in-None-get_mut-clause-defined c =
    let rows = c.self.inside.objects.items in
    let row = c.in-Some.objects.now in
    let there = lent rows c.args.a.site.0 row c.in-Some.ensures.item.3.0 c.in-Some.ensures.item.1 in
    let gone = row_object rows c.args.a.site row there c.args.a.ordinal None
    (past row.items c.args.a.ordinal c.in-None-get_mut.ensures.item.3) in
    let change = λ (o : Object). record o {
      properties = with_definition o.properties
          c.args.name.now c.args.content c.args.attrs;
    } in
    row_kept rows c.args.a.site row there row refl
    ∙ (sym (changed_none (heap_of rows) c.args.a change gone)
    ∙ ap (λ (h : Heap). changed h c.args.a change) c.self.view_is)

pub invariant_of-self-2 : goal.invariant_of-self-2
invariant_of-self-2 c =
    let rows = c.self.inside.objects.items in
    let row = c.in-Some.objects.now in
    let there = lent rows c.args.a.site.0 row c.in-Some.ensures.item.3.0 c.in-Some.ensures.item.1 in
    let old = c.in-Some-get_mut.object.now in
    let stands = lent row.items c.args.a.ordinal old c.in-Some-get_mut.ensures.item.3.0
    c.in-Some-get_mut.ensures.item.1 in (
      c.self.invariant.0 ∙ size_kept rows c.args.a row there old stands c.define.new.self,
      c.self.invariant.1,
    )

pub returns-clause-defined : goal.returns-clause-defined
returns-clause-defined c =
    let rows = c.self.inside.objects.items in
    let row = c.in-Some.objects.now in
    let there = lent rows c.args.a.site.0 row c.in-Some.ensures.item.3.0 c.in-Some.ensures.item.1 in
    let old = c.in-Some-get_mut.object.now in
    let stands = lent row.items c.args.a.ordinal old c.in-Some-get_mut.ensures.item.3.0
    c.in-Some-get_mut.ensures.item.1 in
    let change = λ (o : Object). record o {
      properties = with_definition o.properties
          c.args.name.now c.args.content c.args.attrs;
    } in
    let rest = sym (changed_found (heap_of rows) c.args.a old change
    (found rows c.args.a row there old stands))
    ∙ ap (λ (h : Heap). changed h c.args.a change) c.self.view_is in
    on_ok_weaker c.define.result (λ done. row_changed rows c.args.a.site row there c.args.a.ordinal
    c.define.new.self ∙ (ap (with_object (heap_of rows) c.args.a) done ∙ rest))
    c.define.ensures.defined

pub returns-clause-kept : goal.returns-clause-kept
returns-clause-kept c =
    let rows = c.self.inside.objects.items in
    let row = c.in-Some.objects.now in
    let there = lent rows c.args.a.site.0 row c.in-Some.ensures.item.3.0 c.in-Some.ensures.item.1 in
    let old = c.in-Some-get_mut.object.now in
    let stands = lent row.items c.args.a.ordinal old c.in-Some-get_mut.ensures.item.3.0
    c.in-Some-get_mut.ensures.item.1 in
    let there_is = found rows c.args.a row there old stands in
    on_err_weaker c.define.result (λ same. row_changed rows c.args.a.site row there c.args.a.ordinal
    c.define.new.self ∙ (ap (with_object (heap_of rows) c.args.a) same
    ∙ (with_object_same (heap_of rows) c.args.a old there_is ∙ c.self.view_is)))
    c.define.ensures.kept
