use Rattle.std.proofs.Common.{◌∙◌, refl, ap, sym, None, Option}
use Rattle.std.specs.Option.{option_map_or}
use Rattle.std.proofs.lemmas.Result.{IfOk-weaker, on_err_weaker}
use Rattle.ja_machine.specs.declared.machine.Heap.{Heap}
use Rattle.ja_machine.specs.declared.machine.Object.{Object}
use Rattle.ja_machine.specs.declared.machine.Put.TheVariants.{Done}
use Rattle.ja_machine.specs.Heap.{object_at, with_object}
use Rattle.ja_machine.specs.Writes as spec
use Rattle.ja_heap.proofs.Changes.{lent, past, row_object, row_kept, row_changed, found, size_kept, heap_of, with_object_same}
use Rattle.ja_heap.proofs.heap.Heap.put_own.Goals as goal

pub returns-in-None-get_mut-clause-put : goal.returns-in-None-get_mut-clause-put
returns-in-None-get_mut-clause-put c =
    let rows = c.self.inside.objects.items in
    let row = c.in-Some.objects.now in
    let there = lent rows c.args.a.site.0 row c.in-Some.ensures.item.3.0 c.in-Some.ensures.item.1 in
    let gone = row_object rows c.args.a.site row there c.args.a.ordinal None
    (past row.items c.args.a.ordinal c.in-None-get_mut.ensures.item.3) in
    let same = row_kept rows c.args.a.site row there row refl ∙ c.self.view_is in
    let put = λ (h : Heap) (r : Option Object).
    option_map_or (λ (o : Object). spec.put_own h c.args.a o c.args.name.now c.args.v) r
    (spec.written h Done) in
    ap (λ (h : Heap). spec.written h Done) same
    ∙ (ap (put c.args.self.now) (sym gone)
    ∙ ap (λ (h : Heap). put c.args.self.now (object_at h c.args.a)) c.self.view_is)

pub invariant_of-self-2 : goal.invariant_of-self-2
invariant_of-self-2 c =
    let rows = c.self.inside.objects.items in
    let row = c.in-Some.objects.now in
    let there = lent rows c.args.a.site.0 row c.in-Some.ensures.item.3.0 c.in-Some.ensures.item.1 in
    let old = c.in-Some-get_mut.object.now in
    let stands = lent row.items c.args.a.ordinal old c.in-Some-get_mut.ensures.item.3.0
    c.in-Some-get_mut.ensures.item.1 in (
      c.self.invariant.0 ∙ size_kept rows c.args.a row there old stands c.put.new.self,
      c.self.invariant.1,
    )

pub returns-clause-put : goal.returns-clause-put
returns-clause-put c =
    let rows = c.self.inside.objects.items in
    let row = c.in-Some.objects.now in
    let there = lent rows c.args.a.site.0 row c.in-Some.ensures.item.3.0 c.in-Some.ensures.item.1 in
    let old = c.in-Some-get_mut.object.now in
    let stands = lent row.items c.args.a.ordinal old c.in-Some-get_mut.ensures.item.3.0
    c.in-Some-get_mut.ensures.item.1 in
    let new = c.put.new.self in
    let put = λ (h : Heap) (r : Option Object).
    option_map_or (λ (o : Object). spec.put_own h c.args.a o c.args.name.now c.args.v) r
    (spec.written h Done) in
    IfOk-weaker c.put.result _ _ (λ end ends.
    ap (λ (h : Heap). spec.written h end)
    (row_changed rows c.args.a.site row there c.args.a.ordinal new)
    ∙ (ends (heap_of rows) c.args.a (found rows c.args.a row there old stands)
    ∙ (ap (put (heap_of rows)) (sym (found rows c.args.a row there old stands))
    ∙ ap (λ (h : Heap). put h (object_at h c.args.a)) c.self.view_is))) c.put.ensures.put

pub returns-clause-kept : goal.returns-clause-kept
returns-clause-kept c =
    let rows = c.self.inside.objects.items in
    let row = c.in-Some.objects.now in
    let there = lent rows c.args.a.site.0 row c.in-Some.ensures.item.3.0 c.in-Some.ensures.item.1 in
    let old = c.in-Some-get_mut.object.now in
    let stands = lent row.items c.args.a.ordinal old c.in-Some-get_mut.ensures.item.3.0
    c.in-Some-get_mut.ensures.item.1 in
    let there_is = found rows c.args.a row there old stands in
    on_err_weaker c.put.result (λ same. row_changed rows c.args.a.site row there c.args.a.ordinal
    c.put.new.self ∙ (ap (with_object (heap_of rows) c.args.a) same
    ∙ (with_object_same (heap_of rows) c.args.a old there_is ∙ c.self.view_is)))
    c.put.ensures.kept
