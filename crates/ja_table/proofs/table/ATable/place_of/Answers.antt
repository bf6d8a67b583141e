use Rattle.std.proofs.Common.{sym, ap, ◌∙◌}
use Rattle.std.specs.Option.{is_some}
use Rattle.std.proofs.lemmas.Bool.{ltb-false}
use Rattle.ja_table.specs.Order.{context_of}
use Rattle.ja_table.proofs.Ordered.{found_here, found_other, found_past}
use Rattle.ja_table.proofs.Places.{contexts_order}
use Rattle.ja_table.proofs.table.ATable.place_of.Goals as goal

pub returns-in-Some-clause-found : goal.returns-in-Some-clause-found
returns-in-Some-clause-found c ordered =
    let xs = c.args.self.now.contexts.items in
    let n = c.contexts_below-place.result in
    found_here context_of contexts_order c.args.context xs c.deref.result.now n
    c.deref.ensures.value ordered
    (c.contexts_below-place.ensures.place ordered) c.in-Some.own.now
    c.in-Some.ensures.lookup.3.0 c.in-Some.ensures.lookup.1 (sym c.eq.ensures ∙ c.if-eq.true)

pub returns-in_default-clause-found : goal.returns-in_default-clause-found
returns-in_default-clause-found c ordered =
    let xs = c.args.self.now.contexts.items in
    let n = c.contexts_below-place.result in
    found_other context_of contexts_order c.args.context xs c.deref.result.now n
    c.deref.ensures.value ordered
    (c.contexts_below-place.ensures.place ordered) c.in-Some.own.now
    c.in-Some.ensures.lookup.3.0 c.in-Some.ensures.lookup.1 (sym c.eq.ensures ∙ c.if-eq.false)

pub returns-in_default-2-clause-found : goal.returns-in_default-2-clause-found
returns-in_default-2-clause-found c ordered =
    let xs = c.args.self.now.contexts.items in
    let n = c.contexts_below-place.result in
    found_past context_of contexts_order c.args.context xs c.deref.result.now n
    c.deref.ensures.value ordered
    (c.contexts_below-place.ensures.place ordered)
    (ltb-false n _ (sym c.get.ensures.lookup.0 ∙ ap is_some c.in_default.is))
