use Rattle.std.proofs.Common.{◌≡◌, false, sym, refl, ap, ◌∙◌, not, subst, List, length}
use Rattle.ja_base.specs.declared.ids.Context.{Context}
use Rattle.ja_graph.specs.Program.{nodes_of}
use Rattle.ja_table.specs.declared.table.NodeTable.{NodeTable}
use Rattle.ja_table.specs.Tables.{states_in, table_of}
use Rattle.ja_table.specs.code.Growing.{with_context}
use Rattle.ja_table.specs.code.Places.{IsPlaceOf}
use Rattle.ja_table.proofs.TableLemmas.{context_told, context_there, context_more, context_added, no_states, table_in}
use Rattle.ja_table.proofs.TableUpdates.{fits_by_items}
use Rattle.ja_table.proofs.Told.{on_fault}
use Rattle.ja_table.proofs.table.ATable.add_context.Goals as goal

pub returns-then-is_some-clause-added : goal.returns-then-is_some-clause-added
returns-then-is_some-clause-added c =
    let o = c.place_of.ensures in
    context_there (table_of c.args.self.now) c.args.context (context_told c.args.program.now
    c.args.self.now c.args.context c.place_of.result c.requires.fits o.found o.within
    ∙ sym c.is_some.ensures ∙ c.if-is_some.true)

pub returns-then-is_some-clause-told : goal.returns-then-is_some-clause-told
returns-then-is_some-clause-told c =
    let o = c.place_of.ensures in
    sym (ap not (context_told c.args.program.now c.args.self.now c.args.context c.place_of.result
    c.requires.fits o.found o.within ∙ sym c.is_some.ensures ∙ c.if-is_some.true))

pub returns-clause-added : goal.returns-clause-added
returns-clause-added c =
    let t = c.args.self.now in
    let o = c.place_of.ensures in
    let own = c.in_ok-own.own in
    let is = c.in_ok-own.ensures.context in
    let n = c.contexts_below-place.result in
    ap (λ cs. table_in cs t.edges.items) c.in_ok-insert.ensures.items
    ∙ context_more t.contexts.items t.edges.items n own
    (subst (λ (x : Context). IsPlaceOf x t.contexts.items n) (sym is)
    (c.contexts_below-place.ensures.place c.requires.fits.ordered))
    (subst (λ (x : Context). (table_of t).context x ≡ false) (sym is)
    (context_told c.args.program.now t c.args.context c.place_of.result c.requires.fits o.found
    o.within ∙ sym c.is_some.ensures ∙ c.if-is_some.false))
    (λ m. ap (λ (xs : List NodeTable). states_in xs m) c.in_ok-own.ensures.nodes
    ∙ no_states (length (nodes_of c.args.program.now c.args.context.function)) m)
    c.in_ok-own.ensures.entries ∙ ap (with_context (table_of t)) is

pub returns-clause-told : goal.returns-clause-told
returns-clause-told c =
    let o = c.place_of.ensures in
    sym (ap not (context_told c.args.program.now c.args.self.now c.args.context c.place_of.result
    c.requires.fits o.found o.within ∙ sym c.is_some.ensures ∙ c.if-is_some.false))

pub returns-clause-fits : goal.returns-clause-fits
returns-clause-fits c =
    let p = c.args.program.now in
    let t = c.args.self.now in
    let o = c.place_of.ensures in
    let is = c.in_ok-own.ensures.context in
    let n = c.contexts_below-place.result in
    context_added p t _ n c.in_ok-own.own c.requires.fits c.in_ok-own.ensures.fits
    c.in_ok-insert.ensures.items refl
    (subst (λ (x : Context). IsPlaceOf x t.contexts.items n) (sym is)
    (c.contexts_below-place.ensures.place c.requires.fits.ordered))
    (subst (λ (x : Context). (table_of t).context x ≡ false) (sym is)
    (context_told p t c.args.context c.place_of.result c.requires.fits o.found o.within
    ∙ sym c.is_some.ensures ∙ c.if-is_some.false))

pub returns-in_err-insert-clause-kept : goal.returns-in_err-insert-clause-kept
returns-in_err-insert-clause-kept c =
    on_fault _ (ap (λ cs. table_in cs c.args.self.now.edges.items) c.in_err-insert.ensures.items)

pub returns-in_err-insert-clause-fits : goal.returns-in_err-insert-clause-fits
returns-in_err-insert-clause-fits c =
    fits_by_items c.args.program.now c.args.self.now _ c.in_err-insert.ensures.items refl
    c.requires.fits
