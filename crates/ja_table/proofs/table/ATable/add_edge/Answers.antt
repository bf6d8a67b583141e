use Rattle.std.proofs.Common.{◌≡◌, false, sym, refl, ap, ◌∙◌, not, subst}
use Rattle.ja_rows.specs.declared.table.Edge.{Edge}
use Rattle.ja_table.specs.declared.table.CallEdge.{CallEdge}
use Rattle.ja_table.specs.Tables.{table_of, FitsEdge}
use Rattle.ja_table.specs.code.Growing.{with_edge}
use Rattle.ja_table.specs.code.Places.{IsPlaceOfEdge}
use Rattle.ja_table.proofs.TableLemmas.{edge_told, edge_there, edge_more, edge_added, table_in}
use Rattle.ja_table.proofs.TableUpdates.{fits_by_items}
use Rattle.ja_table.proofs.Told.{on_fault}
use Rattle.ja_table.proofs.table.ATable.add_edge.Goals as goal

pub returns-then-is_some-clause-added : goal.returns-then-is_some-clause-added
returns-then-is_some-clause-added c =
    let o = c.place_of_edge.ensures in
    edge_there (table_of c.args.self.now) c.args.edge (edge_told c.args.program.now c.args.self.now
    c.args.edge c.place_of_edge.result c.requires.fits o.found o.within ∙ sym c.is_some.ensures
    ∙ c.if-is_some.true)

pub returns-then-is_some-clause-told : goal.returns-then-is_some-clause-told
returns-then-is_some-clause-told c =
    let o = c.place_of_edge.ensures in
    sym (ap not (edge_told c.args.program.now c.args.self.now c.args.edge c.place_of_edge.result
    c.requires.fits o.found o.within ∙ sym c.is_some.ensures ∙ c.if-is_some.true))

pub returns-clause-added : goal.returns-clause-added
returns-clause-added c =
    let t = c.args.self.now in
    let is = ap (λ (d : CallEdge). d.edge) c.new.ensures in
    ap (table_in t.contexts.items) c.in_ok-insert.ensures.items
    ∙ edge_more t.contexts.items t.edges.items c.edges_below-place.result c.new.result
    (subst (λ (e : Edge). IsPlaceOfEdge e t.edges.items c.edges_below-place.result)
    (sym is) (c.edges_below-place.ensures.place c.requires.fits.edges_ordered))
    ∙ ap (with_edge (table_of t)) is

pub returns-clause-told : goal.returns-clause-told
returns-clause-told c =
    let o = c.place_of_edge.ensures in
    sym (ap not (edge_told c.args.program.now c.args.self.now c.args.edge c.place_of_edge.result
    c.requires.fits o.found o.within ∙ sym c.is_some.ensures ∙ c.if-is_some.false))

pub returns-clause-fits : goal.returns-clause-fits
returns-clause-fits c =
    let o = c.place_of_edge.ensures in
    let p = c.args.program.now in
    let t = c.args.self.now in
    let back = sym (ap (λ (d : CallEdge). d.edge) c.new.ensures) in
    edge_added p t _ c.edges_below-place.result c.new.result c.requires.fits
    (subst (FitsEdge p t) back c.requires.edge) refl c.in_ok-insert.ensures.items
    (subst (λ (e : Edge). IsPlaceOfEdge e t.edges.items c.edges_below-place.result) back
    (c.edges_below-place.ensures.place c.requires.fits.edges_ordered))
    (subst (λ (e : Edge). (table_of t).edge e ≡ false) back
    (edge_told p t c.args.edge c.place_of_edge.result c.requires.fits o.found o.within
    ∙ sym c.is_some.ensures ∙ c.if-is_some.false))

pub returns-in_err-insert-clause-kept : goal.returns-in_err-insert-clause-kept
returns-in_err-insert-clause-kept c =
    on_fault _ (ap (table_in c.args.self.now.contexts.items) c.in_err-insert.ensures.items)

pub returns-in_err-insert-clause-fits : goal.returns-in_err-insert-clause-fits
returns-in_err-insert-clause-fits c =
    fits_by_items c.args.program.now c.args.self.now _ refl c.in_err-insert.ensures.items
    c.requires.fits
