use Rattle.std.proofs.Common.{◌≡◌, ◌∙◌, subst, sym}
use Rattle.ja_rows.specs.Table.{IsItem}
use Rattle.ja_table.specs.Tables.{table_of}
use Rattle.ja_table.proofs.TableLemmas.{edge_told}
use Rattle.ja_check.proofs.following.is_item.Goals as goal

pub returns-in-Fill : goal.returns-in-Fill
returns-in-Fill c =
    let p = c.args.program.now in
    let t = c.args.table.now in
    let e = c.in-Fill.edge in
    let same : c.is_some.result ≡ (table_of t).edge e = c.is_some.ensures
    ∙ sym (edge_told p t e c.place_of_edge.result c.requires c.place_of_edge.ensures.found
    c.place_of_edge.ensures.within) in (
      (λ h. subst (IsItem p (table_of t)) (sym c.in-Fill.is) (sym same ∙ h)),
      (λ i. same ∙ subst (IsItem p (table_of t)) c.in-Fill.is i),
    )

pub returns-in-Back : goal.returns-in-Back
returns-in-Back c =
    let p = c.args.program.now in
    let t = c.args.table.now in
    let e = c.in-Back.edge in
    let same : c.is_some-in-Back.result ≡ (table_of t).edge e = c.is_some-in-Back.ensures
    ∙ sym (edge_told p t e c.place_of_edge-in-Back.result c.requires
    c.place_of_edge-in-Back.ensures.found c.place_of_edge-in-Back.ensures.within) in (
      (λ h. subst (IsItem p (table_of t)) (sym c.in-Back.is) (sym same ∙ h)),
      (λ i. same ∙ subst (IsItem p (table_of t)) c.in-Back.is i),
    )
