use Rattle.std.proofs.Common.{◌≡◌, List, map, subst}
use Rattle.std.specs.Prelude.{◌↔◌, IsTrue}
use Rattle.ja_table.specs.declared.table.CallEdge.{CallEdge}
use Rattle.ja_table.specs.declared.table.ContextTable.{ContextTable}
use Rattle.ja_check.specs.code.Checking.{meaning_of}
use Rattle.ja_check.proofs.Meanings.{tables_told}
use Rattle.ja_check.proofs.same_tables.is_same_table.Goals as goal

pub returns : goal.returns
returns c =
    let contexts = c.in_ok-contexts.contexts in
    let edges = c.are_same_edges-edges.result in
    let t = c.args.own.now in
    let u = c.args.other.now in
    tables_told c.args.program.now t u c.requires.own c.requires.other contexts edges
    (subst (λ (xs : List ContextTable). IsTrue contexts
    ↔ (map meaning_of xs ≡ map meaning_of u.contexts.items)) c.deref.ensures.value
    (subst (λ (ys : List ContextTable). IsTrue contexts
    ↔ (map meaning_of c.deref.result.now ≡ map meaning_of ys)) c.deref-2.ensures.value
    c.in_ok-contexts.ensures))
    (subst (λ (xs : List CallEdge). IsTrue edges ↔ (map (λ (d : CallEdge). d.edge) xs
    ≡ map (λ (d : CallEdge). d.edge) u.edges.items)) c.deref-3.ensures.value
    (subst (λ (ys : List CallEdge). IsTrue edges ↔ (map (λ (d : CallEdge). d.edge)
    c.deref-3.result.now ≡ map (λ (d : CallEdge). d.edge) ys)) c.deref-4.ensures.value
    c.are_same_edges-edges.ensures))
