use Rattle.std.proofs.Common.{rules, ◌≡◌, sym, ap, subst, ◌∙◌, List, [], ◌∷◌, All, slice_get, length, arith}
use Rattle.std.proofs.lemmas.List.Elements.{All-from_recursion}
use Rattle.ja_table.specs.declared.table.ContextTable.{ContextTable}
use Rattle.ja_table.specs.Order.{AreContextsOrdered, AreEdgesOrdered}
use Rattle.ja_table.specs.Tables.{FitsContext}
use Rattle.ja_table.proofs.TableLemmas.{table_in, table_opening}
use Rattle.ja_table.proofs.table.opening.Goals as goal

pub returns-clause-table : goal.returns-clause-table
returns-clause-table c =
    let own = c.in_ok-opening_context.field-0 in
    let items : c.push.new.self.items ≡ own ∷ [] = search rules in
    let edges : c.new.result.items ≡ [] = search rules in
    (λ i. table_in (items i) (edges i))
    ∙ table_opening c.args.program.now own c.in_ok-opening_context.ensures.context
    c.in_ok-opening_context.ensures.states c.in_ok-opening_context.ensures.entries

pub returns-clause-fits : goal.returns-clause-fits
returns-clause-fits c =
    let p = c.args.program.now in
    let own = c.in_ok-opening_context.field-0 in
    let items : c.push.new.self.items ≡ own ∷ [] = search rules in
    let edges : c.new.result.items ≡ [] = search rules in
    record {
      each =
          subst (All (FitsContext p)) (sym items)
          (All-from_recursion (FitsContext p) (own ∷ [])
          (c.in_ok-opening_context.ensures.fits, tt));
      ordered = subst AreContextsOrdered (sym items) (tt, tt);
      edges = λ k d lt. absurd (omega (arith, lt, ap length edges));
      edges_ordered = subst AreEdgesOrdered (sym edges) tt;
      first = own;
      first_is = ap (λ (xs : List ContextTable). slice_get xs 0) items;
      first_is_root = c.in_ok-opening_context.ensures.context;
    }
