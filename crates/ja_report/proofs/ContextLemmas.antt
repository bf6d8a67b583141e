-- What a context that is kept has, as it is written.
use Rattle.std.specs.Prelude.{◌≡◌, List, Option, Some}
use Rattle.std.specs.List.{flat_map}
use Rattle.std.specs.Option.{option_and_then, option_map_or}
use Rattle.std.proofs.Common.{sym, ap, ◌∙◌}
use Rattle.std.proofs.lemmas.List.Folds.{flat_map-map}
use Rattle.ja_base.specs.declared.ids.Context.{Context}
use Rattle.ja_base.proofs.Lists.{all_weaker}
use Rattle.ja_graph.specs.declared.program.Program.{Program}
use Rattle.ja_aheap.specs.Entries.{entries_of}
use Rattle.ja_table.specs.declared.table.ATable.{ATable}
use Rattle.ja_table.specs.declared.table.ContextTable.{ContextTable}
use Rattle.ja_table.specs.Order.{context_of}
use Rattle.ja_table.specs.Tables.{find_context, no_entries, states_in, table_of, Fits}
use Rattle.ja_table.proofs.Ascending.{flat_map_each}
use Rattle.ja_table.proofs.ListedContexts.{contexts_listed, find_kept}
use Rattle.ja_report.specs.Lines.{Line, context_lines, table_lines}

-- the lines of a context that is kept
unfoldable pub own_lines : Program → ContextTable → List Line
own_lines p c = context_lines p c.context (entries_of c.entries) (states_in c.nodes.items)

module _ (p : Program) (t : ATable) where
  table_own : Context → List Line
  table_own x = context_lines p x ((table_of t).entry x) ((table_of t).state x)

  own_is : (c : ContextTable) → find_context c.context t.contexts.items ≡ Some c
      → table_own c.context ≡ own_lines p c
  unfolding table_own own_lines
  own_is c found =
      ap (λ (o : Option ContextTable). context_lines p c.context
      (option_map_or (λ (d : ContextTable). entries_of d.entries) o no_entries)
      (λ n. option_and_then (λ (d : ContextTable). states_in d.nodes.items n) o)) found

  pub lines_listed : Fits p t
      → flat_map (own_lines p) t.contexts.items ≡ table_lines p (table_of t)
  unfolding table_own
  lines_listed fits =
      sym (ap (flat_map table_own) (contexts_listed p t fits)
      ∙ flat_map-map table_own context_of t.contexts.items
      ∙ flat_map_each (λ (c : ContextTable). table_own c.context) (own_lines p) t.contexts.items
      (all_weaker (λ (c : ContextTable). find_context c.context t.contexts.items ≡ Some c)
      (λ (c : ContextTable). table_own c.context ≡ own_lines p c) own_is t.contexts.items
      (find_kept t.contexts.items fits.ordered)))
