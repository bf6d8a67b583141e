-- The items of a table as it is kept, what its contexts stand for, and items that are gone through.
use Rattle.std.specs.Prelude.{◌≡◌, ℕ, List, Option, All}
use Rattle.ja_base.specs.declared.ids.Context.{Context}
use Rattle.ja_base.specs.declared.ids.Label.{Label}
use Rattle.ja_graph.specs.declared.program.Program.{Program}
use Rattle.ja_abstract.specs.declared.abstraction.Key.{Key}
use Rattle.ja_abstract.specs.AbstractState.{AbstractState}
use Rattle.ja_abstract.specs.Resolved.{Entries}
use Rattle.ja_rows.specs.declared.table.Item.{Item}
use Rattle.ja_rows.specs.Table.{Table}
use Rattle.ja_aheap.specs.Entries.{entries_of}
use Rattle.ja_table.specs.declared.table.ContextTable.{ContextTable}
use Rattle.ja_table.specs.Tables.{states_in}
use Rattle.ja_check.specs.declared.fault.CheckFault.{CheckFault}
use Rattle.ja_check.specs.declared.fault.CheckFault.TheVariants.{NotOpen, NotClosed, Memory}
use Rattle.ja_check.specs.Check.{steps_at, IsFirstAmong}

-- the steps of a context that is kept
abbrev pub steps_in : Program → ContextTable → List Item
steps_in p c = steps_at p c.context (states_in c.nodes.items)

-- what a context that is kept stands for
pub record Meaning : Type 0 where
  pub context : Context
  pub states : ℕ → Option AbstractState
  pub entries : Entries

abbrev pub meaning_of : ContextTable → Meaning
meaning_of c = record {
  context = c.context;
  states = states_in c.nodes.items;
  entries = entries_of c.entries;
}

-- the same is demanded of each pair, with the same value
abbrev pub AreSameAt : Entries → Entries → List (Label × Key) → Type 0
AreSameAt e f pairs =
    All (λ (pair : Label × Key). e pair.0 pair.1 ≡ f pair.0 pair.1) pairs

-- why items weren't gone through to their end
abbrev pub StopsAt : Program → Table → List Item → CheckFault → Type 0
StopsAt p t items NotOpen = ⊥
StopsAt p t items (NotClosed item) = IsFirstAmong p t items item
StopsAt p t items Memory = Unit {0}
