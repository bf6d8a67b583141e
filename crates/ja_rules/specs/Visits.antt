-- What a visit comes to.
use Rattle.std.specs.Prelude.{◌≡◌, ◌≢◌, Bool, true, false}
use Rattle.ja_graph.specs.declared.program.Program.{Program}
use Rattle.ja_rows.specs.declared.table.Item.{Item}
use Rattle.ja_rows.specs.Table.{Table, visited}

-- the table is the visited one, and it is told whether that is another one
pub record IsVisited (p : Program) (item : Item) (before after : Table) (changed : Bool)
    : Type 0 where
  pub visited_is : visited p before item ≡ after
  pub other : changed ≡ true → after ≢ before
  pub same : changed ≡ false → after ≡ before
