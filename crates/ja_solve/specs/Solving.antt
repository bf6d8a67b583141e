-- When the solver gives up.
use Rattle.std.specs.Prelude.{◌≡◌, ℕ, List, length}
use Rattle.ja_graph.specs.declared.program.Program.{Program}
use Rattle.ja_rows.specs.declared.table.Item.{Item}
use Rattle.ja_rows.specs.Table.{Table, IsBuilt, IsClosed}
use Rattle.ja_solve.specs.declared.solver.SolveFault.{SolveFault}
use Rattle.ja_solve.specs.declared.solver.SolveFault.TheVariants.{Spent, Memory}

-- there were as many visits as the budget allows, each changed the table, and the last table isn't
-- closed
pub record WasSpent (p : Program) (budget : ℕ) (visits : List Item) : Type 0 where
  pub table : Table
  pub built : IsBuilt p visits table
  pub all : length visits ≡ budget
  pub open_still : IsClosed p table → ⊥

-- the cause of each fault of the solver
abbrev pub Explains : Program → ℕ → SolveFault → Type 0
Explains p budget (Spent visits) = WasSpent p budget visits
Explains p budget Memory = Unit {0}
