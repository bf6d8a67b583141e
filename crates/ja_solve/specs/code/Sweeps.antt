-- What the solver keeps from visit to visit.
use Rattle.std.specs.Prelude.{◌≡◌, ◌≤◌, IsTrue, vec_len}
use Rattle.ja_base.specs.declared.ids.Context.{Context}
use Rattle.ja_base.specs.declared.ids.NodeId.{NodeId}
use Rattle.ja_graph.specs.declared.program.Program.{Program}
use Rattle.ja_graph.specs.WellFormed.{IsWellFormed}
use Rattle.ja_rows.specs.declared.table.Edge.{Edge}
use Rattle.ja_rows.specs.declared.table.Item.{Item}
use Rattle.ja_rows.specs.declared.table.Item.TheVariants.{Step, Fill, Back}
use Rattle.ja_rows.specs.Table.{Table, IsItem, IsBuilt}
use Rattle.ja_solve.specs.declared.solver.Along.{Along}
use Rattle.ja_solve.specs.declared.solver.Along.TheVariants as along
use Rattle.ja_solve.specs.declared.solver.Work.{Work}
use Rattle.ja_table.specs.Tables.{table_of, Fits}
use Rattle.ja_rules.specs.code.Settled.{IsSettled}

-- the program whose table is sought
abbrev pub program_of : Work → Program
program_of work = work.analysis.now.program.now

-- the table fits the program, and the visits built it, not more of them than the budget allows
pub record HasBuilt (work : Work) : Type 0 where
  pub program : IsWellFormed (program_of work)
  pub fits : Fits (program_of work) work.table
  pub built : IsBuilt (program_of work) work.visits.items (table_of work.table)
  pub few : vec_len work.visits ≤ work.budget

-- no visit is lost, and where none was added the table is as it was
pub record GoesOn (before after : Work) : Type 0 where
  pub analysis : after.analysis ≡ before.analysis
  pub budget : after.budget ≡ before.budget
  pub more : vec_len before.visits ≤ vec_len after.visits
  pub same : vec_len after.visits ≡ vec_len before.visits
      → table_of after.table ≡ table_of before.table

-- the item of an edge
abbrev pub item_along : Along → Edge → Item
item_along along.Fill e = Fill e
item_along along.Back e = Back e

-- no visit was added
abbrev pub IsUnchanged : Work → Work → Type 0
IsUnchanged before after = vec_len after.visits ≡ vec_len before.visits

-- each item of the table is settled; of the steps of a context, of all steps, and of what goes
-- along edges
abbrev pub AreSettled : Program → Table → Type 0
AreSettled p t = (item : Item) → IsItem p t item → IsSettled p t item

abbrev pub AreSteppedAt : Program → Table → Context → Type 0
AreSteppedAt p t x = (n : NodeId) → IsItem p t (Step x n) → IsSettled p t (Step x n)

abbrev pub AreStepped : Program → Table → Type 0
AreStepped p t = (x : Context) → AreSteppedAt p t x

abbrev pub AreSettledAlong : Program → Table → Along → Type 0
AreSettledAlong p t along =
    (e : Edge) → IsTrue (t.edge e) → IsSettled p t (item_along along e)
