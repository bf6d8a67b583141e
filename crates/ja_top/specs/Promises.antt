-- What is promised of a table of a program and of its warnings, wherever they are told.
use Rattle.std.specs.Prelude.{List}
use Rattle.ja_graph.specs.declared.program.Program.{Program}
use Rattle.ja_machine.specs.Runs.{NeverStuck}
use Rattle.ja_rows.specs.declared.table.Warning.{Warning}
use Rattle.ja_rows.specs.Table.{Table, IsClosed}
use Rattle.ja_rows.specs.Warning.{AreWarnings}
use Rattle.ja_sound.specs.Sound.{CoversRuns, WarnsOfFaults}

-- The table is closed and covers every run, the warnings are exactly those of it, and an operation
-- that goes wrong in some run is among them. No run of the program is stuck.
pub record IsSound (p : Program) (t : Table) (warnings : List Warning) : Type 0 where
  pub closed : IsClosed p t
  pub exact : AreWarnings p t warnings
  pub covers : CoversRuns p t
  pub warned : WarnsOfFaults p warnings
  pub goes_on : NeverStuck p
