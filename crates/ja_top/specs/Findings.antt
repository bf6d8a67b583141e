-- What the analysis finds of a text, without a report, and why it finds nothing.
use Rattle.std.specs.Prelude.{◌≡◌, ◌≤◌, ℕ, List, length}
use Rattle.std.specs.Str.{IsUtf8}
use Rattle.std.specs.List.{AllByRecursion}
use Rattle.std.specs.Str.Lossy.{utf8_valid_len}
use Rattle.ja_graph.specs.declared.program.Program.{Program}
use Rattle.ja_graph.specs.WellFormed.{IsWellFormed}
use Rattle.ja_load.specs.Loading.{IsProgramOf, HasNone}
use Rattle.ja_prim.specs.declared.signature.Signature.{Signature}
use Rattle.ja_rows.specs.declared.table.Item.{Item}
use Rattle.ja_rows.specs.Table.{IsBuilt}
use Rattle.ja_solve.specs.Solving.{WasSpent}
use Rattle.ja_table.specs.Tables.{table_of, Fits}
use Rattle.ja_warn.specs.Told.{warnings_in, IsNamed, IsTold}
use Rattle.ja_words.specs.Words.{default_budget}
use Rattle.ja_top.specs.Promises.{IsSound}
use Rattle.ja_top.specs.declared.finding.FindFault.{FindFault}
use Rattle.ja_top.specs.declared.finding.FindFault.TheVariants as fault
use Rattle.ja_top.specs.declared.finding.Findings.{Findings}

-- What is found of a program, which is well formed: a table that the visits build, of which all is
-- promised, and its warnings, each with the values of what it is about and of its name.
pub record IsFoundIn (p : Program) (found : Findings) : Type 0 where
  pub program : found.program ≡ p
  pub formed : IsWellFormed p
  pub fits : Fits p found.table
  pub built : IsBuilt p found.visits (table_of found.table)
  pub few : length found.visits ≤ default_budget
  pub values : AllByRecursion (IsTold p (table_of found.table)) found.warnings
  pub names : AllByRecursion (IsNamed p (table_of found.table)) found.warnings
  pub sound : IsSound p (table_of found.table) (warnings_in found.warnings)

abbrev pub Finds : List ℕ → List Signature → Findings → Type 0
Finds bytes signatures found =
    IsProgramOf bytes signatures found.program × IsFoundIn found.program found

-- why nothing is found of a program; want of memory is explained by nothing
abbrev pub IsUnfoundIn : Program → FindFault → Type 0
IsUnfoundIn p fault.Spent = (visits : List Item) × WasSpent p default_budget visits
IsUnfoundIn p fault.Memory = Unit {0}
IsUnfoundIn p f = ⊥

-- .. and of a text
abbrev pub IsUnfound : List ℕ → List Signature → FindFault → Type 0
IsUnfound bytes signatures (fault.NotText offset) =
    (IsUtf8 bytes → ⊥) × (offset ≡ utf8_valid_len bytes)
IsUnfound bytes signatures (fault.Load f) = HasNone bytes signatures f
IsUnfound bytes signatures fault.Spent =
    (p : Program) × IsProgramOf bytes signatures p × IsUnfoundIn p fault.Spent
IsUnfound bytes signatures fault.Memory = Unit {0}
