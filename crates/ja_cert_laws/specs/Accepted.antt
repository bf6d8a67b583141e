-- What `check` answers to what `analyse --cert` wrote: what `analyse` answers.
use Rattle.std.specs.Prelude.{◌≡◌, ℕ, String, if◌then◌else◌, List, [], Some}
use Rattle.std.specs.declared.alloc.Global.{Global}
use Rattle.ja_base.specs.Streams.{IsLonger}
use Rattle.ja_graph.specs.declared.program.Program.{Program}
use Rattle.ja_lex.specs.Spots.{max_bytes}
use Rattle.ja_rows.specs.declared.table.Item.{Item}
use Rattle.ja_rows.specs.declared.table.Warning.{Warning}
use Rattle.ja_rows.specs.Table.{Table}
use Rattle.ja_top.specs.Analyses.{result_text}
use Rattle.ja_top.specs.Answers.{Call, Written}
use Rattle.ja_top.specs.Statuses.{has_fault}
use Rattle.ja_top.specs.declared.request.Form.TheVariants as form
use Rattle.ja_top.specs.declared.status.Status.{Status}
use Rattle.ja_top.specs.declared.status.Status.TheVariants.{Done, Warned, ReadFault, WriteFault, TooLong, Memory}

-- ---- of a text and its certificate

-- the status by these warnings, and the report of the program, of this table, visits and warnings:
-- so the visits build the table
pub record IsReported (p : Program) (t : Table) (visits : List Item) (warnings : List Warning)
    (status : Status) (text : List ℕ) : Type 0 where
  pub status_is : status ≡ (if has_fault warnings then Warned else Done)
  pub text_is : text ≡ result_text form.Report p t visits warnings

-- ---- of two calls

-- a report or a certificate was written
abbrev pub HasReport : Status → Type 0
HasReport Done = Unit {0}
HasReport Warned = Unit {0}
HasReport status = ⊥

-- what was written to an empty sink is all that is left to a call
pub record IsPassedOn (w : Written) (d : Call) : Type 0 where
  pub empty : w.written ≡ Some []
  pub left : d.left ≡ w.written_after

-- why there is no answer to it: the source, the sink or memory failed, or it is longer than a text
-- may be
abbrev pub IsLost : Written → Status → Type 0
IsLost w ReadFault = Unit {0}
IsLost w WriteFault = Unit {0}
IsLost w Memory = Unit {0}
IsLost w TooLong = IsLonger max_bytes w.written_after
IsLost w status = ⊥

-- the same call with other words
abbrev pub asking : List (String Global) → Call → Call
asking words c = record c { words = words }
