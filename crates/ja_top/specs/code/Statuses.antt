-- What clauses of the code cite beside `Statuses`, and no believed statement.
use Rattle.std.specs.Prelude.{if◌then◌else◌, List}
use Rattle.ja_rows.specs.declared.table.Warning.{Warning}
use Rattle.ja_report.specs.declared.refusals.Refusal.{Refusal}
use Rattle.ja_report.specs.declared.refusals.Refusal.TheVariants as refusal
use Rattle.ja_top.specs.Statuses.{has_fault}
use Rattle.ja_top.specs.declared.status.Status.{Status}
use Rattle.ja_top.specs.declared.status.Status.TheVariants.{Done, Warned, Usage, ReadFault}
use Rattle.ja_top.specs.declared.status.Status.TheVariants.{TooLong, NotText, Syntax, Scope, Limit}

-- a report with a warning of a fault is warned, and one without is done
abbrev pub status_of : List Warning → Status
status_of warnings = if has_fault warnings then Warned else Done

-- .. and of a refusal
abbrev pub status_of_refusal : Refusal → Status
status_of_refusal refusal.Usage = Usage
status_of_refusal refusal.ReadFault = ReadFault
status_of_refusal refusal.TooLong = TooLong
status_of_refusal (refusal.NotText offset) = NotText
status_of_refusal (refusal.Syntax place) = Syntax
status_of_refusal (refusal.Scope kind place) = Scope
status_of_refusal refusal.Depth = Limit
status_of_refusal refusal.Functions = Limit
status_of_refusal refusal.Nodes = Limit
