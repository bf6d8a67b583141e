-- The numbers of the statuses, which warnings decide a status, the status of the end of a run, and
-- the refusal of a text that has no program.
use Rattle.std.specs.Prelude.{ℕ, Bool, true, false, List, Option, Some, None}
use Rattle.std.specs.List.{list_any}
use Rattle.ja_grammar.specs.declared.fault.ParseFault.TheVariants as parse_fault
use Rattle.ja_load.specs.declared.fault.LoadFault.{LoadFault}
use Rattle.ja_load.specs.declared.fault.LoadFault.TheVariants as fault
use Rattle.ja_report.specs.declared.refusals.Refusal.{Refusal}
use Rattle.ja_report.specs.declared.refusals.Refusal.TheVariants as refusal
use Rattle.ja_rows.specs.declared.table.Warning.{Warning}
use Rattle.ja_rows.specs.declared.table.WarningKind.{WarningKind}
use Rattle.ja_rows.specs.declared.table.WarningKind.TheVariants.{NotAFunction, NoObject, UnboundName, ScopeRow}
use Rattle.ja_run.specs.declared.ended.RunEnd.{RunEnd}
use Rattle.ja_run.specs.declared.ended.RunEnd.TheVariants as run_end
use Rattle.ja_top.specs.declared.status.Status.{Status}
use Rattle.ja_top.specs.declared.status.Status.TheVariants.{Done, Warned, Usage, ReadFault}
use Rattle.ja_top.specs.declared.status.Status.TheVariants.{WriteFault, TooLong, NotText, Syntax}
use Rattle.ja_top.specs.declared.status.Status.TheVariants.{Scope, Limit, Spent, CertRefused}
use Rattle.ja_top.specs.declared.status.Status.TheVariants.{DeviceFault, Left, Uncaught}
use Rattle.ja_top.specs.declared.status.Status.TheVariants.{StepsSpent, Memory}

-- the exit status of a process
abbrev pub code_of : Status → ℕ
code_of Done = 0
code_of Warned = 1
code_of Usage = 2
code_of ReadFault = 3
code_of WriteFault = 4
code_of TooLong = 5
code_of NotText = 6
code_of Syntax = 7
code_of Scope = 8
code_of Limit = 9
code_of Spent = 10
code_of CertRefused = 11
code_of DeviceFault = 12
code_of Left = 13
code_of Uncaught = 14
code_of StepsSpent = 15
code_of Memory = 16

-- a type fault: the read of a property that is out of the profile is none
abbrev pub is_fault : WarningKind → Bool
is_fault NotAFunction = true
is_fault NoObject = true
is_fault UnboundName = true
is_fault ScopeRow = false

abbrev pub has_fault : List Warning → Bool
has_fault warnings = list_any (λ (w : Warning). is_fault w.kind) warnings

-- the status of the end of a run
abbrev pub status_of_end : RunEnd → Status
status_of_end run_end.Normal = Done
status_of_end (run_end.Uncaught value) = Uncaught
status_of_end (run_end.Scope kind place) = Left
status_of_end (run_end.Device which) = DeviceFault
status_of_end run_end.Limit = StepsSpent

-- why a text has no program; want of memory is none, and no status has too many names as its cause
abbrev pub refusal_of : LoadFault → Option Refusal
refusal_of (fault.Parse (parse_fault.Syntax place)) = Some (refusal.Syntax place)
refusal_of (fault.Parse (parse_fault.Scope kind place)) = Some (refusal.Scope kind place)
refusal_of (fault.Parse (parse_fault.Depth place)) = Some refusal.Depth
refusal_of (fault.Parse parse_fault.Memory) = None
refusal_of fault.Functions = Some refusal.Functions
refusal_of fault.Nodes = Some refusal.Nodes
refusal_of fault.Names = None
