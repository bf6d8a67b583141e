-- How a text is analysed: the cause of each status, and the text that is written with it.
use Rattle.std.specs.Prelude.{◌≡◌, ◌≤◌, ◌⊎◌, ℕ, true, false, List, length}
use Rattle.std.specs.Str.{IsUtf8}
use Rattle.std.specs.Str.Lossy.{utf8_valid_len}
use Rattle.ja_base.specs.declared.ids.Place.{Place}
use Rattle.ja_base.specs.declared.ids.ScopeKind.{ScopeKind}
use Rattle.ja_graph.specs.declared.program.Program.{Program}
use Rattle.ja_graph.specs.WellFormed.{IsWellFormed}
use Rattle.ja_grammar.specs.declared.fault.ParseFault.TheVariants as fault
use Rattle.ja_load.specs.Loading.{IsProgramOf, HasManyFunctions, HasManyNodes, IsNone}
use Rattle.ja_rows.specs.declared.table.Item.{Item}
use Rattle.ja_rows.specs.declared.table.Warning.{Warning}
use Rattle.ja_rows.specs.Table.{Table, IsBuilt}
use Rattle.ja_prim.specs.declared.signature.Signature.{Signature}
use Rattle.ja_report.specs.declared.refusals.Refusal.TheVariants as refusal
use Rattle.ja_report.specs.Refusals.{refusal_text}
use Rattle.ja_report.specs.Report.{report_text, spent_text, summary_text}
use Rattle.ja_cert.specs.Certificate.{certificate_text}
use Rattle.ja_height.specs.Height.{height}
use Rattle.ja_solve.specs.Solving.{WasSpent}
use Rattle.ja_table.specs.Tables.{table_of, Fits}
use Rattle.ja_table.specs.declared.table.ATable.{ATable}
use Rattle.ja_top.specs.Promises.{IsSound}
use Rattle.ja_top.specs.Statuses.{has_fault}
use Rattle.ja_top.specs.declared.request.Form.{Form}
use Rattle.ja_top.specs.declared.request.Form.TheVariants as form
use Rattle.ja_top.specs.declared.request.Request.{Request}
use Rattle.ja_top.specs.declared.status.Status.{Status}
use Rattle.ja_top.specs.declared.status.Status.TheVariants.{Done, Warned, NotText, Syntax, Scope}
use Rattle.ja_top.specs.declared.status.Status.TheVariants.{Limit, Spent}
use Rattle.ja_words.specs.declared.command.Budget.{Budget}
use Rattle.ja_words.specs.declared.command.Budget.TheVariants.{Height, Visits}

-- what is printed of a table that these visits build: its report, its certificate, or its counts
abbrev pub result_text : Form → Program → Table → List Item → List Warning → List ℕ
result_text form.Report p t visits warnings = report_text p t visits true warnings
result_text form.Certificate p t visits warnings = certificate_text p t visits
result_text (form.Summary number) p t visits warnings = summary_text number p t warnings

-- how many visits a budget allows the analysis of a program
abbrev pub visits_of : Program → Budget → ℕ
visits_of p (Visits number) = number
visits_of p Height = height p

-- What is printed of a program, which is well formed, with these warnings: a table that the printed
-- visits build, and of which all is promised.
pub record IsAnalysed (request : Request) (p : Program) (text : List ℕ) (warnings : List Warning)
    : Type 0 where
  pub formed : IsWellFormed p
  pub table : ATable
  pub fits : Fits p table
  pub visits : List Item
  pub printed : text ≡ result_text request.form p (table_of table) visits warnings
  pub built : IsBuilt p visits (table_of table)
  pub few : length visits ≤ visits_of p request.budget
  pub sound : IsSound p (table_of table) warnings

-- what is written of a program, which is well formed, whose budget is spent
abbrev pub IsSpent : Request → Program → List ℕ → Type 0
IsSpent request p text =
    (visits : List Item) × IsWellFormed p × WasSpent p (visits_of p request.budget) visits
    × (text ≡ spent_text p visits)

-- what is written of a program, by the status
abbrev pub Reports : Request → Program → Status → List ℕ → Type 0
Reports request p Done text =
    (ws : List Warning) × (has_fault ws ≡ false) × IsAnalysed request p text ws
Reports request p Warned text =
    (ws : List Warning) × (has_fault ws ≡ true) × IsAnalysed request p text ws
Reports request p Spent text = IsSpent request p text
Reports request p status text = ⊥

abbrev pub ReportsOnText : Request → List ℕ → List Signature → Status → List ℕ → Type 0
ReportsOnText request bytes signatures status text =
    (p : Program) × IsProgramOf bytes signatures p × Reports request p status text

-- the text nests too deep, or has too many functions, or else too many nodes
abbrev pub IsPastLimit : List ℕ → List Signature → List ℕ → Type 0
IsPastLimit bytes signatures text =
    ((place : Place) × IsNone bytes (fault.Depth place) × (text ≡ refusal_text refusal.Depth))
    ⊎ ((HasManyFunctions bytes × (text ≡ refusal_text refusal.Functions))
    ⊎ (HasManyNodes bytes signatures × (text ≡ refusal_text refusal.Nodes)))

-- why a text has no program, by the status, and what is written
abbrev pub Refuses : List ℕ → List Signature → Status → List ℕ → Type 0
Refuses bytes signatures NotText text =
    (IsUtf8 bytes → ⊥) × (text ≡ refusal_text (refusal.NotText (utf8_valid_len bytes)))
Refuses bytes signatures Syntax text =
    (place : Place) × IsNone bytes (fault.Syntax place)
    × (text ≡ refusal_text (refusal.Syntax place))
Refuses bytes signatures Scope text =
    (kind : ScopeKind) × (place : Place) × IsNone bytes (fault.Scope kind place)
    × (text ≡ refusal_text (refusal.Scope kind place))
Refuses bytes signatures Limit text = IsPastLimit bytes signatures text
Refuses bytes signatures status text = ⊥

-- the cause of each status of the analysis of a text whose program has these devices, and what is
-- written
abbrev pub Analyses : Request → List ℕ → List Signature → Status → List ℕ → Type 0
Analyses request bytes signatures status text =
    ReportsOnText request bytes signatures status text ⊎ Refuses bytes signatures status text
