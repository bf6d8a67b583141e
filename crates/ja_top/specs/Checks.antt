-- How a certificate is checked: the cause of each status, and the text that is written with it.
use Rattle.std.specs.Prelude.{◌≡◌, ◌⊎◌, ◌↔◌, ℕ, Bool, true, false, IsTrue, List, Some}
use Rattle.std.specs.Str.{IsUtf8}
use Rattle.std.specs.Str.Lossy.{utf8_valid_len}
use Rattle.ja_graph.specs.declared.program.Program.{Program}
use Rattle.ja_cert_read.specs.Certified.{IsCertificate, IsNoCertificate}
use Rattle.ja_cert_read.specs.declared.certificate.Certificate.{Certificate}
use Rattle.ja_cert_read.specs.declared.certificate.CertFault.{CertFault}
use Rattle.ja_cert_read.specs.declared.certificate.CertFault.TheVariants as cert_fault
use Rattle.ja_check.specs.Check.{IsFirstUnsettled}
use Rattle.ja_report.specs.Refusals.{cert_refusal_text, open_text, refusal_text}
use Rattle.ja_report.specs.Report.{report_text}
use Rattle.ja_report.specs.declared.certificates.CertRefusal.TheVariants as certificate
use Rattle.ja_report.specs.declared.refusals.Refusal.{Refusal}
use Rattle.ja_report.specs.declared.refusals.Refusal.TheVariants as refusal
use Rattle.ja_rows.specs.declared.table.Item.{Item}
use Rattle.ja_rows.specs.declared.table.Warning.{Warning}
use Rattle.ja_rows.specs.Table.{HasOpening, IsBuilt, Table}
use Rattle.ja_table.specs.Tables.{table_of}
use Rattle.ja_top.specs.Promises.{IsSound}
use Rattle.ja_top.specs.Statuses.{has_fault, refusal_of}
use Rattle.ja_top.specs.declared.status.Status.{Status}
use Rattle.ja_top.specs.declared.status.Status.TheVariants.{Done, Warned, NotText, CertRefused}

-- What is printed of a table and visits, with these warnings: the report of the table, with whether
-- the visits build it. All is promised of the table, built or not.
pub record IsAccepted (p : Program) (t : Table) (visits : List Item) (text : List ℕ)
    (warnings : List Warning) : Type 0 where
  pub built : Bool
  pub built_is : IsTrue built ↔ IsBuilt p visits t
  pub printed : text ≡ report_text p t visits built warnings
  pub sound : IsSound p t warnings

-- the same of a certificate
abbrev pub IsChecked : List ℕ → List ℕ → List Warning → Type 0
IsChecked bytes text warnings =
    (c : Certificate) × IsCertificate bytes c
    × IsAccepted c.program (table_of c.table) c.visits.items text warnings

-- what is written where bytes are no certificate
abbrev pub IsExplained : CertFault → List ℕ → Type 0
IsExplained cert_fault.Json text = text ≡ cert_refusal_text certificate.Json
IsExplained (cert_fault.Shape item) text = text ≡ cert_refusal_text (certificate.Shape item)
IsExplained (cert_fault.Load fault) text =
    (r : Refusal) × (refusal_of fault ≡ Some r)
    × (text ≡ cert_refusal_text (certificate.Text r))
IsExplained cert_fault.Memory text = ⊥

-- The certificate isn't accepted: it is none, or the table in it lacks the opening, or it has that,
-- and a visit of this item is the first that changes it.
abbrev pub IsRefusedCertificate : List ℕ → List ℕ → Type 0
IsRefusedCertificate bytes text =
    ((fault : CertFault) × IsNoCertificate bytes fault × IsExplained fault text)
    ⊎ ((c : Certificate) × IsCertificate bytes c
    × (((HasOpening c.program (table_of c.table) → ⊥)
    × (text ≡ cert_refusal_text certificate.Opening))
    ⊎ ((item : Item) × HasOpening c.program (table_of c.table)
    × IsFirstUnsettled c.program (table_of c.table) item × (text ≡ open_text c.program item))))

-- the cause of each status of the check of some bytes, and what is written; whether they are a text
-- is asked first
abbrev pub Checks : List ℕ → Status → List ℕ → Type 0
Checks bytes Done text =
    IsUtf8 bytes × ((ws : List Warning) × (has_fault ws ≡ false) × IsChecked bytes text ws)
Checks bytes Warned text =
    IsUtf8 bytes × ((ws : List Warning) × (has_fault ws ≡ true) × IsChecked bytes text ws)
Checks bytes NotText text =
    (IsUtf8 bytes → ⊥) × (text ≡ refusal_text (refusal.NotText (utf8_valid_len bytes)))
Checks bytes CertRefused text = IsUtf8 bytes × IsRefusedCertificate bytes text
Checks bytes status text = ⊥
