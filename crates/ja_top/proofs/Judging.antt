-- What is answered to certificates.
use Rattle.std.specs.Prelude.{◌≡◌, List, ℕ, Result, Ok, Err, IfOk}
use Rattle.std.proofs.Common.{IsUtf8, inl, inr, subst, sym}
use Rattle.ja_rows.specs.declared.table.Item.{Item}
use Rattle.ja_rows.specs.declared.table.Warning.{Warning}
use Rattle.ja_rows.specs.Table.{HasOpening, Table}
use Rattle.ja_table.specs.Tables.{table_of}
use Rattle.ja_check.specs.Check.{IsFirstUnsettled}
use Rattle.ja_cert_read.specs.Certified.{IsNoCertificate}
use Rattle.ja_cert_read.specs.declared.certificate.Certificate.{Certificate}
use Rattle.ja_cert_read.specs.declared.certificate.CertFault.{CertFault}
use Rattle.ja_report.specs.declared.certificates.CertRefusal.TheVariants as certificate
use Rattle.ja_base.specs.declared.ids.Memory.{Memory}
use Rattle.ja_top.specs.Checks.{Checks, IsAccepted, IsChecked, IsExplained}
use Rattle.ja_top.specs.code.Checking.{IsAcceptance, IsJudgement}
use Rattle.ja_top.specs.code.Solutions.{IsCertRefusal, IsOpenRefusal}
use Rattle.ja_top.specs.code.Statuses.{status_of}
use Rattle.ja_top.specs.declared.answer.Answer.{Answer}
use Rattle.ja_top.specs.declared.status.Status.TheVariants.{CertRefused}
use Rattle.ja_top.proofs.Reporting.{by_faults}

-- ---- answers

-- what holds of an answer follows
pub all_ok : (P Q : Answer → Type 0) (r : Result Answer Memory) → ((a : Answer) → P a → Q a)
    → IfOk r P → IfOk r Q
all_ok P Q (Ok a) then h = then a h
all_ok P Q (Err e) then h = h

-- ---- tables

-- a checked certificate is answered by its warnings
checks : (bytes text : List ℕ) (ws : List Warning) → IsUtf8 bytes → IsChecked bytes text ws
    → Checks bytes (status_of ws) text
checks bytes text ws utf8 h =
    by_faults (λ status. Checks bytes status text) ws (λ none. (utf8, (ws, none, h)))
    (λ some. (utf8, (ws, some, h)))

module _ (c : Certificate) where
  -- the answer to its table is that to the certificate
  accepted : (t : Table) (a : Answer) → t ≡ table_of c.table
      → IsAcceptance c.program t c.visits.items a → IsJudgement c a
  accepted t a same (ws, status_is, h) bytes utf8 is =
      subst (λ status. Checks bytes status a.text.items) (sym status_is)
      (checks bytes a.text.items ws utf8 (
        c,
        is,
        subst (λ u. IsAccepted c.program u c.visits.items
            a.text.items ws) same h,
      ))

  pub all_accepted : (t : Table) (visits : List Item) (r : Result Answer Memory)
      → t ≡ table_of c.table → visits ≡ c.visits.items → IfOk r (IsAcceptance c.program t visits)
      → IfOk r (IsJudgement c)
  all_accepted t visits r same its h =
      all_ok (IsAcceptance c.program t c.visits.items) (IsJudgement c) r
      (λ a. accepted t a same) (subst (λ v. IfOk r (IsAcceptance c.program t v)) its h)

  -- a table that lacks the opening
  pub unopened : (a : Answer) → (HasOpening c.program (table_of c.table) → ⊥)
      → IsCertRefusal a certificate.Opening → IsJudgement c a
  unopened a none h bytes utf8 is =
      subst (λ status. Checks bytes status a.text.items) (sym h.status_is)
      (utf8, inr (c, is, inl (none, h.text_is)))

  -- .. and one that isn't closed
  pub unclosed : (a : Answer) (item : Item) → HasOpening c.program (table_of c.table)
      → IsFirstUnsettled c.program (table_of c.table) item → IsOpenRefusal c.program item a
      → IsJudgement c a
  unclosed a item has first h bytes utf8 is =
      subst (λ status. Checks bytes status a.text.items) (sym h.status_is)
      (utf8, inr (c, is, inr (item, has, first, h.text_is)))

-- ---- texts that are none

pub no_certificate : (bytes : List ℕ) (a : Answer) (fault : CertFault) → a.status ≡ CertRefused
    → IsUtf8 bytes → IsNoCertificate bytes fault → IsExplained fault a.text.items
    → Checks bytes a.status a.text.items
no_certificate bytes a fault is utf8 none explained =
    subst (λ status. Checks bytes status a.text.items) (sym is)
    (utf8, inl (fault, none, explained))
