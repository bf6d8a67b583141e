-- What is written of a solved program is checked as what it is: its report, under its status.
use Rattle.std.proofs.Common.{◌≡◌, ℕ, Bool, true, false, List, refl, sym, ap, subst, ◌∙◌}
use Rattle.std.specs.Prelude.{if◌then◌else◌}
use Rattle.std.specs.Str.{IsUtf8}
use Rattle.ja_graph.specs.declared.program.Program.{Program}
use Rattle.ja_rows.specs.declared.table.Warning.{Warning}
use Rattle.ja_rows.specs.Table.{Table}
use Rattle.ja_table.proofs.ProfileLemmas.{table_of_profile}
use Rattle.ja_table.specs.Tables.{table_of}
use Rattle.ja_report.specs.Report.{report_text}
use Rattle.ja_cert_read.specs.Certified.{IsCertificate}
use Rattle.ja_cert_read.specs.declared.certificate.Certificate.{Certificate}
use Rattle.ja_top.specs.Checks.{Checks, IsAccepted, IsChecked}
use Rattle.ja_top.specs.Promises.{IsSound}
use Rattle.ja_top.specs.Statuses.{has_fault}
use Rattle.ja_top.specs.declared.status.Status.{Status}
use Rattle.ja_top.specs.declared.status.Status.TheVariants.{Done, Warned, Usage, ReadFault, WriteFault, TooLong, NotText, Syntax, Scope, Limit, Spent, CertRefused, DeviceFault, Left, Uncaught, StepsSpent, Memory}
use Rattle.ja_top.proofs.Reporting.{by_faults}
use Rattle.ja_cert_laws.specs.Accepted.{IsReported}
use Rattle.ja_cert_laws.specs.Back.{CanBeWritten, IsSolved, written}
use Rattle.ja_cert_laws.proofs.ClosedCertificates.{here, refused}
use Rattle.ja_cert_laws.proofs.OneWarnings.{one_list_of_warnings, warnings_same}
use Rattle.ja_cert_laws.proofs.OtherReport.{report_same}
use Rattle.ja_cert_laws.proofs.OtherSteps.{built_same}
use Rattle.ja_cert_laws.proofs.OtherText.{other}
use Rattle.ja_cert_laws.proofs.ShapedTables.{solved_written}
use Rattle.ja_cert_laws.proofs.Whole.{written_is_certificate, written_is_utf8}

module _ (c : Certificate) (h : IsSolved c) (ws : List Warning)
    (sound : IsSound c.program (table_of c.table) ws) where
  abbrev p : Program
  p = c.program

  abbrev t : Table
  t = table_of c.table

  abbrev bytes : List ℕ
  bytes = written c

  can : CanBeWritten c
  can = solved_written c h

  is : IsCertificate bytes c
  is = written_is_certificate c can (table_of_profile c.table)

  utf8 : IsUtf8 bytes
  utf8 = written_is_utf8 c can (table_of_profile c.table)

  abbrev report : List ℕ
  report = report_text p t c.visits.items true ws

  abbrev judged : List Warning → Status
  judged vs = if has_fault vs then Warned else Done

  -- ---- another certificate of the same bytes

  module _ (d : Certificate) (j : IsCertificate bytes d) where
    abbrev moved : Program
    moved = other p d.program.text

    record SaysThis (text : List ℕ) (vs : List Warning) : Type 0 where
      warnings : vs ≡ ws
      text_is : text ≡ report

    accepted : (text : List ℕ) (vs : List Warning)
        → IsAccepted d.program (table_of d.table) d.visits.items text vs → SaysThis text vs
    accepted text vs k =
        let m : IsAccepted moved t c.visits.items text vs =
        here bytes c is d j (λ q u items. IsAccepted q u items text vs) k in
        let one : vs ≡ ws =
        one_list_of_warnings moved t vs ws m.sound.exact
        (warnings_same p d.program.text t ws sound.exact) in
        let built : m.built ≡ true =
        m.built_is.1 (built_same p d.program.text c.visits.items t h.built) in
        record {
          warnings = one;
          text_is = m.printed ∙ ap (λ b. report_text moved t c.visits.items b vs) built
              ∙ ap (report_text moved t c.visits.items true) one
              ∙ report_same p d.program.text t c.visits.items true ws;
        }

  -- ---- what is answered

  reported : (vs : List Warning) (b : Bool) (text : List ℕ) → has_fault vs ≡ b
      → IsChecked bytes text vs → IsReported p t c.visits.items ws (if b then Warned else Done) text
  reported vs b text fault (d, j, k) =
      let says = accepted d j text vs k in
      record {
        status_is = ap (λ a. if a then Warned else Done) (sym fault) ∙ ap judged says.warnings;
        text_is = says.text_is;
      }

  pub checked_is_reported : (status : Status) (text : List ℕ) → Checks bytes status text
      → IsReported p t c.visits.items ws status text
  checked_is_reported Done text (is_text, (vs, none, k)) = reported vs false text none k
  checked_is_reported Warned text (is_text, (vs, some, k)) = reported vs true text some k
  checked_is_reported NotText text (none, told) = absurd (none utf8)
  checked_is_reported CertRefused text (is_text, k) =
      absurd (refused bytes c is sound.closed text k)
  checked_is_reported Usage text k = absurd k
  checked_is_reported ReadFault text k = absurd k
  checked_is_reported WriteFault text k = absurd k
  checked_is_reported TooLong text k = absurd k
  checked_is_reported Syntax text k = absurd k
  checked_is_reported Scope text k = absurd k
  checked_is_reported Limit text k = absurd k
  checked_is_reported Spent text k = absurd k
  checked_is_reported DeviceFault text k = absurd k
  checked_is_reported Left text k = absurd k
  checked_is_reported Uncaught text k = absurd k
  checked_is_reported StepsSpent text k = absurd k
  checked_is_reported Memory text k = absurd k

  pub reported_is_checked : (status : Status) (text : List ℕ)
      → IsReported p t c.visits.items ws status text → Checks bytes status text
  reported_is_checked status text k =
      let accepted : IsAccepted p t c.visits.items text ws = record {
        built = true;
        built_is = (λ _. h.built, λ _. refl);
        printed = k.text_is;
        sound = sound;
      } in
      let checked : IsChecked bytes text ws = (c, is, accepted) in
      subst (λ s. Checks bytes s text) (sym k.status_is) (by_faults (λ s. Checks bytes s text) ws
      (λ none. (utf8, (ws, none, checked))) (λ some. (utf8, (ws, some, checked))))
