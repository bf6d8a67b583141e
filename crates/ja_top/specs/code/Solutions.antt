-- What the solver gives, and what is refused.
use Rattle.std.specs.Prelude.{◌≡◌, ◌≤◌, ℕ, length}
use Rattle.ja_graph.specs.declared.program.Program.{Program}
use Rattle.ja_rows.specs.declared.table.Item.{Item}
use Rattle.ja_rows.specs.Table.{IsBuilt, IsClosed}
use Rattle.ja_sound.specs.Sound.{CoversRuns}
use Rattle.ja_report.specs.declared.refusals.Refusal.{Refusal}
use Rattle.ja_report.specs.Refusals.{cert_refusal_text, open_text, refusal_text}
use Rattle.ja_report.specs.declared.certificates.CertRefusal.{CertRefusal}
use Rattle.ja_solve.specs.declared.solver.Solved.{Solved}
use Rattle.ja_table.specs.Tables.{table_of, Fits}
use Rattle.ja_top.specs.declared.answer.Answer.{Answer}
use Rattle.ja_top.specs.code.Statuses.{status_of_refusal}
use Rattle.ja_top.specs.declared.status.Status.TheVariants.{CertRefused}

-- what the solver gives of a program in so many visits at most
pub record IsSolved (p : Program) (budget : ℕ) (s : Solved) : Type 0 where
  pub fits : Fits p s.table
  pub built : IsBuilt p s.visits (table_of s.table)
  pub closed : IsClosed p (table_of s.table)
  pub few : length s.visits ≤ budget
  pub covers : CoversRuns p (table_of s.table)

-- the status and the text of a refusal
pub record IsRefusal (a : Answer) (r : Refusal) : Type 0 where
  pub status_is : a.status ≡ status_of_refusal r
  pub text_is : a.text.items ≡ refusal_text r

-- .. and of the refusal of a certificate
pub record IsCertRefusal (a : Answer) (r : CertRefusal) : Type 0 where
  pub status_is : a.status ≡ CertRefused
  pub text_is : a.text.items ≡ cert_refusal_text r

-- .. whose table isn't closed
pub record IsOpenRefusal (p : Program) (item : Item) (a : Answer) : Type 0 where
  pub status_is : a.status ≡ CertRefused
  pub text_is : a.text.items ≡ open_text p item
