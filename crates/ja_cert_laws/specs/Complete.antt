-- When a call of `check` is complete: its certificate is of a closed table.
use Rattle.std.specs.Prelude.{◌≡◌, ◌≤◌, ℕ, List, Some, length}
use Rattle.std.specs.Str.{IsUtf8}
use Rattle.ja_lex.specs.Spots.{max_bytes}
use Rattle.ja_rows.specs.Table.{IsClosed}
use Rattle.ja_table.specs.Tables.{table_of}
use Rattle.ja_cert_read.specs.Certified.{IsCertificate}
use Rattle.ja_cert_read.specs.declared.certificate.Certificate.{Certificate}
use Rattle.ja_words.specs.declared.command.Command.TheVariants.{Check}
use Rattle.ja_top.specs.Answers.{Asks, Call, Written}
use Rattle.ja_top.specs.Complete.{IsFaultless}

-- The words ask for a check, what a source has left that tells it is a certificate whose table is
-- closed, and nothing fails.
pub record HasClosed (c : Call) (w : Written) : Type 0 where
  pub asks : Asks c.words Check
  pub bytes : List ℕ
  pub held : c.left ≡ Some bytes
  pub within : length bytes ≤ max_bytes
  pub utf8 : IsUtf8 bytes
  pub certificate : Certificate
  pub is : IsCertificate bytes certificate
  pub closed : IsClosed certificate.program (table_of certificate.table)
  pub faultless : IsFaultless c w
