-- What is answered to certificates.
use Rattle.std.specs.Prelude.{◌≡◌, List, ℕ}
use Rattle.std.specs.Str.{IsUtf8}
use Rattle.ja_graph.specs.declared.program.Program.{Program}
use Rattle.ja_rows.specs.declared.table.Item.{Item}
use Rattle.ja_rows.specs.declared.table.Warning.{Warning}
use Rattle.ja_rows.specs.Table.{Table}
use Rattle.ja_cert_read.specs.Certified.{IsCertificate}
use Rattle.ja_cert_read.specs.declared.certificate.Certificate.{Certificate}
use Rattle.ja_top.specs.Checks.{Checks, IsAccepted}
use Rattle.ja_top.specs.code.Statuses.{status_of}
use Rattle.ja_top.specs.declared.answer.Answer.{Answer}

-- the answer to a closed table
abbrev pub IsAcceptance : Program → Table → List Item → Answer → Type 0
IsAcceptance p t visits a =
    (ws : List Warning) × (a.status ≡ status_of ws) × IsAccepted p t visits a.text.items ws

-- whatever text it is read from, this is the answer to its bytes
abbrev pub IsJudgement : Certificate → Answer → Type 0
IsJudgement c a =
    (bytes : List ℕ) → IsUtf8 bytes → IsCertificate bytes c → Checks bytes a.status a.text.items
