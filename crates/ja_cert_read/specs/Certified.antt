-- Which bytes are the certificate of a program, a table and visits, and why others are none.
use Rattle.std.specs.Prelude.{◌≡◌, ◌⊎◌, ℕ, List, [], ◌∷◌, map, Some, None}
use Rattle.std.specs.List.{join_with_byte}
use Rattle.std.specs.String.{string_bytes}
use lib.Chars.{codes}
use Rattle.serde_json.specs.Data.{Data, string}
use Rattle.serde_json.specs.Read.{read}
use Rattle.ja_prim.specs.declared.signature.Signature.{Signature}
use Rattle.ja_graph.specs.declared.program.Program.{Program}
use Rattle.ja_load.specs.Loading.{IsProgramOf, HasNone}
use Rattle.ja_table.specs.Tables.{table_of, FitsListed}
use Rattle.ja_cert.specs.Certificate.{certificate_data, device_data, listed, whole}
use Rattle.ja_cert.specs.Wrong.{Path, certificate_keys, members_of, wrong_before_loading, wrong_of}
use Rattle.ja_cert_read.specs.Said.{said_table}
use Rattle.ja_cert_read.specs.declared.certificate.Certificate.{Certificate}
use Rattle.ja_cert_read.specs.declared.certificate.CertFault.{CertFault}
use Rattle.ja_cert_read.specs.declared.certificate.CertFault.TheVariants as fault

-- a path is written with points between its steps
abbrev pub item_text : Path → List ℕ
item_text [] = codes "all"
item_text (step ∷ steps) = join_with_byte 46 (step ∷ steps)

-- the bytes are JSON (RFC 8259) of at most 127 levels, and this is its data, of which nothing is
-- wrong that is seen before the text is loaded
pub record HasData (bytes : List ℕ) (d : Data) : Type 0 where
  pub data_is : read bytes ≡ Some d
  pub right : wrong_before_loading d ≡ None

-- the text and the devices that it has
abbrev pub HasHead : Data → List ℕ → List Signature → Type 0
HasHead d text signatures =
    (contexts : Data) × (edges : Data) × (visits : Data)
    × (members_of certificate_keys d ≡ Some (contexts ∷ listed (map device_data signatures)
    ∷ edges ∷ string text ∷ whole 1 ∷ visits ∷ []))

-- The bytes are the certificate of this program, table and visits: as JSON they are what is written
-- for them, and no place is wrong.
pub record IsCertificate (bytes : List ℕ) (c : Certificate) : Type 0 where
  pub json : Data
  pub data_is : HasData bytes json
  pub program : IsProgramOf (string_bytes c.program.text) c.program.signatures c.program
  pub right : wrong_of c.program json ≡ None
  pub written_so : certificate_data c.program (table_of c.table) c.visits.items ≡ json
  -- of what no program has, nothing is said: the table is what is written of it
  pub said : said_table c.program (table_of c.table) ≡ table_of c.table
  pub fits : FitsListed c.program c.table

-- a place is wrong, before the text is loaded or with its program
abbrev pub IsWrongAt : List ℕ → Path → Type 0
IsWrongAt bytes path =
    ((d : Data) × (read bytes ≡ Some d) × (wrong_before_loading d ≡ Some path))
    ⊎ ((d : Data) × HasData bytes d
    × ((text : List ℕ) × (signatures : List Signature) × HasHead d text signatures
    × ((p : Program) × IsProgramOf text signatures p × (wrong_of p d ≡ Some path))))

-- why bytes are no certificate; want of memory is explained by nothing
abbrev pub IsNoCertificate : List ℕ → CertFault → Type 0
IsNoCertificate bytes fault.Json = read bytes ≡ None
IsNoCertificate bytes (fault.Shape item) =
    (path : Path) × (item.items ≡ item_text path) × IsWrongAt bytes path
IsNoCertificate bytes (fault.Load f) =
    (d : Data) × HasData bytes d
    × ((text : List ℕ) × (signatures : List Signature) × HasHead d text signatures
    × HasNone text signatures f)
IsNoCertificate bytes fault.Memory = Unit {0}
