-- What is written where an answer is refused.
use Rattle.std.specs.Prelude.{ℕ, List, ◌++◌}
use Rattle.std.specs.Fmt.{decimal}
use lib.Chars.{codes}
use Rattle.ja_graph.specs.declared.program.Program.{Program}
use Rattle.ja_rows.specs.declared.table.Item.{Item}
use Rattle.ja_report.specs.Report.{item_text}
use Rattle.ja_report.specs.declared.certificates.CertRefusal.{CertRefusal}
use Rattle.ja_report.specs.declared.certificates.CertRefusal.TheVariants as cert
use Rattle.ja_report.specs.declared.refusals.Refusal.{Refusal}
use Rattle.ja_report.specs.declared.refusals.Refusal.TheVariants.{Usage, ReadFault, TooLong, NotText, Syntax, Scope, Depth, Functions, Nodes}
use Rattle.ja_texts.specs.Texts.{place_text, scope_name}

-- one line: how the program is called, that its input failed, that its text is too long, the offset
-- of the first byte that begins no character, the place of the first token with which no program
-- goes on, or where the text leaves the profile and how, that it nests too deep, or that it has too
-- many functions, or too many nodes
abbrev pub refusal_text : Refusal → List ℕ
refusal_text Usage =
    codes
    "usage: tajs analyse [--cert] [--budget N] | check | run [--steps N] | generate --number N\n"
refusal_text ReadFault = codes "read fault\n"
refusal_text TooLong = codes "too long 16777216\n"
refusal_text (NotText offset) = codes "not text " ++ decimal offset ++ codes "\n"
refusal_text (Syntax place) = codes "syntax " ++ place_text place ++ codes "\n"
refusal_text (Scope kind place) =
    codes "scope " ++ scope_name kind ++ codes " " ++ place_text place ++ codes "\n"
refusal_text Depth = codes "limit depth 200\n"
refusal_text Functions = codes "limit functions 4096\n"
refusal_text Nodes = codes "limit nodes 65536\n"

-- one line: a certificate is no JSON, or has the wrong shape at this place first, or its text is
-- refused, or its table lacks the opening
abbrev pub cert_refusal_text : CertRefusal → List ℕ
cert_refusal_text cert.Json = codes "certificate json\n"
cert_refusal_text (cert.Shape item) =
    codes "certificate shape " ++ item.items ++ codes "\n"
cert_refusal_text (cert.Text refusal) = codes "certificate text " ++ refusal_text refusal
cert_refusal_text cert.Opening = codes "certificate opening\n"

-- one line: this is the first item whose visit changes the table of a certificate
abbrev pub open_text : Program → Item → List ℕ
open_text p item = codes "certificate open " ++ item_text p item
