-- What is written as a certificate is read back: what a certificate can say, and when two
-- certificates are the same.
use Rattle.std.specs.Prelude.{◌≡◌, ◌<◌, ◌≤◌, ◌||◌, ℕ, false, IsTrue, IfSome, List, length}
use Rattle.std.specs.List.{AllByRecursion}
use Rattle.std.specs.Option.{option_map_or}
use Rattle.ja_base.specs.declared.ids.Context.{Context}
use Rattle.ja_base.specs.declared.ids.Label.{Label}
use Rattle.ja_base.specs.declared.ids.NodeId.{NodeId}
use Rattle.ja_graph.specs.declared.node.NodeInfo.{NodeInfo}
use Rattle.ja_graph.specs.declared.program.Program.{Program}
use Rattle.ja_graph.specs.Program.{node_at, nodes_of}
use Rattle.ja_abstract.specs.declared.abstraction.Key.{Key}
use Rattle.ja_abstract.specs.declared.abstraction.Mask.{Mask}
use Rattle.ja_abstract.specs.AbstractValue.{AbstractValue, AbstractProperty}
use Rattle.ja_abstract.specs.AbstractState.{AbstractState}
use Rattle.ja_rows.specs.declared.table.Edge.{Edge}
use Rattle.ja_rows.specs.declared.table.Item.{Item}
use Rattle.ja_rows.specs.declared.table.Item.TheVariants.{Open, Step, Fill, Back}
use Rattle.ja_rows.specs.Table.{Table, IsBuilt}
use Rattle.ja_table.specs.Tables.{table_of, Fits, IsContext, FitsListed}
use Rattle.ja_cert.specs.Wrong.{calls}
use Rattle.std.specs.String.{string_bytes}
use Rattle.ja_device.specs.Signatures.{AreSignatures}
use Rattle.ja_graph.specs.WellFormed.{IsWellFormed}
use Rattle.ja_grammar.specs.declared.fault.ParseFault.TheVariants as parse
use Rattle.ja_lex.specs.Spots.{max_bytes}
use Rattle.ja_load.specs.Loading.{IsProgramOf}
use Rattle.ja_load.specs.declared.fault.LoadFault.TheVariants as load
use Rattle.ja_cert.specs.Certificate.{certificate_text}
use Rattle.ja_cert_read.specs.declared.certificate.Certificate.{Certificate}
use Rattle.ja_cert_read.specs.declared.certificate.CertFault.{CertFault}
use Rattle.ja_cert_read.specs.declared.certificate.CertFault.TheVariants as fault
use Rattle.ja_cert_read.specs.Said.{said_table}

-- ---- what a certificate can say: of a table that visits build

-- a register has no part of a property
pub record IsOfRegister (v : AbstractValue) : Type 0 where
  pub absent : v.flags.absent ≡ false
  pub entry : v.flags.entry ≡ false
  pub row : v.flags.row ≡ false

-- none or some objects were made
abbrev pub HasPart : Mask → Type 0
HasPart m = IsTrue (m.none || m.some)

pub record IsShaped (a : AbstractState) : Type 0 where
  pub registers : (r : ℕ) → IsOfRegister (a.register r)
  pub masks : (s : ℕ) → HasPart (a.mask s)

-- a value at entry isn't as at entry
abbrev pub IsOfEntry : AbstractProperty → Type 0
IsOfEntry q = q.value.flags.entry ≡ false

-- an edge leads from a call, a construction or a conversion
abbrev pub IsCall : Program → Edge → Type 0
IsCall p e =
    IsTrue (option_map_or (λ (i : NodeInfo). calls i.node) (node_at p e.caller.function e.node)
    false)

pub record IsTableShaped (p : Program) (t : Table) : Type 0 where
  pub states : (x : Context) (n : ℕ) → IfSome (t.state x n) IsShaped
  pub entries : (x : Context) (l : Label) (k : Key) → IfSome (t.entry x l k) IsOfEntry
  pub edges : (e : Edge) → IsTrue (t.edge e) → IsCall p e

-- ---- visits with numbers of the program

pub record IsNodeOf (p : Program) (x : Context) (n : NodeId) : Type 0 where
  pub context : IsContext p x
  pub node : n.0 < length (nodes_of p x.function)

pub record IsEdgeOf (p : Program) (e : Edge) : Type 0 where
  pub from : IsNodeOf p e.caller e.node
  pub callee : IsContext p e.callee

abbrev pub IsItemOf : Program → Item → Type 0
IsItemOf p Open = Unit {0}
IsItemOf p (Step x n) = IsNodeOf p x n
IsItemOf p (Fill e) = IsEdgeOf p e
IsItemOf p (Back e) = IsEdgeOf p e

-- ---- certificates

-- as it is written
abbrev pub written : Certificate → List ℕ
written c = certificate_text c.program (table_of c.table) c.visits.items

-- the program of its own text, which may be read, with devices
pub record IsLoaded (p : Program) : Type 0 where
  pub program : IsProgramOf (string_bytes p.text) p.signatures p
  pub well_formed : IsWellFormed p
  pub text : length (string_bytes p.text) ≤ max_bytes
  pub devices : AreSignatures p.signatures

-- a table of it, in order, that can be said, all of it; and visits of the program
pub record CanBeWritten (c : Certificate) : Type 0 where
  pub loaded : IsLoaded c.program
  pub fits : FitsListed c.program c.table
  pub shaped : IsTableShaped c.program (table_of c.table)
  pub said : said_table c.program (table_of c.table) ≡ table_of c.table
  pub visits : AllByRecursion (IsItemOf c.program) c.visits.items

-- the table is one of the solver's, and these visits build it
pub record IsSolved (c : Certificate) : Type 0 where
  pub loaded : IsLoaded c.program
  pub fits : Fits c.program c.table
  pub built : IsBuilt c.program c.visits.items (table_of c.table)

-- the same but for the memory in which the text stands
pub record IsSameProgram (p q : Program) : Type 0 where
  pub text : string_bytes q.text ≡ string_bytes p.text
  pub others : q ≡ record p { text = q.text }

pub record SaysSame (c d : Certificate) : Type 0 where
  pub program : IsSameProgram c.program d.program
  pub table : table_of d.table ≡ table_of c.table
  pub visits : d.visits.items ≡ c.visits.items

-- memory was refused, while the bytes were read or while their text was parsed
abbrev pub IsWantOfMemory : CertFault → Type 0
IsWantOfMemory fault.Json = ⊥
IsWantOfMemory (fault.Shape item) = ⊥
IsWantOfMemory (fault.Load (load.Parse parse.Memory)) = Unit {0}
IsWantOfMemory (fault.Load f) = ⊥
IsWantOfMemory fault.Memory = Unit {0}
