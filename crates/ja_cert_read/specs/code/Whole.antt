-- The parts of a certificate, and what is told of bytes that are none.
use Rattle.std.specs.Prelude.{◌≡◌, ◌≤◌, ℕ, List, [], ◌∷◌, ◌++◌, map, length, Option, Some, None}
use Rattle.std.specs.List.{AllByRecursion}
use Rattle.serde_json.specs.Data.{Data, string}
use Rattle.serde_json.specs.Read.{read}
use Rattle.ja_cert_json.specs.View.{view}
use Rattle.ja_prim.specs.declared.signature.Signature.{Signature}
use Rattle.ja_graph.specs.declared.program.Program.{Program}
use Rattle.ja_lex.specs.Spots.{max_bytes}
use Rattle.ja_device.specs.Signatures.{AreSignatures}
use Rattle.ja_load.specs.Loading.{HasNone}
use Rattle.ja_table.specs.declared.table.CallEdge.{CallEdge}
use Rattle.ja_cert_read.specs.declared.certificate.CertFault.{CertFault}
use Rattle.ja_cert_read.specs.declared.certificate.CertFault.TheVariants as fault
use Rattle.ja_cert_parts.specs.declared.fault.Step.{Step}
use Rattle.ja_cert_read.specs.declared.reading.Head.{Head}
use Rattle.ja_cert_read.specs.declared.reading.Body.{Body}
use Rattle.ja_cert.specs.Certificate.{device_data, edge_data, item_data, listed, whole}
use Rattle.ja_cert_read.specs.Certified.{item_text}
use Rattle.ja_cert.specs.Wrong.{Path, certificate_keys, context_wrong, edge_wrong, members_of}
use Rattle.ja_cert_read.specs.code.Building.{AreRight}
use Rattle.ja_cert_read.specs.code.Contexts.{listed_data, HasOwnParts}
use Rattle.ja_cert_parts.specs.code.Reading.{step_text}

-- ---- what is read

-- the values of the members, by their names
abbrev pub data_in : Head → List Data
data_in h =
    view h.contexts.now ∷ listed (map device_data h.signatures.items) ∷ view h.edges.now
    ∷ string h.text.now ∷ whole 1 ∷ view h.visits.now ∷ []

-- what is seen before the text is loaded
pub record IsHeadOf (d : Data) (h : Head) : Type 0 where
  pub members : members_of certificate_keys d ≡ Some (data_in h)
  pub text : length h.text.now ≤ max_bytes
  pub devices : AreSignatures h.signatures.items

abbrev pub call_edge_data : CallEdge → Data
call_edge_data d = edge_data d.edge

-- what is seen with the program
pub record IsBodyOf (p : Program) (h : Head) (b : Body) : Type 0 where
  pub contexts_are : listed (map (listed_data p) b.contexts.items) ≡ view h.contexts.now
  pub contexts_right : AreRight (context_wrong p) (listed_data p) b.contexts.items
  pub contexts_have : AllByRecursion (HasOwnParts p) b.contexts.items
  pub edges_are : listed (map call_edge_data b.edges.items) ≡ view h.edges.now
  pub edges_right : AreRight (edge_wrong p (map (listed_data p) b.contexts.items)) call_edge_data
      b.edges.items
  pub visits_are : listed (map item_data b.visits.items) ≡ view h.visits.now

-- ---- what is told

-- a step with a point behind it
unfoldable pub stopped : Step → List ℕ
stopped step = step_text step ++ 46 ∷ []

-- of a wrong place
abbrev pub IsToldAs : Option Path → CertFault → Type 0
IsToldAs wrong fault.Json = ⊥
IsToldAs wrong (fault.Shape item) =
    (path : Path) × (wrong ≡ Some path) × (item.items ≡ item_text path)
IsToldAs wrong (fault.Load f) = ⊥
IsToldAs wrong fault.Memory = Unit {0}

-- of bytes that are no JSON
abbrev pub IsUnread : List ℕ → CertFault → Type 0
IsUnread bytes fault.Json = read bytes ≡ None
IsUnread bytes (fault.Shape item) = ⊥
IsUnread bytes (fault.Load f) = ⊥
IsUnread bytes fault.Memory = Unit {0}

-- of a text without a program
abbrev pub IsUnloaded : List ℕ → List Signature → CertFault → Type 0
IsUnloaded bytes signatures fault.Json = ⊥
IsUnloaded bytes signatures (fault.Shape item) = ⊥
IsUnloaded bytes signatures (fault.Load f) = HasNone bytes signatures f
IsUnloaded bytes signatures fault.Memory = Unit {0}
