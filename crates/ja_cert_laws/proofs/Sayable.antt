-- What a certificate can say of the parts of a table: of their shape, and of the profile.
use Rattle.std.proofs.Common.{◌≡◌, ℕ, Option, Some, None, ap}
use Rattle.std.specs.Prelude.{IfSome, IsTrue}
use Rattle.std.specs.Option.{option_map}
use Rattle.std.proofs.lemmas.Option.{same_Some}
use Rattle.ja_base.specs.declared.ids.Context.{Context}
use Rattle.ja_base.specs.declared.ids.Label.{Label}
use Rattle.ja_graph.specs.declared.program.Program.{Program}
use Rattle.ja_abstract.specs.declared.abstraction.Key.{Key}
use Rattle.ja_abstract.specs.AbstractValue.{AbstractValue, AbstractProperty}
use Rattle.ja_abstract.specs.AbstractState.{AbstractState}
use Rattle.ja_rows.specs.declared.table.Edge.{Edge}
use Rattle.ja_rows.specs.Table.{Table}
use Rattle.ja_cert_laws.specs.Back.{HasPart, IsCall, IsOfEntry, IsOfRegister, IsShaped, IsTableShaped}
use Rattle.ja_cert_read.specs.Said.{said_attrs, said_state, said_table}
use Rattle.ja_abstract.specs.Profile.{IsPropertyOfProfile, IsValueOfProfile, IsStateOfProfile}
use Rattle.ja_table.specs.Profile.{IsTableOfProfile}

pub record IsRegisterValue (v : AbstractValue) : Type 0 where
  pub shaped : IsOfRegister v
  pub profile : IsValueOfProfile v

pub record IsProperty (k : Key) (q : AbstractProperty) : Type 0 where
  pub profile : IsValueOfProfile q.value
  pub attrs : said_attrs k q.attrs ≡ q.attrs

pub record IsEntryProperty (q : AbstractProperty) : Type 0 where
  pub profile : IsValueOfProfile q.value
  pub entry : IsOfEntry q

pub record CanBeSaid (a : AbstractState) : Type 0 where
  pub registers : (r : ℕ) → IsRegisterValue (a.register r)
  pub properties : (l : Label) (k : Key) → IsProperty k (a.property l k)
  pub masks : (s : ℕ) → HasPart (a.mask s)

pub record IsSayable (p : Program) (t : Table) : Type 0 where
  pub states : (x : Context) (n : ℕ) → IfSome (t.state x n) CanBeSaid
  pub entries : (x : Context) (l : Label) (k : Key) → IfSome (t.entry x l k) IsEntryProperty
  pub edges : (e : Edge) → IsTrue (t.edge e) → IsCall p e

state_said : (p : Program) (a : AbstractState) → IsShaped a → IsStateOfProfile a
    → said_state p a ≡ a → CanBeSaid a
state_said p a f g said = record {
  registers = λ r. record { shaped = f.registers r; profile = g.registers r };
  properties = λ l k. record {
    profile = g.properties l k;
    attrs = ap (λ (b : AbstractState). (b.property l k).attrs) said;
  };
  masks = f.masks;
}

pub table_said : (p : Program) (t : Table) → IsTableShaped p t → IsTableOfProfile t
    → said_table p t ≡ t → IsSayable p t
table_said p t f g said = record {
  states = λ x n. state (t.state x n) (f.states x n) (g.states x n)
      (ap (λ (u : Table). u.state x n) said);
  entries = λ x l k. entry (t.entry x l k) (f.entries x l k) (g.entries x l k);
  edges = f.edges;
}
  where
    state : (o : Option AbstractState) → IfSome o IsShaped → IfSome o IsStateOfProfile
        → option_map (said_state p) o ≡ o → IfSome o CanBeSaid
    state None f g said = tt
    state (Some a) f g said = state_said p a f g (same_Some (said_state p a) a said)

    entry : (o : Option AbstractProperty) → IfSome o IsOfEntry → IfSome o IsPropertyOfProfile
        → IfSome o IsEntryProperty
    entry None f g = tt
    entry (Some q) f g = record { profile = g; entry = f }
