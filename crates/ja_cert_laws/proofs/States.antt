-- States that are written the same say the same.
use Rattle.std.proofs.Common.{◌≡◌, ◌≤◌, ℕ, Bool, true, false, ◌&&◌, length, get_or, refl, sym, ap, ◌∙◌}
use Rattle.std.specs.Prelude.{nat_lt}
use Rattle.std.proofs.lemmas.Bool.{and_parts, ltb-false, ltb-true}
use Rattle.serde_json.specs.Data.{null}
use Rattle.ja_base.specs.declared.ids.FnId.{FnId}
use Rattle.ja_base.specs.declared.ids.Label.{Label}
use Rattle.ja_graph.specs.declared.program.Program.{Program}
use Rattle.ja_machine.specs.Frames.{registers_of}
use Rattle.ja_abstract.specs.declared.abstraction.Key.{Key}
use Rattle.ja_abstract.specs.AbstractValue.{undefined_value}
use Rattle.ja_abstract.specs.AbstractState.{AbstractState, is_key, is_label}
use Rattle.ja_abstract.specs.InProgram.{IsInProgram}
use Rattle.ja_cert.specs.Certificate.{state_data}
use Rattle.ja_cert_read.specs.Said.{said_property, said_state, said_value}
use Rattle.ja_cert_laws.proofs.Members.{fields_in}
use Rattle.ja_cert_laws.proofs.Properties.{masks_same, properties_same}
use Rattle.ja_abstract.specs.Profile.{IsStateOfProfile}
use Rattle.ja_cert_laws.proofs.Registers.{registers_same}

-- a state of a function: registers past the last are undefined, and it speaks of the program alone
pub record IsOfFunction (p : Program) (f : FnId) (a : AbstractState) : Type 0 where
  pub registers : (r : ℕ) → registers_of p f ≤ r → a.register r ≡ undefined_value
  pub in_program : IsInProgram p a

module _ (p : Program) (f : FnId) (n : ℕ) (a b : AbstractState) (of : IsOfFunction p f a)
    (too : IsOfFunction p f b) (profile : IsStateOfProfile a) (also : IsStateOfProfile b)
    (same : state_data p f n a ≡ state_data p f n b) where
  field_same : (i : ℕ) → get_or (fields_in (state_data p f n a)) i null
      ≡ get_or (fields_in (state_data p f n b)) i null
  field_same i = ap (λ d. get_or (fields_in d) i null) same

  register_at : (r : ℕ) (t : Bool) → nat_lt r (registers_of p f) ≡ t
      → said_value p (a.register r) ≡ said_value p (b.register r)
  unfolding state_data
  register_at r true within =
      registers_same p f a b r (ltb-true r (registers_of p f) within) (profile.registers r)
      (also.registers r) (field_same 3)
  register_at r false past =
      let out = ltb-false r (registers_of p f) past in
      ap (said_value p) (of.registers r out ∙ sym (too.registers r out))

  property_at : (l : Label) (k : Key) (t : Bool) → (is_label p l && is_key p k) ≡ t
      → said_property p k (a.property l k) ≡ said_property p k (b.property l k)
  unfolding state_data
  property_at l k true within =
      let parts = and_parts (is_label p l) (is_key p k) within in
      properties_same p a b l k parts.0 parts.1 (profile.properties l k) (also.properties l k)
      (field_same 1)
  property_at l k false past =
      ap (said_property p k)
      (of.in_program.properties l k past ∙ sym (too.in_program.properties l k past))

  mask_at : (s : ℕ) (t : Bool) → nat_lt s (length p.sites) ≡ t → a.mask s ≡ b.mask s
  unfolding state_data
  mask_at s true within =
      masks_same p a b s (ltb-true s (length p.sites) within) (field_same 0)
  mask_at s false past =
      let out = ltb-false s (length p.sites) past in
      of.in_program.masks s out ∙ sym (too.in_program.masks s out)

  pub state_same : said_state p a ≡ said_state p b
  state_same = λ i. record {
    register = λ r. register_at r (nat_lt r (registers_of p f)) refl i;
    property = λ l k. property_at l k (is_label p l && is_key p k) refl i;
    mask = λ s. mask_at s (nat_lt s (length p.sites)) refl i;
  }
