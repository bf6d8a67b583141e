-- Registers that are written the same say the same.
use Rattle.std.proofs.Common.{◌≡◌, ◌<◌, ℕ, Bool, true, false, cond, List, [], ◌∷◌, map, length, get_or, refl, sym, ap, ◌∙◌, arith}
use Rattle.std.specs.List.{flat_map, AllByRecursion, range_with_len}
use Rattle.serde_json.specs.Data.{Data, null}
use Rattle.ja_base.specs.declared.ids.FnId.{FnId}
use Rattle.ja_graph.specs.declared.program.Program.{Program}
use Rattle.ja_machine.specs.Frames.{parameters_of, registers_of}
use Rattle.ja_abstract.specs.declared.abstraction.Flags.{Flags}
use Rattle.ja_abstract.specs.AbstractValue.{AbstractValue}
use Rattle.ja_abstract.specs.AbstractState.{AbstractState}
use Rattle.ja_abstract.specs.Lists.{Member}
use Rattle.ja_table.proofs.Ascending.{number_listed, of_each}
use Rattle.ja_report.specs.Lines.{is_undefined, register, register_line, register_lines}
use Rattle.ja_cert.specs.Certificate.{line_data, lines_data}
use Rattle.ja_cert.specs.Wrong.{first_number}
use Rattle.ja_cert_read.specs.Said.{said_value}
use Rattle.ja_cert_laws.proofs.Members.{data_in, list_same}
use Rattle.ja_cert_laws.proofs.Picked.{same_at, AreAt, IsAt}
use Rattle.ja_abstract.specs.Profile.{IsValueOfProfile}
use Rattle.ja_cert_laws.proofs.Values.{kept_same, value_same}
use Rattle.ja_cert_read.proofs.Listing.{map_flat_map}
use Rattle.ja_cert_read.proofs.Pairs.{number_rank, numbers_ascend}
use Rattle.ja_cert_read.proofs.Plain.{only_undefined, HasOnly}

pub said_only : (p : Program) (v w : AbstractValue) (f : Flags) → HasOnly p v f → HasOnly p w f
    → said_value p v ≡ said_value p w
said_only p v w f h k =
    let labels = h.labels ∙ sym k.labels in
    λ i. record {
      flags = (h.flags ∙ sym k.flags) i;
      number = (h.number ∙ sym k.number) i;
      text = (h.text ∙ sym k.text) i;
      label = λ l. kept_same p v.label w.label l labels i;
    }

module _ (p : Program) (parameters : ℕ) where
  unfoldable pub register_data : ℕ → AbstractValue → List Data
  register_data r v = map (line_data p) (register_line p parameters r v)

  pub register_placed : (r : ℕ) (v : AbstractValue)
      → AllByRecursion (IsAt number_rank first_number r) (register_data r v)
  unfolding register_data register_line line_data
  register_placed r v = by_test (is_undefined p v)
    where
      by_test : (b : Bool) → AllByRecursion (IsAt number_rank first_number r)
          (map (line_data p) (cond b [] (register parameters r v ∷ [])))
      by_test true = tt
      by_test false = (refl, tt)

  register_same : (r : ℕ) (v w : AbstractValue) → IsValueOfProfile v → IsValueOfProfile w
      → register_data r v ≡ register_data r w → said_value p v ≡ said_value p w
  unfolding register_data register_line line_data
  register_same r v w h k = by_test (is_undefined p v) (is_undefined p w) refl refl
    where
      by_test : (b c : Bool) → is_undefined p v ≡ b → is_undefined p w ≡ c
          → map (line_data p) (cond b [] (register parameters r v ∷ []))
          ≡ map (line_data p) (cond c [] (register parameters r w ∷ []))
          → said_value p v ≡ said_value p w
      by_test true true is also same =
          said_only p v w _ (only_undefined p v is) (only_undefined p w also)
      by_test true false is also same = absurd (omega (arith, ap length same))
      by_test false true is also same = absurd (omega (arith, ap length same))
      by_test false false is also same =
          value_same p v w h k (ap (λ ds. get_or (data_in (get_or ds 0 null)) 1 null) same)

module _ (p : Program) (f : FnId) (a : AbstractState) where
  abbrev parameters : ℕ
  parameters = parameters_of p f

  unfoldable pub at_register : ℕ → List Data
  at_register r = register_data p parameters r (a.register r)

  pub registers_are : map (line_data p) (register_lines p f a)
      ≡ flat_map at_register (range_with_len 0 (registers_of p f))
  unfolding register_lines at_register register_data
  registers_are =
      map_flat_map (line_data p) (λ (r : ℕ). register_line p parameters r (a.register r))
      (range_with_len 0 (registers_of p f))

pub registers_same : (p : Program) (f : FnId) (a b : AbstractState) (r : ℕ) → r < registers_of p f
    → IsValueOfProfile (a.register r) → IsValueOfProfile (b.register r)
    → lines_data p (register_lines p f a) ≡ lines_data p (register_lines p f b)
    → said_value p (a.register r) ≡ said_value p (b.register r)
unfolding at_register
registers_same p f a b r within profile also same =
    let count : ℕ = registers_of p f in
    let places : List ℕ = range_with_len 0 count in
    let there : Member r places = number_listed count r within in
    let g : ℕ → List Data = at_register p f a in
    let h : ℕ → List Data = at_register p f b in
    let placed : (c : AbstractState) → AreAt number_rank first_number (at_register p f c) places =
    λ c. of_each _ places (λ s m. register_placed p (parameters_of p f) s (c.register s)) in
    register_same p (parameters_of p f) r (a.register r) (b.register r) profile also
    (same_at number_rank first_number g h places r (numbers_ascend count) (placed a) (placed b)
    there (sym (registers_are p f a) ∙ list_same _ _ same ∙ registers_are p f b))
