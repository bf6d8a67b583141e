-- The numbers of registers, and the labels of a program in their order.
use Rattle.std.specs.Prelude.{◌≡◌, ◌↔◌, ◌<◌, ◌+◌, ◌*◌, ◌++◌, ◌∷◌, [], ℕ, zero, suc, Bool, true, false, if◌then◌else◌, IsTrue, length, map, slice_get, Some, unwrap_or}
use Rattle.std.specs.List.{flat_map, range_with_len}
use Rattle.std.proofs.Common.{refl, ap, ◌∙◌, arith}
use Rattle.ja_base.specs.declared.ids.Label.{Label}
use Rattle.ja_graph.specs.declared.program.Program.{Program}
use Rattle.ja_abstract.specs.declared.abstraction.Key.{Key}
use Rattle.ja_abstract.specs.AbstractValue.{same_label, undefined_value}
use Rattle.ja_abstract.specs.AbstractState.{label_number, labels_of, site_of, same_key}
use Rattle.ja_machine.specs.Frames.{parameters_of}
use Rattle.ja_machine.specs.Machine.{program_function}
use Rattle.ja_rows.specs.Table.{no_arguments, opening_state}
use Rattle.ja_abstract.proofs.Keys.{same_key-true, same_key_from}
use Rattle.ja_abstract.proofs.Labels.{same_label-true, same_label_from, site_labels}

-- ---- registers

-- where no argument is given, all registers behind those that each function has are undefined
behind : (parameters a i : ℕ)
    → unwrap_or (slice_get (map no_arguments.parameter (range_with_len a parameters)
    ++ no_arguments.rest ∷ []) i) undefined_value ≡ undefined_value
behind zero a zero = refl
behind zero a (suc i) = refl
behind (suc parameters) a zero = refl
behind (suc parameters) a (suc i) = behind parameters (a + 1) i

pub behind_fixed : (p : Program) (i : ℕ) → (opening_state p).register (5 + i) ≡ undefined_value
behind_fixed p i =
    let e : 5 + i ≡ suc (suc (suc (suc (suc i)))) = omega arith in
    ap (λ r. (opening_state p).register r) e ∙ behind (parameters_of p program_function) 0 i

-- ---- labels

abbrev label_at : ℕ → Bool → Label
label_at s old = record { site = site_of s; old = old }

at_number : (a n i : ℕ) (old : Bool) → i < n
    → slice_get (flat_map site_labels (range_with_len a n)) (2 * i + (if old then 1 else 0))
    ≡ Some (label_at (a + i) old)
at_number a zero i old h = absurd (omega arith)
at_number a (suc n) zero true h =
    let e : a ≡ a + 0 = omega arith in
    ap (λ s. Some (label_at s true)) e
at_number a (suc n) zero false h =
    let e : a ≡ a + 0 = omega arith in
    ap (λ s. Some (label_at s false)) e
at_number a (suc n) (suc i) old h =
    let bit : ℕ = if old then 1 else 0 in
    let e : 2 * suc i + bit ≡ suc (suc (2 * i + bit)) = omega arith in
    let s : (a + 1) + i ≡ a + suc i = omega arith in
    ap (slice_get (flat_map site_labels (range_with_len a (suc n)))) e
    ∙ (at_number (a + 1) n i old (omega arith) ∙ ap (λ m. Some (label_at m old)) s)

pub labels_in_order : (p : Program) (l : Label) → l.site.0 < length p.sites
    → slice_get (labels_of p) (label_number l) ≡ Some l
labels_in_order p l h =
    let s : 0 + l.site.0 ≡ l.site.0 = omega arith in
    at_number 0 (length p.sites) l.site.0 l.old h ∙ ap (λ m. Some (label_at m l.old)) s

two_each : (a n : ℕ) → length (flat_map site_labels (range_with_len a n)) ≡ 2 * n
two_each a zero = refl
two_each a (suc n) = let more = two_each (a + 1) n in
    omega (arith, more)

pub two_of_each : (p : Program) → length (labels_of p) ≡ 2 * length p.sites
two_of_each p = two_each 0 (length p.sites)

-- ---- tests

pub labels_told : (l m : Label) → IsTrue (same_label l m) ↔ (l ≡ m)
labels_told l m = (same_label-true l m, same_label_from l m)

pub keys_told : (j k : Key) → IsTrue (same_key j k) ↔ (j ≡ k)
keys_told j k = (same_key-true j k, same_key_from j k)
