-- A name that needs no quotes is written as it is.
use Rattle.std.proofs.Common.{◌≡◌, ℕ, Bool, true, false, ◌&&◌, List, [], ◌∷◌, ◌++◌, refl, ap, ◌∙◌, arith}
use Rattle.std.specs.List.{flat_map, list_all}
use Rattle.std.specs.Prelude.{not, slice_get}
use Rattle.std.specs.Option.{option_map_or}
use Rattle.std.proofs.lemmas.Bool.{false≢true}
use Rattle.std.proofs.lemmas.Bool.Decides.{nat_tests}
use Rattle.ja_prim.specs.Characters.{is_digit}
use Rattle.ja_report.specs.Texts.{is_name_unit, is_bare, name_text}
use Rattle.ja_texts.specs.Texts.{unit_text, units_text}

both : (a b : Bool) → a && b ≡ true → (a ≡ true) × (b ≡ true)
both true b e = (refl, e)
both false b e = absurd (false≢true e)

name_unit : (u : ℕ) → is_name_unit u ≡ true → unit_text u ≡ u ∷ []
name_unit u e = grind (arith, nat_tests)

name_units : (t : List ℕ) → list_all is_name_unit t ≡ true → flat_map unit_text t ≡ t
name_units [] e = refl
name_units (u ∷ us) e =
    let parts : (is_name_unit u ≡ true) × (list_all is_name_unit us ≡ true) = both (is_name_unit u)
    (list_all is_name_unit us) e in
    ap (λ (l : List ℕ). l ++ flat_map unit_text us) (name_unit u parts.0)
    ∙ ap (λ (l : List ℕ). u ∷ l) (name_units us parts.1)

bare_units : (t : List ℕ) → is_bare t ≡ true → units_text t ≡ t
unfolding is_bare units_text
bare_units t e =
    name_units t (both (option_map_or (λ (c : ℕ). not (is_digit c)) (slice_get t 0) false)
    (list_all is_name_unit t) e).1

pub bare_text : (t : List ℕ) → is_bare t ≡ true → units_text t ≡ name_text t
unfolding name_text
bare_text t e = rw e (bare_units t e)
