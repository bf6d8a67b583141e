-- Values as they are kept are of the profile.
use Rattle.std.specs.Prelude.{◌≡◌, ℕ, suc, IsTrue, List, [], ◌∷◌, get_or}
use Rattle.std.specs.List.{list_all}
use Rattle.std.proofs.Common.{refl, Fits, w16, arith}
use Rattle.std.proofs.lemmas.Bool.{and_from, lt-ltb}
use Rattle.ja_abstract.specs.declared.abstraction.Flags.{Flags}
use Rattle.ja_abstract.specs.declared.abstraction.NumberPart.TheVariants as number_part
use Rattle.ja_abstract.specs.declared.abstraction.TextPart.TheVariants as text_part
use Rattle.ja_abstract.specs.AbstractValue.{of_flags}
use Rattle.ja_abstract.specs.Profile.{is_unit, IsPropertyOfProfile, IsValueOfProfile}
use Rattle.ja_value.specs.declared.property.AProp.{AProp}
use Rattle.ja_value.specs.declared.value.AValue.{AValue}
use Rattle.ja_value.specs.Value.{property_of, value_of}

-- units as they are kept have 16 bits
pub all_units : (t : List ℕ) → ((i : ℕ) → Fits w16 (get_or t i 0)) → IsTrue (list_all is_unit t)
all_units [] fits = refl
all_units (u ∷ t) fits =
    let first : Fits w16 u = fits 0 in
    let rest : (i : ℕ) → Fits w16 (get_or t i 0) = λ i. fits (suc i) in
    and_from (is_unit u) (list_all is_unit t) (lt-ltb u 65536 (omega (arith, first)))
    (all_units t rest)

pub value_of_profile : (v : AValue) → IsValueOfProfile (value_of v)
value_of_profile v = record { number = v.number_of_profile; text = v.text_of_profile }

pub property_of_profile : (q : AProp) → IsPropertyOfProfile (property_of q)
property_of_profile q = value_of_profile q.value

-- a value without a number and a text
pub flags_of_profile : (f : Flags) → IsValueOfProfile (of_flags f)
flags_of_profile f =
    record {
      number = λ z e. let clash : number_part.Nothing ≡ number_part.One z = e in absurd (cc);
      text = λ t e. let clash : text_part.Nothing ≡ text_part.One t = e in absurd (cc);
    }
