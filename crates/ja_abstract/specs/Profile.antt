-- Values, properties and states of which each number and each text is one of the profile.
use Rattle.std.specs.Prelude.{◌≡◌, ◌≤◌, ◌≤ℤ◌, ℕ, ℤ, pos, neg_ℤ, Bool, nat_lt, IsTrue, List, length}
use Rattle.std.specs.List.{list_all}
use Rattle.ja_base.specs.declared.ids.Label.{Label}
use Rattle.ja_prim.specs.Judged.{max_magnitude}
use Rattle.ja_prim.specs.Texts.{max_units}
use Rattle.ja_abstract.specs.declared.abstraction.Key.{Key}
use Rattle.ja_abstract.specs.declared.abstraction.NumberPart.TheVariants as number_part
use Rattle.ja_abstract.specs.declared.abstraction.TextPart.TheVariants as text_part
use Rattle.ja_abstract.specs.AbstractValue.{AbstractValue, AbstractProperty}
use Rattle.ja_abstract.specs.AbstractState.{AbstractState}

-- a whole number of the profile
pub record IsNumberOfProfile (z : ℤ) : Type 0 where
  pub low : neg_ℤ (pos max_magnitude) ≤ℤ z
  pub high : z ≤ℤ pos max_magnitude

-- a unit of a text has 16 bits
abbrev pub is_unit : ℕ → Bool
is_unit u = nat_lt u 65536

-- a text of the profile
pub record IsTextOfProfile (t : List ℕ) : Type 0 where
  pub few : length t ≤ max_units
  pub units : IsTrue (list_all is_unit t)

-- the one number and the one text that a value may be are of the profile
pub record IsValueOfProfile (v : AbstractValue) : Type 0 where
  pub number : (z : ℤ) → v.number ≡ number_part.One z → IsNumberOfProfile z
  pub text : (t : List ℕ) → v.text ≡ text_part.One t → IsTextOfProfile t

abbrev pub IsPropertyOfProfile : AbstractProperty → Type 0
IsPropertyOfProfile q = IsValueOfProfile q.value

pub record IsStateOfProfile (a : AbstractState) : Type 0 where
  pub registers : (r : ℕ) → IsValueOfProfile (a.register r)
  pub properties : (l : Label) (k : Key) → IsPropertyOfProfile (a.property l k)
