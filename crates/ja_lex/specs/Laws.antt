-- What the definition of tokens comes to: lists that end once, and longest matches.
use Rattle.std.specs.Prelude.{◌≡◌, ◌⊎◌, ◌≤◌, ℕ, true, false, List, [], ◌∷◌, ◌++◌, length}
use Rattle.std.specs.List.{list_all, Contains}
use Rattle.ja_lex.specs.declared.token.Token.{Token}
use Rattle.ja_prim.specs.Characters.{is_digit}
use Rattle.ja_prim.specs.Numerals.{is_sign, is_exponent_letter}
use Rattle.ja_lex.specs.Marks.{marks}
use Rattle.ja_lex.specs.Tokens.{is_last}

-- there is a last token, the end or a refusal, and no other token is one
abbrev pub IsEnded : List Token → Type 0
IsEnded [] = ⊥
IsEnded (t ∷ []) = is_last t.kind ≡ true
IsEnded (t ∷ u ∷ ts) = (is_last t.kind ≡ false) × IsEnded (u ∷ ts)

-- the spans stand one behind the other, between two offsets
abbrev pub AreInOrder : ℕ → ℕ → List Token → Type 0
AreInOrder from to [] = from ≤ to
AreInOrder from to (t ∷ ts) = (from ≤ t.start) × (t.start ≤ t.end) × AreInOrder t.end to ts

-- m is a mark that the text begins with, and no mark that it begins with is longer
pub record IsLongestMark (text m : List ℕ) : Type 0 where
  pub among : Contains marks m
  pub rest : List ℕ
  pub begins : text ≡ m ++ rest
  pub longest : (other behind : List ℕ) → Contains marks other → text ≡ other ++ behind
      → length other ≤ length m

-- nothing, or a point and digits
abbrev pub IsFraction : List ℕ → Type 0
IsFraction [] = Unit {0}
IsFraction (c ∷ ds) = (c ≡ 46) × (list_all is_digit ds ≡ true)

-- nothing, a plus or a minus
abbrev pub IsSign : List ℕ → Type 0
IsSign [] = Unit {0}
IsSign (c ∷ cs) = (is_sign c ≡ true) × (cs ≡ [])

-- an exponent: `e` or `E`, a sign or none, and digits
pub record IsExponent (w : List ℕ) : Type 0 where
  pub letter : ℕ
  pub sign : List ℕ
  pub first : ℕ
  pub others : List ℕ
  pub split : w ≡ letter ∷ (sign ++ first ∷ others)
  pub is_letter : is_exponent_letter letter ≡ true
  pub is_sign : IsSign sign
  pub first_digit : is_digit first ≡ true
  pub other_digits : list_all is_digit others ≡ true

-- a decimal literal (7.8.3): digits, a fraction or none, and an exponent or none, with a digit
-- before the exponent
pub record IsDecimal (w : List ℕ) : Type 0 where
  pub whole : List ℕ
  pub point : List ℕ
  pub power : List ℕ
  pub split : w ≡ whole ++ (point ++ power)
  pub whole_digits : list_all is_digit whole ≡ true
  pub is_fraction : IsFraction point
  pub has_digit : (1 ≤ length whole) ⊎ (2 ≤ length point)
  pub is_power : (power ≡ []) ⊎ IsExponent power
