-- The test of equal texts.
use Rattle.std.proofs.Common.{◌≡◌, ℕ, true, List, sym}
use Rattle.std.specs.Cmp.Lexicographic.{same_text as text_is}
use Rattle.std.proofs.lemmas.Cmp.{nat_list_eq_equiv}
use Rattle.ja_prim.specs.Texts.{same_text}

-- ---- a write to a property

-- texts are equal that the test calls the same
pub text_same : (t u : List ℕ) → same_text t u ≡ true → t ≡ u
text_same t u e = text_is t u (sym e)

-- a text is the same as itself
pub same_text_refl : (t : List ℕ) → same_text t t ≡ true
same_text_refl t = nat_list_eq_equiv.refl t
