-- Look-ups in a table that is cut by the length of its texts.
use Rattle.std.proofs.Common.{◌≡◌, ℕ, Bool, true, false, eqb, List, [], ◌∷◌, length, refl, ap}
use Rattle.std.specs.Str.{bytes_eq}
use Rattle.std.proofs.lemmas.Slice.Eq.{bytes_eq-Decides}
use Rattle.std.proofs.lemmas.Bool.Decides.{Decides-eqb}
use Rattle.ja_syntax.specs.Lookups.{lookup}
use Rattle.ja_syntax.specs.code.Lookups.{of_length}

-- texts of different lengths aren't the same
other_length : (xs ys : List ℕ) → (length xs ≡ length ys → ⊥) → bytes_eq xs ys ≡ false
other_length xs ys h = go (bytes_eq xs ys) refl where
  go : (b : Bool) → bytes_eq xs ys ≡ b → bytes_eq xs ys ≡ false
  go true e = absurd (h (ap length ((bytes_eq-Decides xs ys).0 e)))
  go false e = e

lookup_more : {A : Type 0} (entry : List ℕ × A) (entries : List (List ℕ × A)) (text : List ℕ)
    → lookup (of_length (length text) entries) text ≡ lookup entries text
    → lookup (of_length (length text) (entry ∷ entries)) text ≡ lookup (entry ∷ entries) text
lookup_more {A = A} entry entries text h = go (eqb (length entry.0) (length text)) refl where
  go : (b : Bool) → eqb (length entry.0) (length text) ≡ b
      → lookup (of_length (length text) (entry ∷ entries)) text ≡ lookup (entry ∷ entries) text
  go true e = rw e (rw h refl)
  go false e =
      rw e (rw (other_length entry.0 text (λ same.
      cc (e, (Decides-eqb (length entry.0) (length text)).1 same))) h)

pub lookup_of_length : {A : Type 0} (table : List (List ℕ × A)) (text : List ℕ)
    → lookup (of_length (length text) table) text ≡ lookup table text
lookup_of_length [] text = refl
lookup_of_length (entry ∷ entries) text =
    lookup_more entry entries text (lookup_of_length entries text)
