-- The mark of the byte order, in bytes and in characters.
use Rattle.std.proofs.Common.{◌≡◌, ◌≢◌, ℕ, Bool, true, false, ◌==◌, List, [], ◌∷◌, ◌++◌, drop, encode_utf8, refl, ap, sym, ◌∙◌}
use Rattle.std.specs.List.{starts_with}
use Rattle.std.specs.Prelude.{nat_eq}
use Rattle.std.specs.Str.{chars, IsUtf8}
use Rattle.std.proofs.lemmas.Bool.{eqb-true}
use Rattle.std.proofs.lemmas.Bool.Decides.{Decides-eqb}
use Rattle.std.proofs.lemmas.Str.{chars_past_char, encodes-chars}
use Rattle.std.proofs.lemmas.Slice.Eq.{starts_is}
use lib.Utf8.{encode, encodes}
use Rattle.ja_prim.specs.Characters.{char_at}
use Rattle.ja_files.specs.Files.{mark, unmarked_characters, unmarked_text}

mark_is : encode_utf8 0xFEFF ≡ mark
unfolding encode
mark_is = refl

with_mark : (rest : List ℕ) → unmarked_text (mark ++ rest) ≡ rest
with_mark rest = refl

module _ (text rest : List ℕ) (begins : text ≡ encode_utf8 0xFEFF ++ rest) where
  pub marked_bytes : rest ≡ unmarked_text text
  marked_bytes =
      sym (ap unmarked_text (begins ∙ ap (λ (front : List ℕ). front ++ rest) mark_is)
      ∙ with_mark rest)

  pub marked_characters : IsUtf8 text → chars rest ≡ unmarked_characters (chars text)
  marked_characters utf8 =
      sym (ap unmarked_characters (chars_past_char text rest 0xFEFF utf8 begins))

module _ (text : List ℕ) (none : (rest : List ℕ) → text ≢ encode_utf8 0xFEFF ++ rest) where
  unmarked_if : (b : Bool) → starts_with nat_eq text mark ≡ b → text ≡ unmarked_text text
  unmarked_if true begins =
      absurd (none (drop 3 text)
      ((starts_is Decides-eqb text mark (starts_with nat_eq text mark) refl).0 begins
      ∙ ap (λ (front : List ℕ). front ++ drop 3 text) (sym mark_is)))
  unmarked_if false other = rw other refl

  pub unmarked_bytes : text ≡ unmarked_text text
  unmarked_bytes = unmarked_if (starts_with nat_eq text mark) refl

  other_if : (cs : List ℕ) → encodes cs ≡ text → (b : Bool) → (char_at cs 0 == 0xFEFF) ≡ b
      → cs ≡ unmarked_characters cs
  other_if [] is b first = refl
  other_if (c ∷ cs) is true first =
      absurd (none (encodes cs)
      (sym is ∙ ap (λ (d : ℕ). encode_utf8 d ++ encodes cs) (eqb-true c 0xFEFF first)))
  other_if (c ∷ cs) is false first = rw first refl

  pub other_characters : IsUtf8 text → chars text ≡ unmarked_characters (chars text)
  other_characters utf8 =
      other_if (chars text) (encodes-chars text utf8) (char_at (chars text) 0 == 0xFEFF) refl
