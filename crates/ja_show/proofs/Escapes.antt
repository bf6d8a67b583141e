-- A text in HTML has none of the characters that begin or end tags and attributes.
use Rattle.std.proofs.Common.{◌≡◌, ◌≢◌, ℕ, Bool, true, false, not, ◌&&◌, ◌==◌, List, [], ◌∷◌, codes, refl}
use Rattle.std.proofs.lemmas.Bool.{and_parts, eqb-false, not-true}
use Rattle.std.specs.List.{AllByRecursion, flat_map, list_all}
use Rattle.ja_base.proofs.Lists.{all_append}
use Rattle.ja_show.specs.Page.{escaped, escaped_byte}

abbrev pub IsPlain : ℕ → Type 0
IsPlain b = (b ≢ 60) × (b ≢ 62) × (b ≢ 34)

is_plain : ℕ → Bool
is_plain b = not (b == 60) && not (b == 62) && not (b == 34)

plain_by_test : (b : ℕ) → is_plain b ≡ true → IsPlain b
unfolding is_plain
plain_by_test b h =
    let p : ((not (b == 60) && not (b == 62)) ≡ true) × (not (b == 34) ≡ true) =
    and_parts (not (b == 60) && not (b == 62)) (not (b == 34)) h in
    let q : (not (b == 60) ≡ true) × (not (b == 62) ≡ true) =
    and_parts (not (b == 60)) (not (b == 62)) p.0 in (
      eqb-false b 60 (not-true (b == 60) q.0),
      eqb-false b 62 (not-true (b == 62) q.1),
      eqb-false b 34 (not-true (b == 34) p.1),
    )

all_by_test : (bs : List ℕ) → list_all is_plain bs ≡ true → AllByRecursion IsPlain bs
all_by_test [] h = tt
all_by_test (b ∷ bs) h =
    let p : (is_plain b ≡ true) × (list_all is_plain bs ≡ true) =
    and_parts (is_plain b) (list_all is_plain bs) h in
    (plain_by_test b p.0, all_by_test bs p.1)

byte_plain : (b : ℕ) → AllByRecursion IsPlain (escaped_byte b)
unfolding is_plain
byte_plain b = go (b == 38) (b == 60) (b == 62) (b == 34) refl refl refl refl
  where
    go : (e f g h : Bool) → (b == 38) ≡ e → (b == 60) ≡ f → (b == 62) ≡ g → (b == 34) ≡ h
        → AllByRecursion IsPlain (escaped_byte b)
    go true f g h one two three four = rw one (all_by_test (codes "&amp;") refl)
    go false true g h one two three four = rw (one, two) (all_by_test (codes "&lt;") refl)
    go false false true h one two three four =
        rw (one, two, three) (all_by_test (codes "&gt;") refl)
    go false false false true one two three four =
        rw (one, two, three, four) (all_by_test (codes "&quot;") refl)
    go false false false false one two three four =
        rw (one, two, three, four) (
          (
            eqb-false b 60 two,
            eqb-false b 62 three,
            eqb-false b 34 four,
          ),
          tt,
        )

pub escaped_plain : (bytes : List ℕ) → AllByRecursion IsPlain (escaped bytes)
unfolding escaped
escaped_plain [] = tt
escaped_plain (b ∷ bs) =
    all_append IsPlain (escaped_byte b) (flat_map escaped_byte bs) (byte_plain b)
    (escaped_plain bs)
