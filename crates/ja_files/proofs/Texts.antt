-- What is added to the one text, file by file.
use Rattle.std.proofs.Common.{◌≡◌, ℕ, ◌+◌, ◌<◌, ◌≤◌, List, [], ◌∷◌, ◌++◌, get_or, length, map, take, ap, sym, ◌∙◌, append_assoc}
use Rattle.std.specs.List.{flat_map}
use Rattle.std.specs.Prelude.{String}
use Rattle.std.specs.Str.{chars}
use Rattle.std.specs.String.{string_bytes}
use Rattle.std.proofs.lemmas.List.{flat_map_more, map-append, nil_from_length, take_all, take_more}
use Rattle.std.proofs.lemmas.Str.{IsUtf8-string_bytes, chars-append}
use Rattle.ja_files.specs.Files.{behind_separator, joined_text, separator}

module _ {Z : Type 0} where
  pub next_characters : (s t u : String Z) (text : List ℕ)
      → string_bytes t ≡ string_bytes s ++ separator → string_bytes u ≡ string_bytes t ++ text
      → chars (string_bytes u) ≡ chars (string_bytes s) ++ behind_separator (chars text)
  unfolding chars
  next_characters s t u text one two =
      ap chars two ∙ chars-append (string_bytes t) text (IsUtf8-string_bytes t)
      ∙ ap (λ (cs : List ℕ). cs ++ chars text)
      (ap chars one ∙ chars-append (string_bytes s) separator (IsUtf8-string_bytes s))
      ∙ append_assoc (chars (string_bytes s)) separator (chars text)

-- one file more
pub joined_more : {X : Type 0} (g : X → List ℕ) (base now next : List ℕ) (files : List X) (i : ℕ)
    (d : X) → now ≡ base ++ flat_map behind_separator (map g (take i files))
    → i < length files → next ≡ now ++ behind_separator (g (get_or files i d))
    → next ≡ base ++ flat_map behind_separator (map g (take (i + 1) files))
joined_more g base now next files i d was inside step =
    let file = get_or files i d in
    step ∙ ap (λ (l : List ℕ). l ++ behind_separator (g file)) was
    ∙ flat_map_more behind_separator base (map g (take i files)) (g file)
    ∙ ap (λ (l : List (List ℕ)). base ++ flat_map behind_separator l)
    (sym (map-append g (take i files) (file ∷ [])))
    ∙ ap (λ (l : List _). base ++ flat_map behind_separator (map g l))
    (sym (take_more files i d inside))

pub joined_all : {X : Type 0} (g : X → List ℕ) (base now : List ℕ) (files : List X) (i : ℕ)
    → now ≡ base ++ flat_map behind_separator (map g (take i files)) → length files ≤ i
    → now ≡ base ++ flat_map behind_separator (map g files)
joined_all g base now files i was past =
    was
    ∙ ap (λ (l : List _). base ++ flat_map behind_separator (map g l)) (take_all i files past)

-- the first file, and the others
pub joined_whole : {X : Type 0} (g : X → List ℕ) (start now whole : List ℕ) (files : List X)
    (file : X) (others : List X) → start ≡ [] → now ≡ start ++ g file
    → whole ≡ now ++ flat_map behind_separator (map g others) → files ≡ file ∷ others
    → whole ≡ joined_text (map g files)
unfolding joined_text
joined_whole g start now whole files file others none first rest is =
    rest
    ∙ ap (λ (l : List ℕ). l ++ flat_map behind_separator (map g others))
    (first ∙ ap (λ (l : List ℕ). l ++ g file) none)
    ∙ ap (λ (l : List _). joined_text (map g l)) (sym is)

pub joined_none : {X : Type 0} (g : X → List ℕ) (start : List ℕ) (files : List X) → start ≡ []
    → length files ≡ 0 → start ≡ joined_text (map g files)
unfolding joined_text
joined_none g start files none empty =
    none ∙ ap (λ (l : List _). joined_text (map g l)) (sym (nil_from_length files empty))
