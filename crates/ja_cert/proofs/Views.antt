-- Values that are added one after another.
use Rattle.std.proofs.Common.{◌≡◌, ℕ, ◌+◌, ◌<◌, ◌≤◌, List, [], ◌∷◌, ◌++◌, map, take, length, get_or, ap, sym, ◌∙◌, append_assoc}
use Rattle.std.proofs.lemmas.List.{map-append, take_more, take_all}
use Rattle.serde_json.specs.Data.{Data, string}
use Rattle.serde_json.specs.View.{view}
use Rattle.serde_json.specs.declared.value.Value.{Value}
use Rattle.ja_base.specs.declared.ids.Label.{Label}
use Rattle.ja_cert.specs.Certificate.{label_data}

pub one_more : (old new : List Value) (v : Value) (d : Data) → new ≡ old ++ v ∷ [] → view v ≡ d
    → map view new ≡ map view old ++ d ∷ []
one_more old new v d step is =
    ap (map view) step ∙ map-append view old (v ∷ [])
    ∙ ap (λ (e : Data). map view old ++ e ∷ []) is

pub words_more : (base now next : List Data) (xs ys : List (List ℕ)) → now ≡ base ++ map string xs
    → next ≡ now ++ map string ys → next ≡ base ++ map string (xs ++ ys)
words_more base now next xs ys was step =
    step ∙ ap (λ (l : List Data). l ++ map string ys) was
    ∙ append_assoc base (map string xs) (map string ys)
    ∙ ap (λ (l : List Data). base ++ l) (sym (map-append string xs ys))

-- labels of a list
pub labels_more : (base : List Data) (old new : List Value) (v : Value) (ls : List Label) (i : ℕ)
    (d : Label) → map view old ≡ base ++ map label_data (take i ls) → i < length ls
    → new ≡ old ++ v ∷ [] → view v ≡ label_data (get_or ls i d)
    → map view new ≡ base ++ map label_data (take (i + 1) ls)
labels_more base old new v ls i d was inside step is =
    let l : Label = get_or ls i d in
    one_more old new v (label_data l) step is
    ∙ ap (λ (xs : List Data). xs ++ label_data l ∷ []) was
    ∙ append_assoc base (map label_data (take i ls)) (label_data l ∷ [])
    ∙ ap (λ (xs : List Data). base ++ xs) (sym (ap (map label_data) (take_more ls i d inside)
    ∙ map-append label_data (take i ls) (l ∷ [])))

pub labels_all : (base now : List Data) (ls : List Label) (i : ℕ)
    → now ≡ base ++ map label_data (take i ls) → length ls ≤ i → now ≡ base ++ map label_data ls
labels_all base now ls i was past =
    was ∙ ap (λ (xs : List Label). base ++ map label_data xs) (take_all i ls past)

-- the parts of a value, one behind the other
pub parts_written : (a b c d e labels : List Data) (flags number text : List (List ℕ)) → a ≡ []
    → b ≡ a ++ map string flags → c ≡ b ++ map string number → d ≡ c ++ map string text
    → e ≡ d ++ labels → e ≡ map string (flags ++ number ++ text) ++ labels
parts_written a b c d e labels flags number text none first second third last =
    let flagged : b ≡ [] ++ map string flags =
    first ∙ ap (λ (l : List Data). l ++ map string flags) none in
    let words : d ≡ [] ++ map string (flags ++ number ++ text) =
    words_more [] c d (flags ++ number) text
    (words_more [] b c flags number flagged second) third in
    last ∙ ap (λ (l : List Data). l ++ labels) words
