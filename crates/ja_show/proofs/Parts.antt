-- What is added to a text, part by part.
use Rattle.std.proofs.Common.{◌≡◌, ◌++◌, ◌∙◌, ℕ, List, [], ap, append-nil, append_assoc, length, sym}
use Rattle.std.proofs.lemmas.List.{nil_from_length}

-- nothing is added for an empty list
pub added_nothing : {X : Type 0} (f : List X → List ℕ) (xs : List X) (base : List ℕ)
    → length xs ≡ 0 → f [] ≡ [] → base ≡ base ++ f xs
added_nothing f xs base none empty =
    sym (append-nil base)
    ∙ ap (λ (ys : List ℕ). base ++ ys) (sym empty ∙ ap f (sym (nil_from_length xs none)))

-- these parts were added so far
pub record Adds (base parts now : List ℕ) : Type 0 where
  pub is : now ≡ base ++ parts

pub none_yet : (base : List ℕ) → Adds base [] base
none_yet base = record { is = sym (append-nil base) }

pub adds : {base parts now next : List ℕ} (part : List ℕ) → Adds base parts now
    → next ≡ now ++ part → Adds base (parts ++ part) next
adds {base} {parts} part was step = record {
  is = step ∙ ap (λ (xs : List ℕ). xs ++ part) was.is ∙ append_assoc base parts part;
}

-- a part that the step knows under another name
pub adds_as : {base parts now next other : List ℕ} (part : List ℕ) → Adds base parts now
    → next ≡ now ++ other → other ≡ part → Adds base (parts ++ part) next
adds_as {base} {parts} {now} part was step same =
    adds part was (step ∙ ap (λ (xs : List ℕ). now ++ xs) same)

pub added_to_none : {base parts now : List ℕ} → base ≡ [] → Adds base parts now → now ≡ parts
added_to_none {base} {parts} none was = was.is ∙ ap (λ (xs : List ℕ). xs ++ parts) none
