-- How the lines of a text grow, character by character.
use Rattle.std.proofs.Common.{◌≡◌, ℕ, ◌-◌, ◌+◌, ◌<◌, ◌≤◌, Bool, true, false, if◌then◌else◌, List, [], ◌∷◌, ◌++◌, take, drop, length, get_or, refl, ap, sym, ◌∙◌, append-nil, append_assoc, arith}
use Rattle.std.proofs.lemmas.List.{drop_all, drop_more, get_or-drop, take_all, take_more}
use Rattle.std.proofs.Math.ListN.{length-drop}
use Rattle.ja_lex.specs.Spots.{ends_line}
use Rattle.ja_files.specs.Lines.{in_first, lines_of}

-- some characters in front of the first of some lines
abbrev pub joined : List ℕ → List (List ℕ) → List (List ℕ)
joined front [] = front ∷ []
joined front (line ∷ lines) = (front ++ line) ∷ lines

-- one more of them
pub joined-in_first : (front : List ℕ) (c : ℕ) (lines : List (List ℕ))
    → joined front (in_first c lines) ≡ joined (front ++ c ∷ []) lines
joined-in_first front c [] = refl
joined-in_first front c (line ∷ lines) =
    ap (λ (l : List ℕ). l ∷ lines) (sym (append_assoc front (c ∷ []) line))

-- none of them
joined-if : (b : Bool) (c : ℕ) (lines : List (List ℕ))
    → joined [] (if b then [] ∷ lines else in_first c lines)
    ≡ (if b then [] ∷ lines else in_first c lines)
joined-if true c lines = refl
joined-if false c [] = refl
joined-if false c (line ∷ lines) = refl

pub joined-none : (cs : List ℕ) → joined [] (lines_of cs) ≡ lines_of cs
unfolding lines_of
joined-none [] = refl
joined-none (c ∷ cs) = joined-if (ends_line (c ∷ cs)) c (lines_of cs)

-- a character that ends its line
pub lines_of-end : (c : ℕ) (cs : List ℕ) → ends_line (c ∷ cs) ≡ true
    → lines_of (c ∷ cs) ≡ [] ∷ lines_of cs
unfolding lines_of
lines_of-end c cs ends = rw ends

-- a character that doesn't
pub lines_of-more : (c : ℕ) (cs : List ℕ) → ends_line (c ∷ cs) ≡ false
    → lines_of (c ∷ cs) ≡ in_first c (lines_of cs)
unfolding lines_of
lines_of-more c cs stays = rw stays

-- what a line that begins at one index has up to another one, and one character more
front_more : (text : List ℕ) (start index : ℕ) → start ≤ index → index < length text
    → take (index + 1 - start) (drop start text)
    ≡ take (index - start) (drop start text) ++ get_or text index 0 ∷ []
front_more text start index begun inside =
    let fits : index - start < length (drop start text) = omega (arith, length-drop start text) in
    let count : index + 1 - start ≡ index - start + 1 = omega arith in
    let at : start + (index - start) ≡ index = omega arith in
    ap (λ (n : ℕ). take n (drop start text)) count
    ∙ take_more (drop start text) (index - start) 0 fits
    ∙ ap (λ (c : ℕ). take (index - start) (drop start text) ++ c ∷ [])
    (get_or-drop start text (index - start) 0 ∙ ap (λ (i : ℕ). get_or text i 0) at)

-- The lines so far, what the line that has begun has so far, and the lines of the rest, are those
-- of the text.
abbrev pub AreSplit : List (List ℕ) → List ℕ → ℕ → ℕ → Type 0
AreSplit lines text start index =
    lines ++ joined (take (index - start) (drop start text)) (lines_of (drop index text))
    ≡ lines_of text

-- a step at a character that ends its line
end_step : (lines next all : List (List ℕ)) (front line cs : List ℕ) (c : ℕ)
    → ends_line (c ∷ cs) ≡ true → lines ++ joined front (lines_of (c ∷ cs)) ≡ all → line ≡ front
    → next ≡ lines ++ line ∷ [] → next ++ joined [] (lines_of cs) ≡ all
end_step lines next all front line cs c ends was is step =
    ap (λ (ls : List (List ℕ)). ls ++ joined [] (lines_of cs)) step
    ∙ ap (λ (ls : List (List ℕ)). (lines ++ line ∷ []) ++ ls) (joined-none cs)
    ∙ append_assoc lines (line ∷ []) (lines_of cs)
    ∙ ap (λ (l : List ℕ). lines ++ l ∷ lines_of cs) (is ∙ sym (append-nil front))
    ∙ ap (λ (ls : List (List ℕ)). lines ++ joined front ls) (sym (lines_of-end c cs ends)) ∙ was

-- a step at another character
more_step : (lines all : List (List ℕ)) (front cs : List ℕ) (c : ℕ) → ends_line (c ∷ cs) ≡ false
    → lines ++ joined front (lines_of (c ∷ cs)) ≡ all
    → lines ++ joined (front ++ c ∷ []) (lines_of cs) ≡ all
more_step lines all front cs c stays was =
    ap (λ (ls : List (List ℕ)). lines ++ ls)
    (sym (joined-in_first front c (lines_of cs))
    ∙ ap (joined front) (sym (lines_of-more c cs stays)))
    ∙ was

pub split_none : (lines : List (List ℕ)) (text : List ℕ) → lines ≡ [] → AreSplit lines text 0 0
split_none lines text none =
    ap (λ (ls : List (List ℕ)). ls ++ joined [] (lines_of text)) none ∙ joined-none text

pub split_end : (lines next : List (List ℕ)) (text line : List ℕ) (start begin index : ℕ)
    → AreSplit lines text start index → index < length text
    → ends_line (drop index text) ≡ true → line ≡ take (index - start) (drop start text)
    → next ≡ lines ++ line ∷ [] → begin ≡ index + 1 → AreSplit next text begin (index + 1)
split_end lines next text line start begin index split inside ends is step at =
    let here = drop_more text index 0 inside in
    let none : index + 1 - begin ≡ 0 = omega arith in
    let front : List ℕ = take (index - start) (drop start text) in
    let rest : List ℕ = drop (index + 1) text in
    ap (λ (n : ℕ). next ++ joined (take n (drop begin text)) (lines_of rest)) none
    ∙ end_step lines next (lines_of text) front line rest (get_or text index 0)
    (ap ends_line (sym here) ∙ ends)
    (ap (λ (cs : List ℕ). lines ++ joined front (lines_of cs)) (sym here) ∙ split) is step

pub split_more : (lines next : List (List ℕ)) (text : List ℕ) (start begin index : ℕ)
    → AreSplit lines text start index → start ≤ index → index < length text
    → ends_line (drop index text) ≡ false → next ≡ lines → begin ≡ start
    → AreSplit next text begin (index + 1)
split_more lines next text start begin index split begun inside stays same at =
    let here = drop_more text index 0 inside in
    let front : List ℕ = take (index - start) (drop start text) in
    let rest : List ℕ = drop (index + 1) text in
    ap (λ (ls : List (List ℕ)).
    ls ++ joined (take (index + 1 - begin) (drop begin text)) (lines_of rest)) same
    ∙ ap (λ (n : ℕ). lines ++ joined (take (index + 1 - n) (drop n text)) (lines_of rest)) at
    ∙ ap (λ (l : List ℕ). lines ++ joined l (lines_of rest))
    (front_more text start index begun inside)
    ∙ more_step lines (lines_of text) front rest (get_or text index 0)
    (ap ends_line (sym here) ∙ stays)
    (ap (λ (cs : List ℕ). lines ++ joined front (lines_of cs)) (sym here) ∙ split)

pub split_all : (lines next : List (List ℕ)) (text line : List ℕ) (start index : ℕ)
    → AreSplit lines text start index → length text ≤ index → line ≡ drop start text
    → next ≡ lines ++ line ∷ [] → next ≡ lines_of text
unfolding lines_of
split_all lines next text line start index split past is step =
    let front : List ℕ = take (index - start) (drop start text) in
    let fits : length (drop start text) ≤ index - start = omega (arith, length-drop start text) in
    step
    ∙ ap (λ (l : List ℕ). lines ++ l ∷ [])
    (is ∙ sym (take_all (index - start) (drop start text) fits) ∙ sym (append-nil front))
    ∙ ap (λ (cs : List ℕ). lines ++ joined front (lines_of cs)) (sym (drop_all index text past))
    ∙ split
