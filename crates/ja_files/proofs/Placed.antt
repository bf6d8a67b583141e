-- Where the characters of a text stand in its lines.
use Rattle.std.proofs.Common.{◌≡◌, ℕ, zero, suc, ◌-◌, ◌+◌, ◌≤◌, Bool, true, false, if◌then◌else◌, List, [], ◌∷◌, ◌++◌, drop, length, Option, Some, None, unwrap_or, refl, ap, sym, ◌∙◌, append-nil, arith}
use Rattle.std.specs.List.{slice_get}
use Rattle.std.proofs.lemmas.List.{length-append}
use Rattle.std.proofs.lemmas.Option.{slice_get_past}
use Rattle.ja_base.specs.declared.ids.Place.{Place}
use Rattle.ja_lex.specs.declared.spot.Spot.{Spot}
use Rattle.ja_lex.specs.Spots.{after, beginning, ends_line, past, place_at}
use Rattle.ja_prim.specs.Characters.{is_terminator}
use Rattle.ja_files.specs.Lines.{in_first, line_at, lines_of}
use Rattle.ja_files.proofs.Listed.{joined, joined-in_first, joined-none, lines_of-end, lines_of-more}

-- ---- the first character of some

-- the line that is so many lines behind the first
abbrev line_behind : List (List ℕ) → ℕ → List ℕ
line_behind lines k = unwrap_or (slice_get lines k) []

-- what stands at an index, unless it ends its line
abbrev unended : List ℕ → ℕ → Option ℕ
unended cs n = if ends_line (drop n cs) then None else slice_get cs n

past_front : (front : List ℕ) → slice_get (front ++ []) (length front) ≡ None
past_front front = rw append-nil (slice_get_past front (length front) (omega arith))

behind_front : (front : List ℕ) (c : ℕ) (rest : List ℕ)
    → slice_get (front ++ c ∷ rest) (length front) ≡ Some c
behind_front [] c rest = refl
behind_front (x ∷ front) c rest = behind_front front c rest

first_if : (b : Bool) (front : List ℕ) (c : ℕ) (lines : List (List ℕ))
    → slice_get (line_behind (joined front (if b then [] ∷ lines else in_first c lines)) 0)
    (length front)
    ≡ (if b then None else Some c)
first_if true front c lines = past_front front
first_if false front c [] = behind_front front c []
first_if false front c (line ∷ lines) = behind_front front c line

first : (front cs : List ℕ)
    → slice_get (line_behind (joined front (lines_of cs)) 0) (length front) ≡ unended cs 0
unfolding lines_of ends_line is_terminator
first front [] = past_front front
first front (c ∷ cs) = first_if (ends_line (c ∷ cs)) front c (lines_of cs)

-- ---- the others

-- Where p is the place of the first of these characters, in front of which its line has others,
-- the character behind n of them stands at its place.
abbrev Stands : ℕ → Spot → List ℕ → List ℕ → Type 0
Stands n p front cs =
    let at = (past n p cs).place in
    slice_get (line_behind (joined front (lines_of cs)) (at.line - p.place.line)) (at.column - 1)
    ≡ unended cs n

stands_here : (p : Spot) (front cs : List ℕ) → length front + 1 ≡ p.place.column
    → slice_get (line_behind (joined front (lines_of cs)) (p.place.line - p.place.line))
    (p.place.column - 1)
    ≡ unended cs 0
stands_here p front cs fits =
    let none : p.place.line - p.place.line ≡ 0 = omega arith in
    let before : p.place.column - 1 ≡ length front = omega arith in
    ap (λ (k : ℕ).
    slice_get (line_behind (joined front (lines_of cs)) k) (p.place.column - 1)) none
    ∙ ap (λ (k : ℕ). slice_get (line_behind (joined front (lines_of cs)) 0) k) before
    ∙ first front cs

pub after_end : (p : Spot) (cs : List ℕ) → ends_line cs ≡ true
    → (after p cs).place ≡ place_at (p.place.line + 1) 1
unfolding after
after_end p cs ends = rw ends

pub after_more : (p : Spot) (cs : List ℕ) → ends_line cs ≡ false
    → (after p cs).place ≡ place_at p.place.line (p.place.column + 1)
unfolding after
after_more p cs stays = rw stays

after-le : (b : Bool) (p : Spot) (cs : List ℕ) → ends_line cs ≡ b
    → p.place.line ≤ (after p cs).place.line
after-le true p cs ends = omega (arith, ap (λ (at : Place). at.line) (after_end p cs ends))
after-le false p cs stays = omega (arith, ap (λ (at : Place). at.line) (after_more p cs stays))

pub past-le : (n : ℕ) (p : Spot) (cs : List ℕ) → p.place.line ≤ (past n p cs).place.line
unfolding past
past-le zero p cs = omega arith
past-le (suc n) p [] = omega arith
past-le (suc n) p (c ∷ cs) =
    let one = after-le (ends_line (c ∷ cs)) p (c ∷ cs) refl in
    let rest = past-le n (after p (c ∷ cs)) cs in
    omega arith

stands_behind : (b : Bool) (n : ℕ) (p : Spot) (front : List ℕ) (c : ℕ) (cs : List ℕ)
    → ends_line (c ∷ cs) ≡ b → length front + 1 ≡ p.place.column
    → ((q : Spot) (line : List ℕ) → length line + 1 ≡ q.place.column → Stands n q line cs)
    → Stands (suc n) p front (c ∷ cs)
unfolding past
stands_behind true n p front c cs ends fits below =
    let q : Spot = after p (c ∷ cs) in
    let at : Place = (past n q cs).place in
    let same = after_end p (c ∷ cs) ends in
    let line : q.place.line ≡ p.place.line + 1 = ap (λ (place : Place). place.line) same in
    let column : q.place.column ≡ 1 = ap (λ (place : Place). place.column) same in
    let rest : q.place.line ≤ at.line = past-le n q cs in
    let count : at.line - p.place.line ≡ suc (at.line - q.place.line) = omega arith in
    ap (λ (k : ℕ).
    slice_get (line_behind (joined front (lines_of (c ∷ cs))) k) (at.column - 1)) count
    ∙ ap (λ (ls : List (List ℕ)).
    slice_get (line_behind (joined front ls) (suc (at.line - q.place.line))) (at.column - 1))
    (lines_of-end c cs ends)
    ∙ ap (λ (ls : List (List ℕ)).
    slice_get (line_behind ls (at.line - q.place.line)) (at.column - 1)) (sym (joined-none cs))
    ∙ below q [] (omega arith)
stands_behind false n p front c cs stays fits below =
    let q : Spot = after p (c ∷ cs) in
    let at : Place = (past n q cs).place in
    let same = after_more p (c ∷ cs) stays in
    let line : q.place.line ≡ p.place.line = ap (λ (place : Place). place.line) same in
    let column : q.place.column ≡ p.place.column + 1 =
    ap (λ (place : Place). place.column) same in
    let count : at.line - p.place.line ≡ at.line - q.place.line = omega arith in
    let longer : length (front ++ c ∷ []) + 1 ≡ q.place.column =
    omega (arith, length-append front (c ∷ [])) in
    ap (λ (k : ℕ).
    slice_get (line_behind (joined front (lines_of (c ∷ cs))) k) (at.column - 1)) count
    ∙ ap (λ (ls : List (List ℕ)).
    slice_get (line_behind ls (at.line - q.place.line)) (at.column - 1))
    (ap (joined front) (lines_of-more c cs stays) ∙ joined-in_first front c (lines_of cs))
    ∙ below q (front ++ c ∷ []) longer

stands : (n : ℕ) (p : Spot) (front cs : List ℕ) → length front + 1 ≡ p.place.column
    → Stands n p front cs
unfolding past
stands zero p front cs fits = stands_here p front cs fits
stands (suc n) p front [] fits = stands_here p front [] fits
stands (suc n) p front (c ∷ cs) fits =
    stands_behind (ends_line (c ∷ cs)) n p front c cs refl fits
    (λ q line longer. stands n q line cs longer)

pub placed : (cs : List ℕ) (n : ℕ) → let at = (past n beginning cs).place in
    slice_get (line_at (lines_of cs) at.line) (at.column - 1)
    ≡ (if ends_line (drop n cs) then None else slice_get cs n)
placed cs n =
    let at : Place = (past n beginning cs).place in
    ap (λ (ls : List (List ℕ)). slice_get (line_at ls at.line) (at.column - 1))
    (sym (joined-none cs))
    ∙ stands n beginning [] cs refl
