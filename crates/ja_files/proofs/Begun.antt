-- Where files begin in their one text.
use Rattle.std.proofs.Common.{◌≡◌, ℕ, ◌+◌, ◌<◌, ◌≤◌, Bool, true, false, if◌then◌else◌, List, [], ◌∷◌, ◌++◌, length, refl, ap, sym, ◌∙◌, append_assoc, arith}
use Rattle.std.specs.List.{flat_map, prefix_len}
use Rattle.std.specs.Prelude.{nat_le, slice_index}
use Rattle.std.proofs.lemmas.Bool.{false_from_ne_true, le-leb, leb-true}
use Rattle.std.proofs.lemmas.List.{length-append}
use Rattle.ja_lex.specs.declared.spot.Spot.{Spot}
use Rattle.ja_lex.specs.Spots.{ends_line, past, place_at}
use Rattle.ja_prim.specs.Characters.{is_terminator}
use Rattle.ja_files.specs.Files.{before_separator, behind_separator, in_front, joined_text, lines_from, separator, taken}
use Rattle.ja_files.specs.Lines.{endings}
use Rattle.ja_files.proofs.Pasts.{past_over, past_taken}

-- ---- the texts

others_split : (texts : List (List ℕ)) (text : List ℕ) (behind : List (List ℕ))
    → flat_map behind_separator (texts ++ text ∷ behind)
    ≡ separator ++ joined_text (texts ++ text ∷ behind)
unfolding joined_text
others_split [] text behind = append_assoc separator text (flat_map behind_separator behind)
others_split (t ∷ texts) text behind =
    append_assoc separator t (flat_map behind_separator (texts ++ text ∷ behind))

-- the one text is what is in front of a file, its text, and what is behind it
pub joined_split : (before : List (List ℕ)) (text : List ℕ) (behind : List (List ℕ))
    → joined_text (before ++ text ∷ behind)
    ≡ in_front before ++ (text ++ flat_map behind_separator behind)
unfolding joined_text
joined_split [] text behind = refl
joined_split (t ∷ before) text behind =
    ap (λ (rest : List ℕ). t ++ rest)
    (others_split before text behind
    ∙ ap (λ (rest : List ℕ). separator ++ rest) (joined_split before text behind))
    ∙ sym (append_assoc t separator
    (in_front before ++ (text ++ flat_map behind_separator behind)))
    ∙ sym (append_assoc (t ++ separator) (in_front before)
    (text ++ flat_map behind_separator behind))

-- ---- the lines

-- the line behind some texts of which the first begins at this one
abbrev pub line_behind : ℕ → List (List ℕ) → ℕ
line_behind line [] = line
line_behind line (text ∷ texts) = line_behind (line + taken text) texts

pub line_behind-le : (line : ℕ) (texts : List (List ℕ)) → line ≤ line_behind line texts
line_behind-le line [] = omega arith
line_behind-le line (text ∷ texts) =
    let more = line_behind-le (line + taken text) texts in omega arith

pub lines_split : (line : ℕ) (before : List (List ℕ)) (text : List ℕ) (behind : List (List ℕ))
    → slice_index (lines_from line (before ++ text ∷ behind)) (length before)
    ≡ line_behind line before
unfolding lines_from
lines_split line [] text behind = refl
lines_split line (t ∷ before) text behind = lines_split (line + taken t) before text behind

tested : (a b : ℕ) → a ≤ b → nat_le a b ≡ true
tested a b h = le-leb a b h

refuted : (a b : ℕ) → b < a → nat_le a b ≡ false
refuted a b h = false_from_ne_true (nat_le a b) (λ t. impossible (leb-true a b t))
  where
    impossible : a ≤ b → ⊥
    impossible up = omega arith

-- a file's lines are behind the first lines of those before it and of its own, and of no other one
pub begun : (line : ℕ) (before : List (List ℕ)) (text : List ℕ) (behind : List (List ℕ)) (at : ℕ)
    → line_behind line before ≤ at → at < line_behind line before + taken text
    → prefix_len (λ (first : ℕ). nat_le first at) (lines_from line (before ++ text ∷ behind))
    ≡ length before + 1
unfolding lines_from
begun line [] text [] at from below =
    let here = tested line at from in
    rw here refl
begun line [] text (t ∷ behind) at from below =
    let here = tested line at from in
    let next = refuted (line + taken text) at below in
    rw (here, next) refl
begun line (t ∷ before) text behind at from below =
    let low = line_behind-le line (t ∷ before) in
    let here = tested line at (omega arith) in
    let more = begun (line + taken t) before text behind at from below in
    rw here (omega arith)

-- the place behind what is in front of a file
pub fronts : (before : List (List ℕ)) (rest : List ℕ) (p : Spot) (line : ℕ)
    → p.place ≡ place_at line 1
    → (past (length (in_front before)) p (in_front before ++ rest)).place
    ≡ place_at (line_behind line before) 1
unfolding past
fronts [] rest p line is = is
fronts (text ∷ before) rest p line is =
    let first : List ℕ = before_separator text in
    let others : List ℕ = in_front before in
    let q : Spot = past (length first) p (first ++ (others ++ rest)) in
    let next : q.place ≡ place_at (line + taken text) 1 =
    past_next text (others ++ rest) p line is in
    ap (λ (cs : List ℕ). (past (length (first ++ others)) p cs).place)
    (append_assoc first others rest)
    ∙ ap (λ (s : Spot). s.place)
    (past_over first (others ++ rest) (length others) (length (first ++ others)) p
    (length-append first others))
    ∙ fronts before rest q (line + taken text) next
  where
    past_next : (text rest : List ℕ) (p : Spot) (line : ℕ) → p.place ≡ place_at line 1
        → (past (length (before_separator text)) p (before_separator text ++ rest)).place
        ≡ place_at (line + taken text) 1
    past_next text rest p line is =
        past_taken text rest p
        ∙ ap (λ (at : _). place_at (at.line + taken text) 1) is

-- ---- how many lines a text takes

separator_ends : endings separator ≡ 2
unfolding ends_line is_terminator
separator_ends = refl

one_more : (a b : Bool) {n : ℕ} → n ≡ 2
    → (if a then 1 else 0) + 0 + 1 ≤ (if b then 1 else 0) + n
one_more true true two = omega arith
one_more true false two = omega arith
one_more false true two = omega arith
one_more false false two = omega arith

-- at least its own
pub taken-le : (text : List ℕ) → endings text + 1 ≤ taken text
unfolding ends_line
taken-le [] = omega (arith, separator_ends)
taken-le (c ∷ []) = one_more (ends_line (c ∷ [])) (ends_line (c ∷ separator)) separator_ends
taken-le (c ∷ d ∷ text) =
    let more = taken-le (d ∷ text) in
    omega arith
