-- The place behind some characters, of a text that stands in another one.
use Rattle.std.proofs.Common.{◌≡◌, ◌≢◌, ℕ, zero, suc, ◌-◌, ◌+◌, ◌<◌, ◌≤◌, Bool, true, false, if◌then◌else◌, List, [], ◌∷◌, ◌++◌, length, refl, ap, sym, ◌∙◌, arith}
use Rattle.std.proofs.lemmas.Bool.{ne_eqb}
use Rattle.ja_base.specs.declared.ids.Place.{Place}
use Rattle.ja_lex.specs.declared.spot.Spot.{Spot}
use Rattle.ja_lex.specs.Spots.{after, ends_line, past, place_at}
use Rattle.ja_prim.specs.Characters.{char_at, is_terminator}
use Rattle.ja_files.specs.Files.{separator, taken}
use Rattle.ja_files.specs.Lines.{endings}
use Rattle.ja_files.proofs.Placed.{after_end, after_more}

-- behind two texts is behind the second one, from where it stands
pub past_over : (a b : List ℕ) (n k : ℕ) (p : Spot) → k ≡ length a + n
    → past k p (a ++ b) ≡ past n (past (length a) p (a ++ b)) b
unfolding past
past_over [] b n k p is =
    let same : k ≡ n = omega arith in
    ap (λ (j : ℕ). past j p b) same
past_over (c ∷ a) b n zero p is = absurd (omega arith)
past_over (c ∷ a) b n (suc k) p is = past_over a b n k (after p (c ∷ a ++ b)) (omega arith)

-- what stands behind a text moves none of its characters
pub past_front : (n : ℕ) (p : Spot) (text rest : List ℕ) → n < length text
    → past n p (text ++ rest) ≡ past n p text
unfolding past after ends_line
past_front zero p text rest inside = refl
past_front (suc n) p [] rest inside = absurd (omega arith)
past_front (suc n) p (c ∷ []) rest inside = absurd (omega arith)
past_front (suc n) p (c ∷ d ∷ text) rest inside =
    past_front n (after p (c ∷ d ∷ text)) (d ∷ text) rest (omega arith)

alone : (c : ℕ) (rest : List ℕ) → c ≢ 13 → ends_line (c ∷ rest) ≡ ends_line (c ∷ [])
unfolding ends_line
alone c rest other = rw (ne_eqb c 13 other)

alone_past : (p : Spot) (c : ℕ) (rest : List ℕ) → c ≢ 13
    → past 1 p (c ∷ rest) ≡ past 1 p (c ∷ [])
unfolding past after
alone_past p c rest other = rw (alone c rest other) refl

-- nor its end, unless it ends in CR
past_whole : (m : ℕ) (p : Spot) (text rest : List ℕ) → length text ≡ suc m → char_at text m ≢ 13
    → past (suc m) p (text ++ rest) ≡ past (suc m) p text
unfolding past after ends_line
past_whole m p [] rest is other = absurd (omega arith)
past_whole zero p (c ∷ []) rest is other = alone_past p c rest other
past_whole (suc m) p (c ∷ []) rest is other = absurd (omega arith)
past_whole zero p (c ∷ d ∷ text) rest is other = absurd (omega arith)
past_whole (suc m) p (c ∷ d ∷ text) rest is other =
    past_whole m (after p (c ∷ d ∷ text)) (d ∷ text) rest (omega arith) other

pub past_end : (p : Spot) (text rest : List ℕ) → char_at text (length text - 1) ≢ 13
    → past (length text) p (text ++ rest) ≡ past (length text) p text
unfolding past
past_end p [] rest other = refl
past_end p (c ∷ text) rest other =
    let at : length (c ∷ text) - 1 ≡ length text = omega arith in
    past_whole (length text) p (c ∷ text) rest refl
    (λ h. other (ap (char_at (c ∷ text)) at ∙ h))

-- ---- lines

pub line_after : (b : Bool) (p : Spot) (cs : List ℕ) → ends_line cs ≡ b
    → (after p cs).place.line ≡ p.place.line + (if b then 1 else 0)
line_after true p cs ends = ap (λ (at : Place). at.line) (after_end p cs ends)
line_after false p cs stays =
    omega (arith, ap (λ (at : Place). at.line) (after_more p cs stays))

-- no more lines are begun than characters end theirs
pub past_lines : (n : ℕ) (p : Spot) (cs : List ℕ)
    → (past n p cs).place.line ≤ p.place.line + endings cs
unfolding past
past_lines zero p cs = omega arith
past_lines (suc n) p [] = omega arith
past_lines (suc n) p (c ∷ cs) =
    let one = line_after (ends_line (c ∷ cs)) p (c ∷ cs) refl in
    let rest = past_lines n (after p (c ∷ cs)) cs in
    omega arith

-- the separator ends its lines whatever is behind it
line_before : (c : ℕ) (text rest : List ℕ)
    → ends_line (c ∷ (text ++ separator) ++ rest) ≡ ends_line (c ∷ text ++ separator)
unfolding ends_line
line_before c [] rest = refl
line_before c (d ∷ text) rest = refl

-- behind a text with the separator a line begins
pub past_taken : (text rest : List ℕ) (p : Spot)
    → (past (length (text ++ separator)) p ((text ++ separator) ++ rest)).place
    ≡ place_at (p.place.line + taken text) 1
unfolding past after ends_line is_terminator
past_taken [] rest p =
    let two : p.place.line + 1 + 1 ≡ p.place.line + 2 = omega arith in
    ap (λ (line : ℕ). place_at line 1) two
past_taken (c ∷ text) rest p =
    let all : List ℕ = c ∷ (text ++ separator) ++ rest in
    let first : ends_line all ≡ ends_line (c ∷ text ++ separator) = line_before c text rest in
    let one = line_after (ends_line (c ∷ text ++ separator)) p all first in
    let more : (after p all).place.line + taken text ≡ p.place.line + taken (c ∷ text) =
    omega arith in
    past_taken text rest (after p all) ∙ ap (λ (line : ℕ). place_at line 1) more

-- ---- places from another line on

after_shifted : (b : Bool) (p q : Spot) (cs : List ℕ) (d : ℕ) → ends_line cs ≡ b
    → q.place ≡ place_at (p.place.line + d) p.place.column
    → (after q cs).place ≡ place_at ((after p cs).place.line + d) (after p cs).place.column
after_shifted true p q cs d ends is =
    let line : q.place.line + 1 ≡ p.place.line + 1 + d =
    omega (arith, ap (λ (at : Place). at.line) is) in
    after_end q cs ends ∙ ap (λ (l : ℕ). place_at l 1) line
    ∙ ap (λ (at : Place). place_at (at.line + d) at.column) (sym (after_end p cs ends))
after_shifted false p q cs d stays is =
    let column : q.place.column + 1 ≡ p.place.column + 1 =
    omega (arith, ap (λ (at : Place). at.column) is) in
    after_more q cs stays
    ∙ ap (λ (l : ℕ). place_at l (q.place.column + 1)) (ap (λ (at : Place). at.line) is)
    ∙ ap (λ (k : ℕ). place_at (p.place.line + d) k) column
    ∙ ap (λ (at : Place). place_at (at.line + d) at.column) (sym (after_more p cs stays))

-- so many lines further on
pub past_shifted : (n : ℕ) (p q : Spot) (cs : List ℕ) (d : ℕ)
    → q.place ≡ place_at (p.place.line + d) p.place.column
    → (past n q cs).place ≡ place_at ((past n p cs).place.line + d) (past n p cs).place.column
unfolding past
past_shifted zero p q cs d is = is
past_shifted (suc n) p q [] d is = is
past_shifted (suc n) p q (c ∷ cs) d is =
    past_shifted n (after p (c ∷ cs)) (after q (c ∷ cs)) cs d
    (after_shifted (ends_line (c ∷ cs)) p q (c ∷ cs) d refl is)
