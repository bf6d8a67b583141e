-- The spots of places of the one text.
use Rattle.std.proofs.Common.{◌≡◌, ◌≢◌, ℕ, zero, suc, ◌-◌, ◌+◌, ◌<◌, ◌≤◌, List, [], ◌∷◌, ◌++◌, length, refl, ap, ◌∙◌, append-nil, arith}
use Rattle.std.specs.List.{flat_map, slice_get}
use Rattle.std.specs.Prelude.{slice_index}
use Rattle.ja_base.specs.declared.ids.Place.{Place}
use Rattle.ja_lex.specs.declared.spot.Spot.{Spot}
use Rattle.ja_lex.specs.Spots.{beginning, past, place_at}
use Rattle.ja_prim.specs.Characters.{char_at}
use Rattle.ja_files.specs.Files.{behind_separator, file_at, first_lines_of, in_front, joined_text, spot_at, spot_of, taken}
use Rattle.ja_files.specs.Lines.{endings, lines_of}
use Rattle.ja_files.proofs.Begun.{begun, fronts, joined_split, line_behind, line_behind-le, lines_split, taken-le}
use Rattle.ja_files.proofs.Counted.{counted}
use Rattle.ja_files.proofs.Pasts.{past_end, past_front, past_lines, past_over, past_shifted}
use Rattle.ja_files.proofs.Placed.{past-le}

-- ---- places

-- the spot of a place in the file with this number that begins at this line
spot_in : (firsts : List ℕ) (at : Place) (k first n : ℕ) → file_at firsts at.line ≡ k
    → slice_index firsts k ≡ first → at.line - (first - 1) ≡ n
    → spot_of firsts at ≡ spot_at k (place_at n at.column)
spot_in firsts at k first n file begins line =
    ap (λ (j : ℕ). spot_at j (place_at (at.line - (slice_index firsts j - 1)) at.column)) file
    ∙ ap (λ (f : ℕ). spot_at k (place_at (at.line - (f - 1)) at.column)) begins
    ∙ ap (λ (l : ℕ). spot_at k (place_at l at.column)) line

module _ (before : List (List ℕ)) (text : List ℕ) (behind : List (List ℕ)) where
  abbrev pub firsts : List ℕ
  firsts = first_lines_of (before ++ text ∷ behind)

  pub line_found : (n column line : ℕ) → 1 ≤ n → n ≤ taken text
      → line ≡ line_behind 1 before + (n - 1)
      → spot_of firsts (place_at line column) ≡ spot_at (length before) (place_at n column)
  line_found n column line one few is =
      let low = line_behind-le 1 before in
      let count = begun 1 before text behind line (omega arith) (omega arith) in
      spot_in firsts (place_at line column) (length before) (line_behind 1 before) n (omega arith)
      (lines_split 1 before text behind) (omega arith)

  pub place_found : (n column : ℕ) → 1 ≤ n → n ≤ length (lines_of text)
      → spot_of firsts (place_at (slice_index firsts (length before) + (n - 1)) column)
      ≡ spot_at (length before) (place_at n column)
  place_found n column one few =
      let own = taken-le text in
      let all = counted text in
      line_found n column (slice_index firsts (length before) + (n - 1)) one (omega arith)
      (ap (λ (first : ℕ). first + (n - 1)) (lines_split 1 before text behind))

  -- ---- characters

  -- what the place behind some characters is where they are as in the text alone
  character_found : (n : ℕ)
      → ((p : Spot) → past n p (text ++ flat_map behind_separator behind) ≡ past n p text)
      → spot_of firsts
      (past (length (in_front before) + n) beginning (joined_text (before ++ text ∷ behind))).place
      ≡ spot_at (length before) (past n beginning text).place
  character_found n alone =
      let rest : List ℕ = text ++ flat_map behind_separator behind in
      let q : Spot = past (length (in_front before)) beginning (in_front before ++ rest) in
      let first : ℕ = line_behind 1 before in
      let low : 1 ≤ first = line_behind-le 1 before in
      let own : Place = (past n beginning text).place in
      let from : q.place ≡ place_at (1 + (first - 1)) 1 =
      fronts before rest beginning 1 refl ∙ ap (λ (l : ℕ). place_at l 1) (omega arith) in
      let there : (past (length (in_front before) + n) beginning
      (joined_text (before ++ text ∷ behind))).place
      ≡ place_at (own.line + (first - 1)) own.column =
      ap (λ (cs : List ℕ). (past (length (in_front before) + n) beginning cs).place)
      (joined_split before text behind)
      ∙ ap (λ (s : Spot). s.place)
      (past_over (in_front before) rest n (length (in_front before) + n) beginning refl ∙ alone q)
      ∙ past_shifted n beginning q text (first - 1) from in
      let least : 1 ≤ own.line = past-le n beginning text in
      let most : own.line ≤ 1 + endings text = past_lines n beginning text in
      let more = taken-le text in
      ap (spot_of firsts) there
      ∙ line_found own.line own.column (own.line + (first - 1)) least (omega arith) (omega arith)

  pub inside_found : (n : ℕ) → n < length text → spot_of firsts
      (past (length (in_front before) + n) beginning (joined_text (before ++ text ∷ behind))).place
      ≡ spot_at (length before) (past n beginning text).place
  inside_found n inside =
      character_found n
      (λ p. past_front n p text (flat_map behind_separator behind) inside)

  pub end_found : char_at text (length text - 1) ≢ 13 → spot_of firsts
      (past (length (in_front before) + length text) beginning
      (joined_text (before ++ text ∷ behind))).place
      ≡ spot_at (length before) (past (length text) beginning text).place
  end_found other =
      character_found (length text)
      (λ p. past_end p text (flat_map behind_separator behind) other)

pub last_found : (before : List (List ℕ)) (text : List ℕ) → let texts = before ++ text ∷ [] in
    spot_of (first_lines_of texts)
    (past (length (in_front before) + length text) beginning (joined_text texts)).place
    ≡ spot_at (length before) (past (length text) beginning text).place
last_found before text =
    character_found before text [] (length text)
    (λ p. ap (λ (cs : List ℕ). past (length text) p cs) (append-nil text))

-- ---- the characters themselves

get_over : (a b : List ℕ) (n k : ℕ) → k ≡ length a + n → slice_get (a ++ b) k ≡ slice_get b n
get_over [] b n k is =
    let same : k ≡ n = omega arith in
    ap (slice_get b) same
get_over (c ∷ a) b n zero is = absurd (omega arith)
get_over (c ∷ a) b n (suc k) is = get_over a b n k (omega arith)

get_front : (text rest : List ℕ) (n : ℕ) → n < length text
    → slice_get (text ++ rest) n ≡ slice_get text n
get_front [] rest n inside = absurd (omega arith)
get_front (c ∷ text) rest zero inside = refl
get_front (c ∷ text) rest (suc n) inside = get_front text rest n (omega arith)

pub same_character : (before behind : List (List ℕ)) (text : List ℕ) (n : ℕ) → n < length text
    → slice_get (joined_text (before ++ text ∷ behind)) (length (in_front before) + n)
    ≡ slice_get text n
same_character before behind text n inside =
    let rest : List ℕ = flat_map behind_separator behind in
    ap (λ (cs : List ℕ). slice_get cs (length (in_front before) + n))
    (joined_split before text behind)
    ∙ get_over (in_front before) (text ++ rest) n (length (in_front before) + n) refl
    ∙ get_front text rest n inside
