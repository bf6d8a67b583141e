-- Spots are in the order of their places.
use Rattle.std.proofs.Common.{◌≡◌, ◌⊎◌, ℕ, zero, suc, ◌-◌, ◌<◌, ◌≤◌, Bool, true, false, List, [], ◌∷◌, inl, inr, refl, ap, arith}
use Rattle.std.specs.List.{prefix_len}
use Rattle.std.specs.Prelude.{nat_le, slice_index}
use Rattle.std.proofs.lemmas.Bool.{cases_lt, le-leb, leb-true}
use Rattle.std.proofs.lemmas.List.Sums.{prefix_len_passes}
use Rattle.ja_base.specs.declared.ids.Place.{Place}
use Rattle.ja_files.specs.Files.{file_at, first_lines_of, lines_from, spot_of}
use Rattle.ja_files.specs.Order.{IsBelow, IsSpotBelow, IsSpotUpTo, IsUpTo}

-- as many begin up to a line behind another one, or more
more_begun : (firsts : List ℕ) (a b : ℕ) → a ≤ b
    → prefix_len (λ (first : ℕ). nat_le first a) firsts
    ≤ prefix_len (λ (first : ℕ). nat_le first b) firsts
more_begun [] a b up = omega arith
more_begun (first ∷ firsts) a b up =
    go (nat_le first a) refl (more_begun firsts a b up)
  where
    go : (t : Bool) → nat_le first a ≡ t
        → prefix_len (λ (f : ℕ). nat_le f a) firsts ≤ prefix_len (λ (f : ℕ). nat_le f b) firsts
        → prefix_len (λ (f : ℕ). nat_le f a) (first ∷ firsts)
        ≤ prefix_len (λ (f : ℕ). nat_le f b) (first ∷ firsts)
    go true e more =
        let low : first ≤ a = leb-true first a e in
        let passes : nat_le first b ≡ true = le-leb first b (omega arith) in
        rw (e, passes) (omega arith)
    go false e more = rw e (omega arith)

first_of_all : (texts : List (List ℕ)) → slice_index (first_lines_of texts) 0 ≤ 1
unfolding lines_from
first_of_all [] = omega arith
first_of_all (text ∷ texts) = omega arith

-- the file of a place begins up to its line, or at the first line
begins_up_to : (texts : List (List ℕ)) (line : ℕ)
    → slice_index (first_lines_of texts) (file_at (first_lines_of texts) line) - 1 ≤ line
begins_up_to texts line =
    go (prefix_len (λ (first : ℕ). nat_le first line) (first_lines_of texts)) refl
  where
    go : (count : ℕ) → prefix_len (λ (first : ℕ). nat_le first line) (first_lines_of texts) ≡ count
        → slice_index (first_lines_of texts) (file_at (first_lines_of texts) line) - 1 ≤ line
    go zero e =
        let start = first_of_all texts in
        let file : file_at (first_lines_of texts) line ≡ 0 = omega arith in
        rw file (omega arith)
    go (suc k) e =
        let file : file_at (first_lines_of texts) line ≡ k = omega arith in
        let low = leb-true (slice_index (first_lines_of texts) k) line
        (prefix_len_passes (λ (first : ℕ). nat_le first line) (first_lines_of texts) k 0
        (omega arith)) in
        rw file (omega arith)

module _ (texts : List (List ℕ)) where
  abbrev firsts : List ℕ
  firsts = first_lines_of texts

  -- lines in a file that are in order in the one text
  abbrev line_in : ℕ → ℕ
  line_in line = line - (slice_index firsts (file_at firsts line) - 1)

  lines_kept : (a b : ℕ) → a < b
      → (file_at firsts a < file_at firsts b)
      ⊎ ((file_at firsts a ≡ file_at firsts b) × (line_in a < line_in b))
  lines_kept a b up =
      let more = more_begun firsts a b (omega arith) in
      elim (cases_lt (file_at firsts a) (file_at firsts b)) [
        | inl less ↦ inl less
        | inr same ↦
            let file : file_at firsts a ≡ file_at firsts b = omega arith in
            let begins = ap (λ (k : ℕ). slice_index firsts k - 1) file in
            let low = begins_up_to texts a in
            inr (file, omega arith)
      ]

  same_line : (a b : ℕ) → a ≡ b
      → (file_at firsts a ≡ file_at firsts b) × (line_in a ≡ line_in b)
  same_line a b same = (ap (file_at firsts) same, ap line_in same)

  pub order_kept : (a b : Place) → IsUpTo a b → IsSpotUpTo (spot_of firsts a) (spot_of firsts b)
  order_kept a b (inl less) =
      elim (lines_kept a.line b.line less) [
        | inl file ↦ inl file
        | inr same ↦ inr (same.0, inl same.1)
      ]
  order_kept a b (inr same) =
      let line = same_line a.line b.line same.0 in
      inr (line.0, inr (line.1, same.1))

  pub strictly_kept : (a b : Place) → IsBelow a b
      → IsSpotBelow (spot_of firsts a) (spot_of firsts b)
  strictly_kept a b (inl less) =
      elim (lines_kept a.line b.line less) [
        | inl file ↦ inl file
        | inr same ↦ inr (same.0, inl same.1)
      ]
  strictly_kept a b (inr same) =
      let line = same_line a.line b.line same.0 in
      inr (line.0, inr (line.1, same.1))
