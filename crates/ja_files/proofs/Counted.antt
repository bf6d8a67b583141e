-- The number of the lines of a text.
use Rattle.std.proofs.Common.{◌≡◌, ℕ, ◌+◌, Bool, true, false, if◌then◌else◌, List, [], ◌∷◌, length, refl, arith}
use Rattle.ja_lex.specs.Spots.{ends_line}
use Rattle.ja_files.specs.Lines.{endings, in_first, lines_of}

one_character : (b : Bool) (c n : ℕ) (lines : List (List ℕ)) → length lines ≡ n + 1
    → length (if b then [] ∷ lines else in_first c lines) ≡ (if b then 1 else 0) + n + 1
one_character true c n lines same = omega arith
one_character false c n [] same = absurd (omega arith)
one_character false c n (line ∷ lines) same = omega arith

pub counted : (cs : List ℕ) → length (lines_of cs) ≡ endings cs + 1
unfolding lines_of
counted [] = refl
counted (c ∷ cs) = one_character (ends_line (c ∷ cs)) c (endings cs) (lines_of cs) (counted cs)
