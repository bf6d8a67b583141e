-- White space and line terminators, which a text is stripped of before its number is read (ES3 7.2,
-- 7.3, 9.3.1).
use Rattle.std.specs.Prelude.{ℕ, ◌-◌, List, length, take, drop}
use Rattle.std.specs.List.{prefix_len, suffix_len}
use Rattle.ja_prim.specs.Characters.{is_blank}

-- the text without those that stand first, and without those that stand last
unfoldable pub behind_blanks : List ℕ → List ℕ
behind_blanks t = drop (prefix_len is_blank t) t

unfoldable pub before_blanks : List ℕ → List ℕ
before_blanks t = take (length t - suffix_len is_blank t) t
