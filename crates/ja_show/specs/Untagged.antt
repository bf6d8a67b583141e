-- What is left of a page without its tags, and the text that it shows: a law says that they are
-- equal.
use Rattle.std.specs.Prelude.{ℕ, Bool, true, false, ◌==◌, if◌then◌else◌, List, [], ◌∷◌, ◌++◌}
use lib.Chars.{codes}
use Rattle.ja_lex.specs.Spots.{ends_line}
use Rattle.ja_show.specs.Lines.{shown}
use Rattle.ja_show.specs.Page.{escaped}

-- the bytes but for those from a `<` to a `>`, where `inside` says that the first ones stand behind
-- a `<`
unfoldable pub untagged : Bool → List ℕ → List ℕ
untagged inside [] = []
untagged inside (b ∷ bs) =
    if b == 60 then untagged true bs else if b == 62 then untagged false bs
    else if inside then untagged true bs else b ∷ untagged false bs

-- the lines of a text, as they are shown
unfoldable pub plain_lines : List ℕ → List ℕ
plain_lines [] = codes "\n"
plain_lines (c ∷ cs) =
    (if ends_line (c ∷ cs) then codes "\n" else escaped (shown c)) ++ plain_lines cs
