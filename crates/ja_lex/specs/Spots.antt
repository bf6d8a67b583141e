-- Where a character stands: how many bytes of UTF-8 are before it, and its line and column from 1.
use Rattle.std.specs.Prelude.{ℕ, zero, suc, ◌+◌, Bool, not, ◌&&◌, ◌==◌, if◌then◌else◌, List, [], ◌∷◌}
use Rattle.std.specs.Char.{len_utf8}
use Rattle.ja_base.specs.declared.ids.Place.{Place}
use Rattle.ja_lex.specs.declared.spot.Spot.{Spot}
use Rattle.ja_prim.specs.Characters.{char_at, is_terminator}

-- the greatest number of bytes of a text that is read
abbrev pub max_bytes : ℕ
max_bytes = 16777216

abbrev pub place_at : ℕ → ℕ → Place
place_at line column = record { line = line; column = column }

-- the first character of a text
abbrev pub beginning : Spot
beginning = record { offset = 0; place = place_at 1 1 }

-- The first of these characters ends its line: it is a line terminator (7.3), but of CR LF the LF
-- alone ends the line.
unfoldable pub ends_line : List ℕ → Bool
ends_line cs = is_terminator (char_at cs 0) && not (char_at cs 0 == 13 && char_at cs 1 == 10)

-- the spot behind the first of these characters, which stands at p
unfoldable pub after : Spot → List ℕ → Spot
after p cs = record {
  offset = p.offset + len_utf8 (char_at cs 0);
  place =
      if ends_line cs then place_at (p.place.line + 1) 1
      else place_at p.place.line (p.place.column + 1);
}

-- the spot behind the first n of these characters, or behind all where there are fewer
unfoldable pub past : ℕ → Spot → List ℕ → Spot
past zero p cs = p
past (suc n) p [] = p
past (suc n) p (c ∷ cs) = past n (after p (c ∷ cs)) cs
