-- Words as they are put together.
use Rattle.std.specs.Prelude.{ℕ, ◌-◌, List, [], ◌∷◌, ◌++◌, map, take}
use lib.Chars.{codes}
use Rattle.ja_base.specs.declared.ids.Site.{Site}
use Rattle.ja_graph.specs.declared.program.Program.{Program}
use Rattle.ja_abstract.specs.AbstractValue.{AbstractValue}
use Rattle.ja_files.specs.declared.file.File.{File}
use Rattle.ja_lint_text.specs.Values.{listed, most_told, others, primitive_words, row_words, site_words}

-- those that are told of so many words, by the first of them
abbrev pub told_of : ℕ → List (List ℕ) → List (List ℕ)
told_of count words = take most_told words ++ others (count - most_told)

abbrev pub alternatives_of : ℕ → List (List ℕ) → List ℕ
alternatives_of count [] = codes "nothing"
alternatives_of count (x ∷ xs) = listed (told_of count (x ∷ xs))

-- the words of a value with the objects of some sites
abbrev pub words_with : Program → List File → List ℕ → AbstractValue → List Site → List (List ℕ)
words_with p files firsts v sites =
    primitive_words v ++ map (site_words p files firsts) sites ++ row_words v.flags.row
