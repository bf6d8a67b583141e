-- Texts that are cut off.
use Rattle.std.specs.Prelude.{◌≡◌, ℕ, List, ◌++◌, Bool, true, false, Some}
use Rattle.std.specs.List.{list_all}
use lib.Chars.{codes}
use Rattle.json.specs.Word.{is_space}
use Rattle.serde_json.specs.Data.{Data, null, boolean, number, string, array, object}
use Rattle.serde_json.specs.Read.{read}
use Rattle.serde_json.specs.Written.{compact_text}

-- a list or an object, which ends with a bracket
abbrev pub has_brackets : Data → Bool
has_brackets null = false
has_brackets (boolean b) = false
has_brackets (number n) = false
has_brackets (string s) = false
has_brackets (array ds) = true
has_brackets (object ms) = true

-- the text is what is left of one that is a list or an object, of which more than white space was
-- cut off
pub record IsCutOff (text : List ℕ) : Type 0 where
  pub rest : List ℕ
  pub value : Data
  pub whole : read (text ++ rest) ≡ Some value
  pub brackets : has_brackets value ≡ true
  pub more : list_all is_space rest ≡ false

-- as certificates are written: without a space, on one line
abbrev pub line_of : Data → List ℕ
line_of d = compact_text d ++ codes "\n"
