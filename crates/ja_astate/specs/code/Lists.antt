-- The keys of a value among the first names of a program, and the classes that lists are made for.
use Rattle.std.specs.Prelude.{◌≡◌, ℕ, Bool, true, false, ◌||◌, List, map, filter}
use Rattle.std.specs.List.{range_with_len}
use Rattle.ja_graph.specs.declared.program.Program.{Program}
use Rattle.ja_abstract.specs.declared.abstraction.Key.{Key}
use Rattle.ja_abstract.specs.declared.abstraction.Key.TheVariants as key
use Rattle.ja_abstract.specs.declared.abstraction.NumberPart.{NumberPart}
use Rattle.ja_abstract.specs.declared.abstraction.NumberPart.TheVariants as number_part
use Rattle.ja_abstract.specs.declared.abstraction.TextPart.{TextPart}
use Rattle.ja_abstract.specs.declared.abstraction.TextPart.TheVariants as text_part
use Rattle.ja_abstract.specs.AbstractValue.{AbstractValue}
use Rattle.ja_abstract.specs.AbstractState.{name_key, same_key}
use Rattle.ja_abstract.specs.Keys.{has_key}

abbrev pub names_below : Program → AbstractValue → ℕ → List Key
names_below p v end = filter (has_key p v) (map name_key (range_with_len 0 end))

-- neither one text nor one number
abbrev pub IsTextClass : TextPart → Type 0
IsTextClass (text_part.One t) = ⊥
IsTextClass part = Unit {0}

abbrev pub IsNumberClass : NumberPart → Type 0
IsNumberClass (number_part.One z) = ⊥
IsNumberClass part = Unit {0}

-- classes of texts and of numbers alone
pub record IsClass (v : AbstractValue) : Type 0 where
  pub text : IsTextClass v.text
  pub number : IsNumberClass v.number
  pub nan : v.flags.nan ≡ false

-- whether a class has texts that one of the keys for several texts stands for
abbrev pub text_rest : TextPart → Key → Bool
text_rest text_part.IndexText k = same_key key.OtherIndex k
text_rest text_part.OtherText k = same_key key.OtherName k
text_rest text_part.Text k = true
text_rest part k = false

abbrev pub number_rest : NumberPart → Key → Bool
number_rest number_part.Index k = same_key key.OtherIndex k
number_rest number_part.OtherWhole k = same_key key.OtherName k
number_rest number_part.Whole k = true
number_rest part k = false

abbrev pub class_has_rest : AbstractValue → Key → Bool
class_has_rest v k = text_rest v.text k || number_rest v.number k
