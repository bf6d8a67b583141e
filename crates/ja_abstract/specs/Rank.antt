-- How far up a value stands: its flags, how much of the numbers and of the texts it has, and its
-- labels of a list. What is above a value, and not below it as far as these labels go, has a higher
-- rank.
use Rattle.std.specs.Prelude.{ℕ, ◌+◌, Bool, ◌&&◌, if◌then◌else◌, List, filter, length}
use Rattle.std.specs.List.{list_any}
use Rattle.ja_base.specs.declared.ids.Label.{Label}
use Rattle.ja_abstract.specs.declared.abstraction.Flags.{Flags}
use Rattle.ja_abstract.specs.declared.abstraction.NumberPart.{NumberPart}
use Rattle.ja_abstract.specs.declared.abstraction.NumberPart.TheVariants as number_part
use Rattle.ja_abstract.specs.declared.abstraction.TextPart.{TextPart}
use Rattle.ja_abstract.specs.declared.abstraction.TextPart.TheVariants as text_part
use Rattle.ja_abstract.specs.AbstractValue.{AbstractValue, same_label}

abbrev pub flag_rank : Bool → ℕ
flag_rank b = if b then 1 else 0

abbrev pub flags_rank : Flags → ℕ
flags_rank f =
    flag_rank f.absent + flag_rank f.entry + flag_rank f.row + flag_rank f.undefined
    + flag_rank f.null + flag_rank f.is_true + flag_rank f.is_false + flag_rank f.nan

abbrev pub number_rank : NumberPart → ℕ
number_rank number_part.Nothing = 0
number_rank (number_part.One n) = 1
number_rank number_part.Index = 2
number_rank number_part.OtherWhole = 2
number_rank number_part.Whole = 3

abbrev pub text_rank : TextPart → ℕ
text_rank text_part.Nothing = 0
text_rank (text_part.One t) = 1
text_rank text_part.IndexText = 2
text_rank text_part.OtherText = 2
text_rank text_part.Text = 3

-- a value with those of its labels alone that are in a list
abbrev pub among : List Label → AbstractValue → AbstractValue
among labels v = record v { label = λ l. v.label l && list_any (same_label l) labels }

abbrev pub rank : List Label → AbstractValue → ℕ
rank labels v =
    flags_rank v.flags + number_rank v.number + text_rank v.text + length (filter v.label labels)
