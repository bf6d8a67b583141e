-- What the names and lists of keys of a program are.
use Rattle.std.specs.Prelude.{◌≡◌, ℕ, nat_eq, IsTrue, List, Some, slice_get}
use Rattle.std.specs.Option.{option_map}
use Rattle.std.specs.HashMap.{HashMap, get}
use Rattle.std.specs.Cmp.Lexicographic.{pointwise}
use lib.Chars.{codes}
use Rattle.ja_base.specs.declared.ids.NameId.{NameId}
use Rattle.ja_graph.specs.declared.program.Program.{Program}
use Rattle.ja_abstract.specs.declared.abstraction.NumberPart.{NumberPart}
use Rattle.ja_abstract.specs.declared.abstraction.NumberPart.TheVariants as number_part
use Rattle.ja_abstract.specs.declared.abstraction.TextPart.{TextPart}
use Rattle.ja_abstract.specs.declared.abstraction.TextPart.TheVariants as text_part
use Rattle.ja_abstract.specs.AbstractState.{is_key}
use Rattle.ja_abstract.specs.AbstractValue.{AbstractValue, no_value}
use Rattle.ja_abstract.specs.Keys.{name_of, text_key, text_keys, keys_of_value}
use Rattle.ja_abstract.specs.Made.{length_key}
use Rattle.ja_astate.specs.declared.class_lists.ClassLists.{ClassLists}
use Rattle.ja_astate.specs.declared.names.ProgramKeys.{ProgramKeys}

abbrev pub name_id : ℕ → NameId
name_id n = record { 0 = n }

-- each text is looked up as the name of the program that it is
abbrev pub HasNames : {S : Type 0} → Program → HashMap (List ℕ) NameId S → Type 0
HasNames p names = (t : List ℕ) → get (pointwise nat_eq) names t ≡ option_map name_id (name_of p t)

-- no text is a name twice
abbrev pub AreApart : Program → Type 0
AreApart p =
    (i j : ℕ) (t : List ℕ) → slice_get p.names i ≡ Some t → slice_get p.names j ≡ Some t → i ≡ j

-- the texts of one part and the numbers of another
abbrev pub of_parts : TextPart → NumberPart → AbstractValue
of_parts t n = record no_value { text = t; number = n }

-- the keys of a class of texts, alone and with each class of numbers
pub record AreWithTexts (p : Program) (t : TextPart) (lists : ClassLists) : Type 0 where
  pub alone : lists.alone.items ≡ keys_of_value p (of_parts t number_part.Nothing)
  pub indices : lists.indices.items ≡ keys_of_value p (of_parts t number_part.Index)
  pub other_wholes : lists.other_wholes.items ≡ keys_of_value p (of_parts t number_part.OtherWhole)
  pub wholes : lists.wholes.items ≡ keys_of_value p (of_parts t number_part.Whole)

-- the names of a program, `length` among them and none twice, and the keys of each class of texts
-- and numbers
pub record IsKeysOf (p : Program) (keys : ProgramKeys) : Type 0 where
  pub apart : AreApart p
  pub has_length : IsTrue (is_key p length_key)
  pub names : HasNames p keys.names
  pub nan : keys.nan ≡ text_key p (codes "NaN")
  pub texts : keys.texts.items ≡ text_keys p
  pub numbers : AreWithTexts p text_part.Nothing keys.numbers
  pub index_texts : AreWithTexts p text_part.IndexText keys.index_texts
  pub other_texts : AreWithTexts p text_part.OtherText keys.other_texts
