-- Abstract values and properties: what they have as parts, and their joins. A set of labels is a
-- test.
use Rattle.std.specs.Prelude.{Bool, true, false, not, ◌&&◌, ◌||◌, if◌then◌else◌, ◌==◌, nat_eq, List}
use Rattle.std.specs.Bool.{beq}
use Rattle.std.specs.List.{list_any}
use Rattle.std.specs.Ordering.{int_eq}
use lib.Pointwise.{pointwise}
use Rattle.ja_base.specs.declared.ids.Label.{Label}
use Rattle.ja_prim.specs.declared.primitive.Num.TheVariants.{NaN, Whole}
use Rattle.ja_prim.specs.declared.primitive.Primitive.{Primitive}
use Rattle.ja_prim.specs.declared.primitive.Primitive.TheVariants as primitive
use Rattle.ja_prim.specs.Index.{is_index, is_index_text}
use Rattle.ja_graph.specs.declared.attrs.Attrs.{Attrs}
use Rattle.ja_abstract.specs.declared.abstraction.Flags.{Flags}
use Rattle.ja_abstract.specs.declared.abstraction.NumberPart.{NumberPart}
use Rattle.ja_abstract.specs.declared.abstraction.NumberPart.TheVariants as number_part
use Rattle.ja_abstract.specs.declared.abstraction.TextPart.{TextPart}
use Rattle.ja_abstract.specs.declared.abstraction.TextPart.TheVariants as text_part
use Rattle.ja_abstract.specs.declared.abstraction.May.{May}
use Rattle.ja_abstract.specs.declared.abstraction.AAttrs.{AAttrs}

abbrev pub same_label : Label → Label → Bool
same_label a b = (a.site.0 == b.site.0) && beq a.old b.old

-- sets of labels
abbrev pub Labels : Type 0
Labels = Label → Bool

abbrev pub no_labels : Labels
no_labels l = false

pub record AbstractValue : Type 0 where
  pub flags : Flags
  pub number : NumberPart
  pub text : TextPart
  pub label : Labels

pub record AbstractProperty : Type 0 where
  pub value : AbstractValue
  pub attrs : AAttrs

-- ---- parts

abbrev pub no_flags : Flags
no_flags =
    record {
      absent = false;
      entry = false;
      row = false;
      undefined = false;
      null = false;
      is_true = false;
      is_false = false;
      nan = false;
    }

abbrev pub join_flags : Flags → Flags → Flags
join_flags a b = record {
  absent = a.absent || b.absent;
  entry = a.entry || b.entry;
  row = a.row || b.row;
  undefined = a.undefined || b.undefined;
  null = a.null || b.null;
  is_true = a.is_true || b.is_true;
  is_false = a.is_false || b.is_false;
  nan = a.nan || b.nan;
}

-- a flag other than `absent` and `entry`
abbrev pub has_present_flag : Flags → Bool
has_present_flag f = f.row || f.undefined || f.null || f.is_true || f.is_false || f.nan

-- the class of a number part: a constant's, or the part itself
abbrev pub number_class : NumberPart → NumberPart
number_class (number_part.One n) = if is_index n then number_part.Index else number_part.OtherWhole
number_class part = part

-- two classes, neither of them Nothing
abbrev pub join_classes : NumberPart → NumberPart → NumberPart
join_classes number_part.Index number_part.Index = number_part.Index
join_classes number_part.OtherWhole number_part.OtherWhole = number_part.OtherWhole
join_classes a b = number_part.Whole

abbrev pub join_numbers : NumberPart → NumberPart → NumberPart
join_numbers number_part.Nothing b = b
join_numbers a number_part.Nothing = a
join_numbers (number_part.One m) (number_part.One n) =
    if int_eq m n then number_part.One m else join_classes (number_class (number_part.One m))
    (number_class (number_part.One n))
join_numbers a b = join_classes (number_class a) (number_class b)

abbrev pub text_class : TextPart → TextPart
text_class (text_part.One t) = if is_index_text t then text_part.IndexText else text_part.OtherText
text_class part = part

abbrev pub join_text_classes : TextPart → TextPart → TextPart
join_text_classes text_part.IndexText text_part.IndexText = text_part.IndexText
join_text_classes text_part.OtherText text_part.OtherText = text_part.OtherText
join_text_classes a b = text_part.Text

abbrev pub join_texts : TextPart → TextPart → TextPart
join_texts text_part.Nothing b = b
join_texts a text_part.Nothing = a
join_texts (text_part.One s) (text_part.One t) =
    if pointwise nat_eq s t then text_part.One s
    else join_text_classes (text_class (text_part.One s)) (text_class (text_part.One t))
join_texts a b = join_text_classes (text_class a) (text_class b)

abbrev pub has_number : NumberPart → Bool
has_number number_part.Nothing = false
has_number part = true

abbrev pub has_text : TextPart → Bool
has_text text_part.Nothing = false
has_text part = true

-- ---- values

abbrev pub no_value : AbstractValue
no_value =
    record {
      flags = no_flags;
      number = number_part.Nothing;
      text = text_part.Nothing;
      label = no_labels;
    }

abbrev pub join : AbstractValue → AbstractValue → AbstractValue
join a b = record {
  flags = join_flags a.flags b.flags;
  number = join_numbers a.number b.number;
  text = join_texts a.text b.text;
  label = λ l. a.label l || b.label l;
}

abbrev pub of_flags : Flags → AbstractValue
of_flags f = record no_value { flags = f }

abbrev pub absent_value : AbstractValue
absent_value = of_flags (record no_flags { absent = true })

abbrev pub entry_value : AbstractValue
entry_value = of_flags (record no_flags { entry = true })

abbrev pub undefined_value : AbstractValue
undefined_value = of_flags (record no_flags { undefined = true })

abbrev pub row_value : AbstractValue
row_value = of_flags (record no_flags { row = true })

abbrev pub null_value : AbstractValue
null_value = of_flags (record no_flags { null = true })

abbrev pub of_label : Label → AbstractValue
of_label l = record no_value { label = same_label l }

abbrev pub of_labels : Labels → AbstractValue
of_labels set = record no_value { label = set }

-- exactly a primitive
abbrev pub of_primitive : Primitive → AbstractValue
of_primitive primitive.Undefined = undefined_value
of_primitive primitive.Null = null_value
of_primitive (primitive.Bool true) = of_flags (record no_flags { is_true = true })
of_primitive (primitive.Bool false) = of_flags (record no_flags { is_false = true })
of_primitive (primitive.Number NaN) = of_flags (record no_flags { nan = true })
of_primitive (primitive.Number (Whole n)) = record no_value { number = number_part.One n }
of_primitive (primitive.Text t) = record no_value { text = text_part.One t }

-- whether some part is there other than `absent` and `entry`; labels are sought among a program's
abbrev pub is_present : List Label → AbstractValue → Bool
is_present labels v =
    has_present_flag v.flags || has_number v.number || has_text v.text || list_any v.label labels

abbrev pub has_part : List Label → AbstractValue → Bool
has_part labels v = v.flags.absent || v.flags.entry || is_present labels v

-- without `absent` and `entry`
abbrev pub present_part : AbstractValue → AbstractValue
present_part v = record v { flags = record v.flags { absent = false; entry = false } }

-- ---- properties

abbrev pub join_may : May → May → May
join_may a b = record { set = a.set || b.set; unset = a.unset || b.unset }

abbrev pub never_known : May
never_known = record { set = false; unset = false }

abbrev pub unknown_attrs : AAttrs
unknown_attrs =
    record { read_only = never_known; dont_enum = never_known; dont_delete = never_known }

abbrev pub join_attrs : AAttrs → AAttrs → AAttrs
join_attrs a b = record {
  read_only = join_may a.read_only b.read_only;
  dont_enum = join_may a.dont_enum b.dont_enum;
  dont_delete = join_may a.dont_delete b.dont_delete;
}

abbrev pub exactly : Bool → May
exactly b = record { set = b; unset = not b }

abbrev pub of_attrs : Attrs → AAttrs
of_attrs a =
    record {
      read_only = exactly a.read_only;
      dont_enum = exactly a.dont_enum;
      dont_delete = exactly a.dont_delete;
    }

abbrev pub join_properties : AbstractProperty → AbstractProperty → AbstractProperty
join_properties a b = record { value = join a.value b.value; attrs = join_attrs a.attrs b.attrs }

-- a value of which no attribute is known: of a slot, or of what is absent or as at entry
abbrev pub bare : AbstractValue → AbstractProperty
bare v = record { value = v; attrs = unknown_attrs }

abbrev pub no_property : AbstractProperty
no_property = bare no_value

abbrev pub absent_property : AbstractProperty
absent_property = bare absent_value

abbrev pub entry_property : AbstractProperty
entry_property = bare entry_value
