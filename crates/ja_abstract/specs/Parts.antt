-- What the parts of abstract values and attributes have: primitives, numbers, texts, attributes.
use Rattle.std.specs.Prelude.{ℕ, ℤ, Bool, true, false, not, ◌&&◌, nat_eq, List}
use Rattle.std.specs.Ordering.{int_eq}
use lib.Pointwise.{pointwise}
use Rattle.ja_prim.specs.declared.primitive.Num.TheVariants.{NaN, Whole}
use Rattle.ja_prim.specs.declared.primitive.Primitive.{Primitive}
use Rattle.ja_prim.specs.declared.primitive.Primitive.TheVariants as primitive
use Rattle.ja_prim.specs.Index.{is_index, is_index_text}
use Rattle.ja_graph.specs.declared.attrs.Attrs.{Attrs}
use Rattle.ja_abstract.specs.declared.abstraction.NumberPart.{NumberPart}
use Rattle.ja_abstract.specs.declared.abstraction.NumberPart.TheVariants as number_part
use Rattle.ja_abstract.specs.declared.abstraction.TextPart.{TextPart}
use Rattle.ja_abstract.specs.declared.abstraction.TextPart.TheVariants as text_part
use Rattle.ja_abstract.specs.declared.abstraction.May.{May}
use Rattle.ja_abstract.specs.declared.abstraction.AAttrs.{AAttrs}
use Rattle.ja_abstract.specs.AbstractValue.{AbstractValue}

-- ---- values

abbrev pub number_has : NumberPart → ℤ → Bool
number_has number_part.Nothing z = false
number_has (number_part.One n) z = int_eq n z
number_has number_part.Index z = is_index z
number_has number_part.OtherWhole z = not (is_index z)
number_has number_part.Whole z = true

abbrev pub text_has : TextPart → List ℕ → Bool
text_has text_part.Nothing t = false
text_has (text_part.One s) t = pointwise nat_eq s t
text_has text_part.IndexText t = is_index_text t
text_has text_part.OtherText t = not (is_index_text t)
text_has text_part.Text t = true

abbrev pub has_primitive : AbstractValue → Primitive → Bool
has_primitive v primitive.Undefined = v.flags.undefined
has_primitive v primitive.Null = v.flags.null
has_primitive v (primitive.Bool true) = v.flags.is_true
has_primitive v (primitive.Bool false) = v.flags.is_false
has_primitive v (primitive.Number NaN) = v.flags.nan
has_primitive v (primitive.Number (Whole n)) = number_has v.number n
has_primitive v (primitive.Text t) = text_has v.text t

-- ---- properties

abbrev pub allows : May → Bool → Bool
allows m true = m.set
allows m false = m.unset

abbrev pub allows_attrs : AAttrs → Attrs → Bool
allows_attrs m a =
    allows m.read_only a.read_only && allows m.dont_enum a.dont_enum
    && allows m.dont_delete a.dont_delete
