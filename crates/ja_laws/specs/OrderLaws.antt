-- What the order of abstract values, properties and states comes to.
use Rattle.std.specs.Prelude.{◌≡◌, ◌⊎◌, ℕ, ℤ, IsTrue, List}
use Rattle.ja_base.specs.declared.ids.Label.{Label}
use Rattle.ja_prim.specs.declared.primitive.Primitive.{Primitive}
use Rattle.ja_abstract.specs.declared.abstraction.NumberPart.{NumberPart}
use Rattle.ja_abstract.specs.declared.abstraction.NumberPart.TheVariants as number_part
use Rattle.ja_abstract.specs.declared.abstraction.TextPart.{TextPart}
use Rattle.ja_abstract.specs.declared.abstraction.TextPart.TheVariants as text_part
use Rattle.ja_abstract.specs.AbstractValue.{AbstractValue, number_class, text_class}
use Rattle.ja_abstract.specs.Parts.{number_has, text_has, has_primitive}

-- each is below itself, what is below what is below a third is below that, and two that are below
-- each other are equal
pub record IsOrder {A : Type 0} (Below : A → A → Type 0) : Type 0 where
  pub reflexive : (a : A) → Below a a
  pub transitive : (a b c : A) → Below a b → Below b c → Below a c
  pub antisymmetric : (a b : A) → Below a b → Below b a → a ≡ b

-- ---- parts

-- each number, each text of the one is one of the other
abbrev pub HasNumbersOf : NumberPart → NumberPart → Type 0
HasNumbersOf b a = (n : ℤ) → IsTrue (number_has a n) → IsTrue (number_has b n)

abbrev pub HasTextsOf : TextPart → TextPart → Type 0
HasTextsOf b a = (t : List ℕ) → IsTrue (text_has a t) → IsTrue (text_has b t)

-- nothing is below all, a constant below its class, and each below itself and the class of all
abbrev pub IsNumberBelow : NumberPart → NumberPart → Type 0
IsNumberBelow a b =
    (a ≡ number_part.Nothing) ⊎ (a ≡ b) ⊎ (number_class a ≡ b) ⊎ (b ≡ number_part.Whole)

abbrev pub IsTextBelow : TextPart → TextPart → Type 0
IsTextBelow a b = (a ≡ text_part.Nothing) ⊎ (a ≡ b) ⊎ (text_class a ≡ b) ⊎ (b ≡ text_part.Text)

-- ---- values

-- b has all that a has: each primitive, each object's label, and the three parts that are neither
pub record HasAllOf (b a : AbstractValue) : Type 0 where
  pub primitive : (q : Primitive) → IsTrue (has_primitive a q) → IsTrue (has_primitive b q)
  pub label : (l : Label) → IsTrue (a.label l) → IsTrue (b.label l)
  pub absent : IsTrue a.flags.absent → IsTrue b.flags.absent
  pub entry : IsTrue a.flags.entry → IsTrue b.flags.entry
  pub row : IsTrue a.flags.row → IsTrue b.flags.row
