-- The types of primitives, as the code has them.
use Rattle.ja_abstract.specs.Primitives.{Kind, undefined_kind, null_kind, boolean, number, text}
use Rattle.ja_absprim.specs.declared.equality.Kind.{Kind as KeptKind}
use Rattle.ja_absprim.specs.declared.equality.Kind.TheVariants as kind

abbrev pub kind_in : KeptKind → Kind
kind_in kind.Undefined = undefined_kind
kind_in kind.Null = null_kind
kind_in kind.Boolean = boolean
kind_in kind.Number = number
kind_in kind.Text = text
