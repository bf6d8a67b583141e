-- What can be written to (ES3 8.7): a name, or a property.
use Rattle.std.specs.Prelude.{Bool, true, false, List, [], ◌∷◌}
use Rattle.ja_syntax.specs.declared.tree.Suffix.{Suffix}
use Rattle.ja_syntax.specs.declared.tree.Suffix.TheVariants as suffix
use Rattle.ja_syntax.specs.declared.tree.Case.{Case}
use Rattle.ja_syntax.specs.declared.tree.Statement.{Statement}
use Rattle.ja_syntax.specs.declared.tree.Expression.{Expression, out-Expression}
use Rattle.ja_syntax.specs.declared.tree.Expression.TheOpen.{Expression-F}

-- one level of an expression
abbrev pub Layer : Type 0
Layer = Expression-F Expression Statement Case

-- A suffix that names a property (11.2.1).
abbrev pub names_property : Suffix Expression → Bool
names_property (suffix.Member name place) = true
names_property (suffix.Index key place) = true
names_property (suffix.Call arguments place) = false

-- The last suffix names a property.
abbrev pub ends_in_property : List (Suffix Expression) → Bool
ends_in_property [] = false
ends_in_property (last ∷ []) = names_property last
ends_in_property (first ∷ (second ∷ others)) = ends_in_property (second ∷ others)

-- one level of an expression is a reference
abbrev pub is_reference_at : Layer → Bool
is_reference_at (Expression-F.Name name) = true
is_reference_at (Expression-F.Chain head suffixes) = ends_in_property suffixes
is_reference_at _ = false

-- An expression is a reference (8.7): a name, or a chain that ends in a property.
unfoldable pub is_reference : Expression → Bool
is_reference expression = is_reference_at (out-Expression expression)
