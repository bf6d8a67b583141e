-- What clauses of the code cite beside `Expressions`, and no believed statement.
use Rattle.std.specs.Prelude.{map, Option, Some, None}
use Rattle.ja_syntax.specs.declared.tree.Operation.{Operation}
use Rattle.ja_syntax.specs.declared.tree.Property.{Property}
use Rattle.ja_syntax.specs.declared.tree.Suffix.{Suffix}
use Rattle.ja_syntax.specs.declared.tree.Suffix.TheVariants as suffix
use Rattle.ja_syntax.specs.declared.tree.Expression.{Expression}
use Rattle.ja_lower_expressions.specs.References.{Form}
use Rattle.ja_lower_expressions.specs.Literals.{Member}
use Rattle.ja_lower_expressions.specs.Expressions.{form}

-- ---- the parts of an expression, with what each expression inside is in its place

abbrev pub element_of : Option Expression → Option Form
element_of None = None
element_of (Some element) = Some (form element)

abbrev pub property_of : Property Expression → Member
property_of p = record { name = p.name; value = form p.value }

abbrev pub suffix_of : Suffix Expression → Suffix Form
suffix_of (suffix.Member name place) = suffix.Member name place
suffix_of (suffix.Index key place) = suffix.Index (form key) place
suffix_of (suffix.Call arguments place) = suffix.Call (map form arguments) place

abbrev pub operation_of : Operation Expression → Operation Form
operation_of o = record { operator = o.operator; right = form o.right; place = o.place }
