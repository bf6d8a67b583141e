-- Where the name `arguments` is looked up, form by form of the tree, for the functions that look
-- for it.
use Rattle.std.specs.Prelude.{Bool, false, List, Option, Some, None}
use Rattle.std.specs.List.{list_any}
use Rattle.ja_syntax.specs.declared.tree.Declaration.{Declaration}
use Rattle.ja_syntax.specs.declared.tree.CatchOf.{CatchOf}
use Rattle.ja_syntax.specs.declared.tree.ForFirst.{ForFirst}
use Rattle.ja_syntax.specs.declared.tree.ForFirst.TheVariants as first
use Rattle.ja_syntax.specs.declared.tree.ForTarget.{ForTarget}
use Rattle.ja_syntax.specs.declared.tree.ForTarget.TheVariants as target
use Rattle.ja_syntax.specs.declared.tree.Initialiser.{Initialiser}
use Rattle.ja_syntax.specs.declared.tree.Suffix.{Suffix}
use Rattle.ja_syntax.specs.declared.tree.Suffix.TheVariants as suffix
use Rattle.ja_syntax.specs.declared.tree.Statement.{Statement}
use Rattle.ja_syntax.specs.declared.tree.Expression.{Expression}
use Rattle.ja_syntax.specs.Arguments.{in_statement}
use Rattle.ja_syntax.specs.code.Arguments.{in_expression}

-- an expression that may be missing
abbrev pub optional_mentions : Option Expression → Bool
optional_mentions None = false
optional_mentions (Some expression) = in_expression expression

-- a suffix (11.2)
abbrev pub suffix_mentions : Suffix Expression → Bool
suffix_mentions (suffix.Member name place) = false
suffix_mentions (suffix.Index key place) = in_expression key
suffix_mentions (suffix.Call arguments place) = list_any in_expression arguments

-- the value of a declared variable, if it has one
abbrev pub initialiser_mentions : Option (Initialiser Expression) → Bool
initialiser_mentions None = false
initialiser_mentions (Some initialiser) = in_expression initialiser.value

-- a variable of a `var` (12.2)
abbrev pub declaration_mentions : Declaration Expression → Bool
declaration_mentions declaration = initialiser_mentions declaration.initialiser

-- the first part of a `for` (12.6.3)
abbrev pub first_mentions : ForFirst Expression → Bool
first_mentions first.Nothing = false
first_mentions (first.Expression value) = in_expression value
first_mentions (first.Variables declarations) = list_any declaration_mentions declarations

-- what a `for`-`in` writes (12.6.4)
abbrev pub target_mentions : ForTarget Expression → Bool
target_mentions (target.Variable declaration) = declaration_mentions declaration
target_mentions (target.Reference value) = in_expression value

-- a `catch` (12.14)
abbrev pub catch_mentions : Option (CatchOf Statement) → Bool
catch_mentions None = false
catch_mentions (Some catch) = list_any in_statement catch.body

-- a `finally` (12.14)
abbrev pub finally_mentions : Option (List Statement) → Bool
finally_mentions None = false
finally_mentions (Some body) = list_any in_statement body
