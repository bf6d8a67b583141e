-- A scene has the names and the functions of a text: each that is looked up is found.
use Rattle.std.specs.Prelude.{◌≡◌, ℕ, true, List}
use Rattle.std.specs.List.{AllByRecursion, flat_map, list_any}
use Rattle.std.specs.Str.{bytes_eq}
use Rattle.ja_base.specs.declared.ids.Place.{Place}
use Rattle.ja_lower_names.specs.TextOrder.{Part, Parts, a_function, a_name, in_statement, function_parts}
use Rattle.ja_syntax.specs.declared.tree.FunctionOf.{FunctionOf}
use Rattle.ja_syntax.specs.declared.tree.Statement.{Statement}
use Rattle.ja_lower_draft.specs.Lines.{Scene}
use Rattle.ja_lower_expressions.specs.Literals.{same_place}
use Rattle.ja_lower_expressions.specs.Specials.{is_name}

-- a text is one of the names
abbrev pub HasName : Scene → List ℕ → Type 0
HasName scene text = list_any (bytes_eq text) scene.names ≡ true

-- a function of the text has its word `function` at this place
abbrev pub HasFunctionAt : Scene → Place → Type 0
HasFunctionAt scene place = list_any (same_place place) scene.functions ≡ true

-- a part of a text: a function, or a name of the program
abbrev pub HasPart : Scene → Part → Type 0
HasPart scene (a_function f) = HasFunctionAt scene f.place
HasPart scene (a_name n) = is_name scene.specials n ≡ true → HasName scene n.text

abbrev pub HasParts : Scene → Parts → Type 0
HasParts scene parts = AllByRecursion (HasPart scene) parts

-- the names and the functions of statements, functions inside among them
abbrev pub HasText : Scene → List Statement → Type 0
HasText scene statements = HasParts scene (flat_map in_statement statements)

-- a function, its name, its parameters, and the names and the functions of its body
abbrev pub HasFunction : Scene → FunctionOf Statement → Type 0
HasFunction scene f = HasParts scene (function_parts f)
