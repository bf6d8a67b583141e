-- The built-in functions, in the order of their objects: each its path beside its text.
use Rattle.std.specs.Prelude.{ℕ, List, ◌++◌, map}
use Rattle.ja_prelude.specs.declared.texts.TheConstants.{CONSTRUCTORS, OBJECT_FUNCTIONS, VALUE_FUNCTIONS}

abbrev pub PathAndText : Type 0
PathAndText = List ℕ × List ℕ

abbrev pub constructors : List PathAndText
constructors = map (λ f. (f.0.now, f.1.now)) CONSTRUCTORS

abbrev pub object_functions : List PathAndText
object_functions = map (λ f. (f.0.now, f.1.now)) OBJECT_FUNCTIONS

abbrev pub value_functions : List PathAndText
value_functions = map (λ f. (f.0.now, f.1.now)) VALUE_FUNCTIONS

abbrev pub functions : List PathAndText
functions = constructors ++ object_functions ++ value_functions
