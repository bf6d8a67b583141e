-- The programs that are generated, by how many classes they have. Their bytes are ASCII, and each
-- line ends with LF.
use Rattle.std.specs.Prelude.{ℕ, List, ◌++◌}
use lib.Chars.{codes}
use Rattle.std.specs.Fmt.{decimal}
use Rattle.std.specs.List.{flat_map, range_with_len}

-- the greatest number of classes
abbrev pub max_number : ℕ
max_number = 200

-- the function that every result goes through
abbrev pub identity_line : List ℕ
identity_line = codes "function id(x) { return x; }\n"

-- a class is a constructor
unfoldable pub constructor_line : ℕ → List ℕ
constructor_line i = codes "function C" ++ decimal i ++ codes "(a) { this.p = a; }\n"

-- .. and a method
unfoldable pub method_line : ℕ → List ℕ
method_line i = codes "C" ++ decimal i ++ codes ".prototype.m = function () { return this.p; };\n"

-- an object is made of it
unfoldable pub object_line : ℕ → List ℕ
object_line i =
    codes "var o" ++ decimal i ++ codes " = new C" ++ decimal i ++ codes "(" ++ decimal i
    ++ codes ");\n"

-- .. and its method is called
unfoldable pub result_line : ℕ → List ℕ
result_line i = codes "var r" ++ decimal i ++ codes " = id(o" ++ decimal i ++ codes ".m());\n"

-- the lines of a class, by its number
unfoldable pub class_text : ℕ → List ℕ
class_text i = constructor_line i ++ method_line i ++ object_line i ++ result_line i

-- the program with the classes from 1 to this number
unfoldable pub generated_text : ℕ → List ℕ
generated_text number = identity_line ++ flat_map class_text (range_with_len 1 number)
