-- How the end of a run is told.
use Rattle.std.specs.Prelude.{ℕ, true, false, List, ◌++◌, Option, Some, None, unwrap_or}
use Rattle.std.specs.Fmt.{signed_decimal}
use lib.Chars.{codes}
use Rattle.ja_prim.specs.declared.primitive.Num.TheVariants.{NaN, Whole}
use Rattle.ja_prim.specs.declared.primitive.Primitive.{Primitive}
use Rattle.ja_prim.specs.declared.primitive.Primitive.TheVariants.{Undefined, Null, Bool, Number, Text}
use Rattle.ja_graph.specs.declared.program.Class.{Class}
use Rattle.ja_graph.specs.declared.program.Class.TheVariants as class
use Rattle.ja_texts.specs.Texts.{plain, quoted, class_text}
use Rattle.ja_machine.specs.declared.machine.Addr.{Addr}
use Rattle.ja_machine.specs.declared.machine.Value.{Value}
use Rattle.ja_machine.specs.declared.machine.Value.TheVariants as value
use Rattle.ja_machine.specs.declared.machine.Content.{Content}
use Rattle.ja_machine.specs.declared.machine.Content.TheVariants as contents
use Rattle.ja_machine.specs.declared.machine.Heap.{Heap}
use Rattle.ja_machine.specs.declared.machine.End.{End}
use Rattle.ja_machine.specs.declared.machine.End.TheVariants as ending
use Rattle.ja_machine.specs.Heap.{content_at, class_at}
use Rattle.ja_run.specs.declared.ended.RunEnd.{RunEnd}
use Rattle.ja_run.specs.declared.ended.RunEnd.TheVariants as run_end

-- a primitive value: a text stands in quotes
abbrev pub primitive_text : Primitive → List ℕ
primitive_text Undefined = codes "undefined"
primitive_text Null = codes "null"
primitive_text (Bool true) = codes "true"
primitive_text (Bool false) = codes "false"
primitive_text (Number NaN) = codes "NaN"
primitive_text (Number (Whole n)) = signed_decimal n
primitive_text (Text units) = quoted units

-- the text that [[Get]] gives of an object (ES3 8.6.2.1), if it is one
abbrev pub text_held : Option Content → Option (List ℕ)
text_held (Some (contents.Value (value.Primitive (Text units)))) = Some units
text_held content = None

abbrev pub text_at : Heap → Addr → List ℕ → Option (List ℕ)
text_at h a name = text_held (content_at h a name)

-- an error by its name and its message, where both are texts (15.11); any other object by its class
abbrev pub object_text : Class → Option (List ℕ) → Option (List ℕ) → List ℕ
object_text class.Error (Some name) (Some message) = plain name ++ codes ": " ++ plain message
object_text class name message = codes "object " ++ class_text class

-- a value that nothing caught
abbrev pub uncaught_text : Heap → Value → List ℕ
uncaught_text h (value.Primitive q) = primitive_text q
uncaught_text h (value.Object a) =
    object_text (unwrap_or (class_at h a) class.Object) (text_at h a (codes "name"))
    (text_at h a (codes "message"))

-- an end of the machine, with the heap in which it ends
abbrev pub run_end_of : Heap → End → RunEnd
run_end_of h ending.Normal = run_end.Normal
run_end_of h (ending.Uncaught v) = run_end.Uncaught (uncaught_text h v)
run_end_of h (ending.Scope kind place) = run_end.Scope kind place
