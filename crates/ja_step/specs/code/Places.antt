-- Where properties are, and the objects that they hold.
use Rattle.std.specs.Prelude.{ℕ, List, Option, Some, None}
use Rattle.ja_machine.specs.declared.machine.Addr.{Addr}
use Rattle.ja_machine.specs.declared.machine.Content.{Content}
use Rattle.ja_machine.specs.declared.machine.Content.TheVariants as contents
use Rattle.ja_machine.specs.declared.machine.Value.{Value}
use Rattle.ja_machine.specs.declared.machine.Value.TheVariants as value

-- where a value is an object and there is a key
abbrev pub place_of : Value → Option (List ℕ) → Option (Addr × List ℕ)
place_of (value.Object a) (Some key) = Some (a, key)
place_of (value.Object a) None = None
place_of (value.Primitive q) key = None

-- the object that is held
abbrev pub object_held : Option Content → Option Addr
object_held None = None
object_held (Some contents.Row) = None
object_held (Some (contents.Value (value.Object a))) = Some a
object_held (Some (contents.Value (value.Primitive q))) = None
