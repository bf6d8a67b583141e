-- The answers that a run is given which nobody is asked about, and what a device is given.
use Rattle.std.specs.Prelude.{List, [], ◌∷◌}
use Rattle.std.specs.List.{flat_map}
use Rattle.ja_prim.specs.declared.primitive.Primitive.{Primitive}
use Rattle.ja_machine.specs.declared.machine.Answer.{Answer}
use Rattle.ja_machine.specs.declared.machine.Answer.TheVariants as answers
use Rattle.ja_machine.specs.declared.machine.Value.{Value}
use Rattle.ja_machine.specs.declared.machine.Value.TheVariants as value
use Rattle.ja_machine.specs.declared.machine.Wants.{Wants}
use Rattle.ja_machine.specs.declared.machine.Wants.TheVariants as wanted

-- leave to go on, and the first of the names that a `for`-`in` may take; a device answers itself
abbrev pub answer_to : Wants → Answer
answer_to wanted.Tick = answers.Tick
answer_to (wanted.Pick count) = answers.Pick 0
answer_to (wanted.Device which) = answers.Tick

-- a value, if it is primitive
abbrev pub primitive_in : Value → List Primitive
primitive_in (value.Primitive q) = q ∷ []
primitive_in (value.Object a) = []

-- the primitive values among some, in order
abbrev pub primitives : List Value → List Primitive
primitives vs = flat_map primitive_in vs
