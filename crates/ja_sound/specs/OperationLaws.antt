-- The operations of the built-in functions: each abstract one covers that of the machine.
use Rattle.std.specs.Prelude.{◌≡◌, ℕ, List, [], ◌∷◌, Some, Ok, IsTrue, slice_get}
use Rattle.ja_prim.specs.declared.primitive.Primitive.{Primitive}
use Rattle.ja_graph.specs.WellFormed.{IsWellFormed}
use Rattle.ja_machine.specs.declared.machine.Value.{Value}
use Rattle.ja_machine.specs.declared.machine.Heap.{Heap}
use Rattle.ja_machine.specs.Intrinsics.{Computation, rows}
use Rattle.ja_machine.specs.State.{IsValueOf}
use Rattle.ja_abstract.specs.AbstractValue.{AbstractValue}
use Rattle.ja_abstract.specs.Operations.{operation}
use Rattle.ja_abstract.specs.Parts.{has_primitive}
use Rattle.ja_abstract.specs.Reading.{View}
use Rattle.ja_abstract.specs.Resolved.{IsFilled}
use Rattle.ja_meaning.specs.Meaning.{has_value}
use Rattle.ja_meaning.specs.Moments.{Reads}

-- values of the heap, each of which is in the abstract value at its place
abbrev pub AreIn : Heap → List AbstractValue → List Value → Type 0
AreIn h [] [] = Unit {0}
AreIn h (v ∷ vs) (x ∷ xs) = IsValueOf h x × IsTrue (has_value h v x) × AreIn h vs xs
AreIn h vs xs = ⊥

-- Where a view's state holds of the heap at a function's entry and of the heap now, and what the
-- operation demands is there, the result of the machine's operation of that number is in what the
-- abstract operation gives.
abbrev pub OperationsCover : Type 0
OperationsCover =
    (at_entry now : Heap) (w : View) (which : ℕ) (row : Computation) (vs : List AbstractValue)
    (xs : List Value) (q : Primitive) → IsWellFormed w.program → Reads at_entry now w
    → AreIn now vs xs → IsFilled w.entries (operation which w vs).demands
    → slice_get rows which ≡ Some row → row xs now ≡ Ok q
    → IsTrue (has_primitive (operation which w vs).value q)
