-- What holds of each state of a run.
use Rattle.std.specs.Prelude.{◌≡◌, ◌<◌, ◌≤◌, ℕ, ◌+◌, Bool, true, false, List, [], ◌∷◌, map, length}
use Rattle.std.specs.Prelude.{slice_get, Some, IsSome, IsTrue}
use Rattle.std.specs.List.{IsDistinct}
use Rattle.ja_base.specs.declared.ids.Site.{Site}
use Rattle.ja_prim.specs.Texts.{same_text}
use Rattle.ja_graph.specs.declared.node.Node.{Node}
use Rattle.ja_graph.specs.declared.node.Node.TheVariants as node
use Rattle.ja_graph.specs.declared.node.NodeInfo.{NodeInfo}
use Rattle.ja_graph.specs.declared.registers.TheConstants.{CALLEE_REGISTER, COUNT, REST, THIS}
use Rattle.ja_graph.specs.declared.program.Function.{Function}
use Rattle.ja_graph.specs.declared.program.Program.{Program}
use Rattle.ja_graph.specs.declared.program.SiteInfo.{SiteInfo}
use Rattle.ja_graph.specs.Program.{node_at, is_arguments_site, runs_function}
use Rattle.ja_machine.specs.declared.machine.Addr.{Addr}
use Rattle.ja_machine.specs.declared.machine.Value.{Value}
use Rattle.ja_machine.specs.declared.machine.Value.TheVariants as value
use Rattle.ja_machine.specs.declared.machine.Content.{Content}
use Rattle.ja_machine.specs.declared.machine.Content.TheVariants as contents
use Rattle.ja_machine.specs.declared.machine.Property.{Property}
use Rattle.ja_machine.specs.declared.machine.Object.{Object}
use Rattle.ja_machine.specs.declared.machine.Heap.{Heap}
use Rattle.ja_machine.specs.declared.machine.Frame.{Frame}
use Rattle.ja_machine.specs.declared.machine.Conf.{Conf}
use Rattle.ja_machine.specs.Heap.{count, size, object_at, prototype_of, outer_of}
use Rattle.ja_machine.specs.Writes.{whole_number}
use Rattle.ja_machine.specs.Frames.{undefined, object_or_undefined, argument}
use Rattle.ja_machine.specs.Calls.{max_arguments}
use Rattle.ja_machine.specs.Machine.{class_of_site, program_function}

-- ---- heaps

-- an object of the heap
abbrev pub IsObjectOf : Heap → Addr → Type 0
IsObjectOf h a = IsSome (object_at h a)

-- a value is a primitive or an object of the heap
abbrev pub IsValueOf : Heap → Value → Type 0
IsValueOf h (value.Primitive q) = Unit {0}
IsValueOf h (value.Object a) = IsObjectOf h a

abbrev pub IsContentOf : Heap → Content → Type 0
IsContentOf h (contents.Value v) = IsValueOf h v
IsContentOf h contents.Row = Unit {0}

-- no two properties have one name
abbrev pub HaveDistinctNames : List Property → Type 0
HaveDistinctNames qs = IsDistinct same_text (map (λ (q : Property). q.name) qs)

-- an object of a site that runs a function, where it is called or where it constructs, has a scope
-- chain (13.2)
abbrev pub IsScoped : Program → Site → Object → Type 0
IsScoped p s o =
    (info : SiteInfo) → slice_get p.sites s.0 ≡ Some info → IsTrue (runs_function info)
    → IsSome o.slots.scope

-- An object has the class of its site, and is an arguments object where its site is one of them.
-- The links and the properties of an object lead to objects of the heap. Its prototype and its
-- outer object were made before it; its rank is how many objects were. It has one property of a
-- name at most.
pub record IsHeap (p : Program) (h : Heap) : Type 0 where
  pub rows : length h.objects ≡ length p.sites
  pub class : (a : Addr) (o : Object) → object_at h a ≡ Some o → o.class ≡ class_of_site p a.site.0
  pub arguments : (a : Addr) (o : Object) → object_at h a ≡ Some o
      → o.slots.arguments ≡ is_arguments_site p a.site
  pub properties : (a : Addr) (o : Object) (i : ℕ) (q : Property) → object_at h a ≡ Some o
      → slice_get o.properties i ≡ Some q → IsContentOf h q.content
  pub names : (a : Addr) (o : Object) → object_at h a ≡ Some o → HaveDistinctNames o.properties
  pub scope : (a b : Addr) (o : Object) → object_at h a ≡ Some o → o.slots.scope ≡ Some b
      → IsObjectOf h b
  pub scoped : (a : Addr) (o : Object) → object_at h a ≡ Some o → IsScoped p a.site o
  pub rank : Addr → ℕ
  pub ranked : (a : Addr) → IsObjectOf h a → rank a < size h
  pub prototype_before : (a b : Addr) (o : Object) → object_at h a ≡ Some o
      → prototype_of o ≡ Some b → IsObjectOf h b × (rank b < rank a)
  pub outer_before : (a b : Addr) (o : Object) → object_at h a ≡ Some o → outer_of o ≡ Some b
      → IsObjectOf h b × (rank b < rank a)
  pub opening : (s : Site) → s.0 < length p.opening → count h s ≡ 1

-- ---- frames

-- A frame of a function of the program stands at one of its nodes and has its registers. `this`,
-- `callee`, `count` and the parameters hold what it was entered with, and the rest of the arguments
-- is undefined. There are no more arguments than indices (15.4).
pub record IsFrame (p : Program) (h : Heap) (f : Frame) : Type 0 where
  pub function : Function
  pub function_is : slice_get p.functions f.function.0 ≡ Some function
  pub node_fits : f.node.0 < length function.nodes
  pub registers : length f.registers ≡ function.registers
  pub values : (r : ℕ) (v : Value) → slice_get f.registers r ≡ Some v → IsValueOf h v
  pub receiver : IsObjectOf h f.receiver
  pub callee : (a : Addr) → f.callee ≡ Some a → IsObjectOf h a
  pub scope : IsObjectOf h f.scope
  pub arguments : (i : ℕ) (v : Value) → slice_get f.arguments i ≡ Some v → IsValueOf h v
  pub few_arguments : length f.arguments ≤ max_arguments
  pub this_is : slice_get f.registers THIS.0 ≡ Some (value.Object f.receiver)
  pub callee_is : slice_get f.registers CALLEE_REGISTER.0 ≡ Some (object_or_undefined f.callee)
  pub count_is : slice_get f.registers COUNT.0 ≡ Some (whole_number (length f.arguments))
  pub parameters_are : (i : ℕ) → i < length function.parameters
      → slice_get f.registers (REST.0 + i) ≡ Some (argument f.arguments i)
  pub rest_is : slice_get f.registers (REST.0 + length function.parameters) ≡ Some undefined

abbrev pub AreFrames : Program → Heap → List Frame → Type 0
AreFrames p h [] = Unit {0}
AreFrames p h (f ∷ fs) = IsFrame p h f × AreFrames p h fs

-- the nodes at which a frame stands while the function runs that it has entered
abbrev pub enters_functions : Node → Bool
enters_functions (node.Call dst callee receiver args error) = true
enters_functions (node.New dst callee args site error) = true
enters_functions (node.Convert dst src hint other) = true
enters_functions node = false

pub record IsWaiting (p : Program) (f : Frame) : Type 0 where
  pub info : NodeInfo
  pub info_is : node_at p f.function f.node ≡ Some info
  pub enters : enters_functions info.node ≡ true

abbrev pub AreWaiting : Program → List Frame → Type 0
AreWaiting p [] = Unit {0}
AreWaiting p (f ∷ fs) = IsWaiting p f × AreWaiting p fs

-- the lowest frame is the program's
abbrev pub IsLowest : List Frame → Type 0
IsLowest [] = ⊥
IsLowest (f ∷ []) = f.function ≡ program_function
IsLowest (f ∷ g ∷ fs) = IsLowest (g ∷ fs)

-- the frames below the top one
abbrev pub below_top : List Frame → List Frame
below_top [] = []
below_top (f ∷ fs) = fs

-- ---- states

-- A state has a frame, and its lowest one is the program's. Each frame below the top one waits for
-- a function that it has entered. No site of a node has more objects than steps were made.
pub record IsState (p : Program) (c : Conf) : Type 0 where
  pub heap : IsHeap p c.heap
  pub frames : AreFrames p c.heap c.frames
  pub waiting : AreWaiting p (below_top c.frames)
  pub lowest : IsLowest c.frames
  pub counts : (s : Site) → length p.opening ≤ s.0 → count c.heap s ≤ c.steps
