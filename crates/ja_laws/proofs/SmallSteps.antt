-- What a node of the small program gives, as it is seen in the states that it goes on with.
use Rattle.std.specs.Prelude.{ℕ, List, map}
use Rattle.std.specs.Global.{Global}
use Rattle.std.specs.Prelude.{String}
use Rattle.ja_base.specs.declared.ids.Context.{Context}
use Rattle.ja_base.specs.declared.ids.Label.{Label}
use Rattle.ja_graph.specs.declared.node.Node.{Node}
use Rattle.ja_abstract.specs.declared.abstraction.Key.{Key}
use Rattle.ja_abstract.specs.AbstractState.{AbstractState}
use Rattle.ja_laws.proofs.SmallProgram.{function_id, global_object, info, view, seen, SeenValue, seen_at, SeenProperty, demanded}
use Rattle.ja_rows.specs.declared.table.Edge.{Edge}
use Rattle.ja_rows.specs.Calls.{entered_by}
use Rattle.ja_rows.specs.Out.{Out, Point}
use Rattle.ja_rows.specs.Transfer.{transfer}

-- in function 1, at its node 0
abbrev pub here : Context
here = record { function = function_id 1; receiver = global_object }

abbrev pub point : Node → Point
point n = record { context = here; number = record { 0 = 0 }; info = info n }

abbrev pub gives : String Global → Node → AbstractState → Out
gives text n a = transfer (view text a) (point n)

-- the nodes that are gone to, and what is seen there
abbrev pub seen_in : {A : Type 0} → (AbstractState → A) → Out → List (ℕ × A)
seen_in see o = map (λ (g : ℕ × AbstractState). (g.0, see g.1)) o.states

abbrev pub register : ℕ → AbstractState → SeenValue
register r a = seen (a.register r)

-- a register behind a node of the small program
abbrev pub sets : String Global → Node → AbstractState → ℕ → List (ℕ × SeenValue)
sets text n a r = seen_in (register r) (gives text n a)

-- a property behind it
abbrev pub leaves : String Global → Node → AbstractState → Label → Key → List (ℕ × SeenProperty)
leaves text n a l k = seen_in (seen_at l k) (gives text n a)

-- the nodes that are gone to
abbrev pub goes_to : String Global → Node → AbstractState → List ℕ
goes_to text n a = map (λ (g : ℕ × AbstractState). g.0) (gives text n a).states

-- the pairs that it demands at some keys
abbrev pub demands : String Global → Node → AbstractState → List Key → List (Key × List Label)
demands text n a keys = demanded keys (gives text n a).demands

-- its call edges, by function and receiver
abbrev pub edges : String Global → Node → AbstractState → List (ℕ × Label)
edges text n a =
    map (λ (e : Edge). (e.callee.function.0, e.callee.receiver)) (gives text n a).edges

-- each edge begins where the node stands
abbrev pub edge : ℕ → Label → Edge
edge f receiver = record {
  caller = here;
  node = record { 0 = 0 };
  callee = record { function = function_id f; receiver = receiver };
}

-- the state with which an edge enters its callee
abbrev pub enters : String Global → Node → AbstractState → ℕ → Label → AbstractState
enters text n a f receiver = (entered_by (view text a) (edge f receiver) n).state

-- the pairs that entering demands at some keys
abbrev pub enter_demands :
    String Global → Node → AbstractState → ℕ → List Key → List (Key × List Label)
enter_demands text n a f keys =
    demanded keys (entered_by (view text a) (edge f global_object) n).demands
