-- What a node gives: states at nodes, values at entry that are demanded, and call edges (SAS 2009;
-- demands: SAS 2010). The parts of which the rows of nodes are made.
use Rattle.std.specs.Prelude.{ℕ, Bool, ◌&&◌, if◌then◌else◌, List, [], ◌∷◌, ◌++◌, map}
use Rattle.ja_base.specs.declared.ids.Context.{Context}
use Rattle.ja_base.specs.declared.ids.NameId.{NameId}
use Rattle.ja_base.specs.declared.ids.NodeId.{NodeId}
use Rattle.ja_base.specs.declared.ids.Reg.{Reg}
use Rattle.ja_base.specs.declared.ids.Site.{Site}
use Rattle.ja_prim.specs.Texts.{is_short}
use Rattle.ja_graph.specs.declared.builtins.TheConstants as builtins
use Rattle.ja_graph.specs.declared.node.NodeInfo.{NodeInfo}
use Rattle.ja_machine.specs.Frames.{thrown}
use Rattle.ja_abstract.specs.declared.abstraction.Key.{Key}
use Rattle.ja_abstract.specs.declared.abstraction.Key.TheVariants as key
use Rattle.ja_abstract.specs.AbstractValue.{Labels, AbstractValue, of_label}
use Rattle.ja_abstract.specs.AbstractState.{AbstractState, new, with_register}
use Rattle.ja_abstract.specs.Resolved.{Demands}
use Rattle.ja_abstract.specs.Keys.{keys_of_value}
use Rattle.ja_abstract.specs.Reading.{View, has_present, no_demands, own, get}
use Rattle.ja_abstract.specs.Made.{Own, error_own, with_object}
use Rattle.ja_abstract.specs.Writes.{Deletion}
use Rattle.ja_abstract.specs.Values.{as_read}
use Rattle.ja_rows.specs.declared.table.Edge.{Edge}

-- what a node gives: states with the numbers of the nodes that they go to, pairs that are demanded,
-- and call edges
pub record Out : Type 0 where
  pub states : List (ℕ × AbstractState)
  pub demands : Demands
  pub edges : List Edge

-- where a step is taken: in a context, at a node
pub record Point : Type 0 where
  pub context : Context
  pub number : NodeId
  pub info : NodeInfo

abbrev pub Given : Type 0
Given = List (ℕ × AbstractState)

abbrev pub out : Given → Demands → Out
out states demands = record { states = states; demands = demands; edges = [] }

abbrev pub nowhere : Out
nowhere = out [] no_demands

-- ---- alternatives

abbrev pub goes : Bool → NodeId → AbstractState → Given
goes b node a = if b then (node.0, a) ∷ [] else []

abbrev pub all_go : NodeId → List AbstractState → Given
all_go node = map (λ a. (node.0, a))

-- a register is set, if the value has some part
abbrev pub sets_in : View → AbstractState → Reg → AbstractValue → NodeId → Given
sets_in w a dst v next = goes (has_present w v) next (with_register a dst v)

abbrev pub sets : View → Reg → AbstractValue → NodeId → Given
sets w dst v next = sets_in w w.state dst v next

abbrev pub sets_results : View → Reg → NodeId → List Deletion → Given
sets_results w dst next [] = []
sets_results w dst next (r ∷ rs) = sets_in w r.1 dst r.0 next ++ sets_results w dst next rs

-- an error is made at a site and thrown; a message that is too long leaves the profile
abbrev pub with_error : View → Site → Site → List ℕ → AbstractState
with_error w error proto text =
    with_register (with_object w.program w.state error (λ b. error_own proto text)) thrown
    (of_label (new error))

abbrev pub throws : View → Bool → NodeInfo → Site → Site → List ℕ → Given
throws w b info error proto text =
    goes (b && is_short text) info.handler (with_error w error proto text)

abbrev pub type_error : View → Bool → NodeInfo → Site → List ℕ → Given
type_error w b info error text = throws w b info error builtins.TYPE_ERROR_PROTOTYPE text

-- an object is made at a site, and a register has it
abbrev pub makes : View → Reg → Site → (AbstractState → Own) → AbstractState
makes w dst site own =
    with_register (with_object w.program w.state site own) dst (of_label (new site))

abbrev pub makes_if : View → Bool → Reg → Site → Own → NodeId → Given
makes_if w b dst site own next = goes b next (makes w dst site (λ a. own))

-- ---- registers, keys, labels

abbrev pub at : View → Reg → AbstractValue
at w r = w.state.register r.0

abbrev pub name_keys : NameId → List Key
name_keys name = key.Name name ∷ []

abbrev pub keys_in : View → Reg → List Key
keys_in w r = keys_of_value w.program (at w r)

-- ---- parts of clauses

-- [[Get]] into a register
abbrev pub read_value : View → Labels → List Key → AbstractValue
read_value w start keys = as_read (get w start keys).value

abbrev pub reads : View → Reg → Labels → List Key → NodeId → Given
reads w dst start keys next = sets w dst (read_value w start keys) next
