-- What a step comes to: a state that goes on, an error that is thrown, or an end.
use Rattle.std.specs.Prelude.{ℕ, ◌+◌, if◌then◌else◌, List, ◌∷◌, ◌++◌, Some, None, Ok, Err}
use lib.Chars.{codes}
use Rattle.ja_base.specs.declared.ids.Reg.{Reg}
use Rattle.ja_base.specs.declared.ids.Site.{Site}
use Rattle.ja_base.specs.declared.ids.ScopeKind.{ScopeKind}
use Rattle.ja_base.specs.declared.ids.ScopeKind.TheVariants.{TextLength, Register, Row}
use Rattle.ja_graph.specs.declared.node.NodeInfo.{NodeInfo}
use Rattle.ja_prim.specs.Texts.{is_short}
use Rattle.ja_machine.specs.declared.machine.Value.{Value}
use Rattle.ja_machine.specs.declared.machine.Value.TheVariants as value
use Rattle.ja_machine.specs.declared.machine.Content.{Content}
use Rattle.ja_machine.specs.declared.machine.Content.TheVariants as contents
use Rattle.ja_machine.specs.declared.machine.Heap.{Heap}
use Rattle.ja_machine.specs.declared.machine.Frame.{Frame}
use Rattle.ja_machine.specs.declared.machine.Conf.{Conf}
use Rattle.ja_machine.specs.declared.machine.End.{End}
use Rattle.ja_machine.specs.declared.machine.End.TheVariants as ending
use Rattle.ja_machine.specs.declared.machine.Event.{Event}
use Rattle.ja_machine.specs.declared.machine.Event.TheVariants as event
use Rattle.ja_machine.specs.Heap.{with_new, new_address}
use Rattle.ja_machine.specs.Frames.{thrown, moved_to, with_result}
use Rattle.ja_machine.specs.Objects.{error_object}
use Rattle.ja_machine.specs.Values.{OperatorOutcome, kind_of}

-- Where a step is taken: the state, its top frame, the frames below, and the node at which the top
-- frame stands.
pub record Standing : Type 0 where
  pub conf : Conf
  pub top : Frame
  pub below : List Frame
  pub info : NodeInfo

-- the state after a step that leaves this heap and these frames
abbrev pub next_state : Conf → Heap → List Frame → Event
next_state c h frames = event.Next (record { heap = h; frames = frames; steps = c.steps + 1 })

abbrev pub end_state : Conf → End → Event
end_state c e = event.End e (record c { steps = c.steps + 1 })

-- the node goes on to `next`, with this heap
abbrev pub goes_on : Standing → Heap → Event
goes_on s h = next_state s.conf h (moved_to s.top s.info.next ∷ s.below)

-- .. and sets a register
abbrev pub sets_in : Standing → Heap → Reg → Value → Event
sets_in s h dst v = next_state s.conf h (with_result s.top dst v s.info.next ∷ s.below)

abbrev pub sets : Standing → Reg → Value → Event
sets s dst v = sets_in s s.conf.heap dst v

-- the run leaves the profile at the node's place
abbrev pub left_scope : Standing → ScopeKind → Event
left_scope s kind = end_state s.conf (ending.Scope kind s.info.place)

-- the node throws a value: its handler has it in `thrown`
abbrev pub throws_value : Standing → Heap → Value → Event
throws_value s h v = next_state s.conf h (with_result s.top thrown v s.info.handler ∷ s.below)

-- the node throws an error, which it makes at a site; a message that is too long leaves the profile
abbrev pub throws : Standing → Site → Site → List ℕ → Event
throws s error prototype message =
    if is_short message
    then throws_value s (with_new s.conf.heap error (error_object prototype message))
    (value.Object (new_address s.conf.heap error))
    else left_scope s TextLength

-- a row that is read leaves the profile
abbrev pub sets_content : Standing → Reg → Content → Event
sets_content s dst (contents.Value v) = sets s dst v
sets_content s dst contents.Row = left_scope s Row

-- what an operation gives: an operation that doesn't take the values in its registers leaves the
-- profile
abbrev pub sets_outcome : Standing → Reg → OperatorOutcome → Event
sets_outcome s dst None = left_scope s Register
sets_outcome s dst (Some (Ok q)) = sets s dst (value.Primitive q)
sets_outcome s dst (Some (Err stop)) = left_scope s (kind_of stop)

-- ---- the messages of errors

abbrev pub unbound_message : List ℕ → List ℕ
unbound_message name = name ++ codes " is not bound"

abbrev pub nothing_message : List ℕ
nothing_message = codes "property of null or undefined"

abbrev pub not_an_object_message : List ℕ
not_an_object_message = codes "right operand of in is not an object"

abbrev pub array_length_message : List ℕ
array_length_message = codes "array length"

abbrev pub no_function_message : List ℕ
no_function_message = codes "right operand of instanceof is not a function"

abbrev pub no_prototype_message : List ℕ
no_prototype_message = codes "prototype is not an object"

abbrev pub not_a_function_message : List ℕ
not_a_function_message = codes "call of a value that is not a function"

abbrev pub not_a_constructor_message : List ℕ
not_a_constructor_message = codes "new of a value that is not a constructor"
