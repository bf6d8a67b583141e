-- The values that a table says of an operation: of what it is about (a callee, what is converted to
-- an object, the base of a name, the object whose property is read), and of the name of that.
use Rattle.std.specs.Prelude.{◌+◌, ℕ, Bool, false, if◌then◌else◌, ◌==◌, List, drop, find, map, reverse, take, Option, Some, None, is_some}
use Rattle.std.specs.Option.{option_and_then, option_map, option_map_or}
use Rattle.ja_base.specs.declared.ids.FnId.{FnId}
use Rattle.ja_base.specs.declared.ids.NodeId.{NodeId}
use Rattle.ja_base.specs.declared.ids.Reg.{Reg}
use Rattle.ja_prim.specs.declared.primitive.Primitive.TheVariants as primitive
use Rattle.ja_graph.specs.declared.node.Node.{Node}
use Rattle.ja_graph.specs.declared.node.Node.TheVariants as node
use Rattle.ja_graph.specs.declared.node.NodeInfo.{NodeInfo}
use Rattle.ja_graph.specs.declared.program.Program.{Program}
use Rattle.ja_graph.specs.Node.{register_set}
use Rattle.ja_graph.specs.Program.{nodes_of}
use Rattle.ja_machine.specs.Nodes.{name_text}
use Rattle.ja_abstract.specs.declared.abstraction.TextPart.TheVariants as text_part
use Rattle.ja_abstract.specs.AbstractState.{labels_of}
use Rattle.ja_abstract.specs.AbstractValue.{AbstractValue, has_part, no_value, of_primitive}
use Rattle.ja_abstract.specs.Order.{LeqValue}
use Rattle.ja_abstract.specs.Reading.{View}
use Rattle.ja_rows.specs.declared.table.Warning.{Warning}
use Rattle.ja_rows.specs.Out.{at}
use Rattle.ja_rows.specs.Table.{Table}
use Rattle.ja_rows.specs.Warning.{Test, Operation, IsReached, one_text, operation_of}
use Rattle.ja_value.specs.Value.{value_of}
use Rattle.ja_warn.specs.declared.reached.Told.{Told}

-- what a state says of a node of a function
abbrev pub About : Type 0
About = View → FnId → NodeId → Node → AbstractValue

-- ---- what an operation is about

-- the register whose value the tests of a node are about
abbrev pub subject : Node → Option Reg
subject (node.Call dst callee receiver args error) = Some callee
subject (node.New dst callee args site error) = Some callee
subject (node.ToObject dst src sites error) = Some src
subject (node.ReadRef dst base name error) = Some base
subject (node.ReadSoft dst base name) = Some base
subject (node.ReadProp dst object key) = Some object
subject n = None

abbrev pub value_at : About
value_at w f n node = option_map_or (at w) (subject node) no_value

-- ---- its name

-- exactly a text
abbrev pub text_value : List ℕ → AbstractValue
text_value t = of_primitive (primitive.Text t)

-- the key of a property of the object in a register
abbrev pub key_if : Bool → Reg → Option Reg
key_if b key = if b then Some key else None

abbrev pub key_of : Reg → Node → Option Reg
key_of r (node.ReadProp dst object key) = key_if (object.0 == r.0) key
key_of r (node.WriteProp object key src error) = key_if (object.0 == r.0) key
key_of r (node.DeleteProp dst object key) = key_if (object.0 == r.0) key
key_of r (node.HasProp dst object key) = key_if (object.0 == r.0) key
key_of r n = None

-- .. in the first of some nodes that has one
abbrev pub first_key : Reg → List NodeInfo → Option Reg
first_key r nodes =
    option_and_then (λ (i : NodeInfo). key_of r i.node)
    (find (λ (i : NodeInfo). is_some (key_of r i.node)) nodes)

-- the last of some nodes that sets a register
abbrev pub is_set_by : Reg → Node → Bool
is_set_by r n = option_map_or (λ (dst : Reg). dst.0 == r.0) (register_set n) false

abbrev pub setter : Reg → List NodeInfo → Option Node
setter r nodes =
    option_map (λ (i : NodeInfo). i.node)
    (find (λ (i : NodeInfo). is_set_by r i.node) (reverse nodes))

-- a callee goes by the name that it was read by, or by the key if that is a constant
abbrev pub constant_name : Option Node → AbstractValue
constant_name (Some (node.Const dst (primitive.Text t))) = text_value t
constant_name n = no_value

abbrev pub callee_name : Program → List NodeInfo → Option Node → AbstractValue
callee_name p front (Some (node.ReadRef dst base name error)) = text_value (name_text p name)
callee_name p front (Some (node.ReadProp dst object key)) = constant_name (setter key front)
callee_name p front n = no_value

-- the name of a variable, the key of a property, or the name of a callee, at a node of these
abbrev pub named : View → List NodeInfo → NodeId → Node → AbstractValue
named w nodes n (node.ReadRef dst base name error) = text_value (name_text w.program name)
named w nodes n (node.ReadSoft dst base name) = text_value (name_text w.program name)
named w nodes n (node.ReadProp dst object key) = at w key
named w nodes n (node.ToObject dst src sites error) =
    option_map_or (at w) (first_key dst (drop (n.0 + 1) nodes)) no_value
named w nodes n (node.Call dst callee receiver args error) =
    callee_name w.program (take n.0 nodes) (setter callee (take n.0 nodes))
named w nodes n (node.New dst callee args site error) =
    callee_name w.program (take n.0 nodes) (setter callee (take n.0 nodes))
named w nodes n m = no_value

abbrev pub name_at : About
name_at w f n node = named w (nodes_of w.program f) n node

-- the name is one text and nothing else
abbrev pub name_of : Program → AbstractValue → Option (List ℕ)
name_of p v =
    if has_part (labels_of p) (record v { text = text_part.Nothing }) then None
    else one_text v.text

-- ---- over all states

-- the value has whatever is said of the operation in some state of the table
abbrev pub IsAbove : About → Program → Table → Operation → AbstractValue → Type 0
IsAbove about p t o v =
    (test : Test) (w : View) (reached : IsReached p t o test w)
    → LeqValue (about w reached.context.function reached.number reached.info.node) v

-- .. and nothing else
pub record IsLeast (about : About) (p : Program) (t : Table) (o : Operation)
    (v : AbstractValue) : Type 0 where
  pub above : IsAbove about p t o v
  pub least : (u : AbstractValue) → IsAbove about p t o u → LeqValue v u

abbrev pub IsValueThere : Program → Table → Operation → AbstractValue → Type 0
IsValueThere = IsLeast value_at

abbrev pub IsNameThere : Program → Table → Operation → AbstractValue → Type 0
IsNameThere = IsLeast name_at

-- the warnings alone
abbrev pub warnings_in : List Told → List Warning
warnings_in = map (λ x. x.warning)

-- a warning with its value, and with its name
abbrev pub IsTold : Program → Table → Told → Type 0
IsTold p t x = IsValueThere p t (operation_of x.warning) (value_of x.value)

abbrev pub IsNamed : Program → Table → Told → Type 0
IsNamed p t x = IsNameThere p t (operation_of x.warning) (value_of x.name)
