-- The warnings of a table: what may go wrong at the operations of a program.
use Rattle.std.specs.Prelude.{◌≡◌, ◌⊎◌, ◌<◌, ◌↔◌, ℕ, Bool, false, not, ◌&&◌, ◌||◌, ◌+◌, if◌then◌else◌, nat_lt, IsTrue, List, [], ◌∷◌, Option, Some, None, is_some, Any, Contains}
use Rattle.std.specs.List.{AllByRecursion}
use Rattle.std.specs.Option.{option_map}
use Rattle.ja_base.specs.declared.ids.Context.{Context}
use Rattle.ja_base.specs.declared.ids.FnId.{FnId}
use Rattle.ja_base.specs.declared.ids.Label.{Label}
use Rattle.ja_base.specs.declared.ids.NodeId.{NodeId}
use Rattle.ja_base.specs.declared.ids.Place.{Place}
use Rattle.ja_base.specs.declared.ids.Reg.{Reg}
use Rattle.ja_graph.specs.declared.node.Node.{Node}
use Rattle.ja_graph.specs.declared.node.Node.TheVariants as node
use Rattle.ja_graph.specs.declared.node.NodeInfo.{NodeInfo}
use Rattle.ja_graph.specs.declared.program.Program.{Program}
use Rattle.ja_graph.specs.Program.{node_at}
use Rattle.ja_abstract.specs.declared.abstraction.Key.{Key}
use Rattle.ja_abstract.specs.declared.abstraction.TextPart.{TextPart}
use Rattle.ja_abstract.specs.declared.abstraction.TextPart.TheVariants as text_part
use Rattle.ja_abstract.specs.AbstractValue.{Labels, AbstractValue, has_part}
use Rattle.ja_abstract.specs.AbstractState.{AbstractState, labels_of}
use Rattle.ja_abstract.specs.Keys.{text_key}
use Rattle.ja_abstract.specs.Reading.{View, some_label, get}
use Rattle.ja_abstract.specs.Values.{has_nullish, has_labels}
use Rattle.ja_rows.specs.declared.table.Warning.{Warning}
use Rattle.ja_rows.specs.declared.table.WarningKind.{WarningKind}
use Rattle.ja_rows.specs.declared.table.WarningKind.TheVariants.{NotAFunction, NoObject, UnboundName, ScopeRow}
use Rattle.ja_rows.specs.Out.{at, name_keys}
use Rattle.ja_rows.specs.Edges.{calls_at, constructs_at, has_other}
use Rattle.ja_rows.specs.Table.{Table, view_at}

-- ---- in the abstract

-- What may go wrong at a node: whether what is read allows it, and whether it allows the node
-- anything else.
pub record Test : Type 0 where
  pub kind : WarningKind
  pub fault : View → Bool
  pub more : View → Bool

-- some object runs a function
abbrev pub some_entry : View → (Label → Option FnId) → AbstractValue → Bool
some_entry w entry v = some_label w (λ l. v.label l && is_some (entry l))

-- what isn't undefined and isn't null
abbrev pub has_something : View → AbstractValue → Bool
has_something w v =
    has_part (labels_of w.program) (record v {
      flags =
          record v.flags { undefined = false; null = false };
    })

-- a row is read, and something else is read or missing
abbrev pub has_row : View → Labels → List Key → Bool
has_row w start keys = (get w start keys).value.flags.row

abbrev pub has_non_row : View → Labels → List Key → Bool
has_non_row w start keys =
    let v = (get w start keys).value in
    has_part (labels_of w.program) (record v { flags = record v.flags { row = false } })

-- the key of a value that is one text, and nothing else
abbrev pub one_text : TextPart → Option (List ℕ)
one_text (text_part.One t) = Some t
one_text part = None

abbrev pub one_key : View → AbstractValue → Option Key
one_key w v =
    if has_part (labels_of w.program) (record v { text = text_part.Nothing }) then None
    else option_map (text_key w.program) (one_text v.text)

abbrev pub keys_if : Option Key → List Key
keys_if None = []
keys_if (Some k) = k ∷ []

abbrev pub row_of_name : Reg → List Key → Test
row_of_name base keys = record {
  kind = ScopeRow;
  fault = λ w. has_row w (at w base).label keys;
  more = λ w. (at w base).flags.null || has_non_row w (at w base).label keys;
}

abbrev pub row_of_property : Reg → Reg → Test
row_of_property object k = record {
  kind = ScopeRow;
  fault = λ w. has_row w (at w object).label (keys_if (one_key w (at w k)));
  more =
      λ w. not (is_some (one_key w (at w k))) || has_non_row w (at w object).label
      (keys_if (one_key w (at w k)));
}

abbrev pub unbound : Reg → Test
unbound base =
    record {
      kind = UnboundName;
      fault = λ w. (at w base).flags.null;
      more = λ w. has_labels w
          (at w base);
    }

abbrev pub no_function : (Program → Label → Option FnId) → Reg → Test
no_function entry callee = record {
  kind = NotAFunction;
  fault = λ w. has_other w (entry w.program) (at w callee);
  more = λ w. some_entry w (entry w.program) (at w callee);
}

abbrev pub no_object : Reg → Test
no_object src =
    record {
      kind = NoObject;
      fault = λ w. has_nullish (at w src);
      more = λ w. has_something w
          (at w src);
    }

abbrev pub tests : Node → List Test
tests (node.Call dst callee receiver args error) = no_function calls_at callee ∷ []
tests (node.New dst callee args site error) = no_function constructs_at callee ∷ []
tests (node.ToObject dst src sites error) = no_object src ∷ []
tests (node.ReadRef dst base name error) = unbound base ∷ row_of_name base (name_keys name) ∷ []
tests (node.ReadSoft dst base name) = row_of_name base (name_keys name) ∷ []
tests (node.ReadProp dst object key) = row_of_property object key ∷ []
tests n = []

-- ---- operations

-- a kind and a place, of a built-in function its number too
pub record Operation : Type 0 where
  pub kind : WarningKind
  pub place : Place
  pub builtin : Option FnId

abbrev pub builtin_of : Program → FnId → Option FnId
builtin_of p f = if nat_lt f.0 p.text_functions then None else Some f

abbrev pub operation_at : Program → FnId → NodeInfo → WarningKind → Operation
operation_at p f i kind = record { kind = kind; place = i.place; builtin = builtin_of p f }

-- the table has a state at a node that is this operation
pub record IsReached (p : Program) (t : Table) (o : Operation) (test : Test)
    (w : View) : Type 0 where
  pub context : Context
  pub number : NodeId
  pub info : NodeInfo
  pub info_is : node_at p context.function number ≡ Some info
  pub test_is : Contains (tests info.node) test
  pub operation_is : operation_at p context.function info test.kind ≡ o
  pub state : AbstractState
  pub state_is : t.state context number.0 ≡ Some state
  pub view_is : w ≡ view_at p t context state

abbrev pub operation_of : Warning → Operation
operation_of w = record { kind = w.kind; place = w.place; builtin = w.builtin }

-- ---- the order of warnings

-- those of the text by line, column and kind, then those of built-in functions by function

abbrev pub kind_number : WarningKind → ℕ
kind_number NotAFunction = 1
kind_number NoObject = 2
kind_number UnboundName = 3
kind_number ScopeRow = 4

abbrev pub builtin_number : Option FnId → ℕ
builtin_number None = 0
builtin_number (Some f) = f.0 + 1

abbrev pub numbers_of : Warning → List ℕ
numbers_of w = builtin_number w.builtin ∷ w.place.line ∷ w.place.column ∷ kind_number w.kind ∷ []

abbrev pub IsBelow : List ℕ → List ℕ → Type 0
IsBelow [] bs = ⊥
IsBelow (a ∷ as_) [] = ⊥
IsBelow (a ∷ as_) (b ∷ bs) = (a < b) ⊎ ((a ≡ b) × IsBelow as_ bs)

abbrev pub AreOrdered : List Warning → Type 0
AreOrdered [] = Unit {0}
AreOrdered (w ∷ ws) =
    AllByRecursion (λ (v : Warning). IsBelow (numbers_of w) (numbers_of v)) ws × AreOrdered ws

-- ---- the warnings of a table

-- some state at the operation allows it to go wrong; the warning is certain where none allows
-- anything else
pub record IsWarned (p : Program) (t : Table) (w : Warning) : Type 0 where
  pub test : Test
  pub view : View
  pub reached : IsReached p t (operation_of w) test view
  pub fault : IsTrue (test.fault view)
  pub certain : IsTrue w.certain ↔ ((s : Test) (v : View) → IsReached p t (operation_of w) s v
      → s.more v ≡ false)

-- the warnings are in order, each operation is warned that may go wrong, and no other
pub record AreWarnings (p : Program) (t : Table) (ws : List Warning) : Type 0 where
  pub ordered : AreOrdered ws
  pub warned : AllByRecursion (IsWarned p t) ws
  pub complete : (o : Operation) (test : Test) (v : View) → IsReached p t o test v
      → IsTrue (test.fault v)
      → Any (λ (w : Warning). operation_of w ≡ o) ws
