-- What the call of each special form lists, by its name.
use Rattle.std.specs.Prelude.{◌≡◌, ℕ, List, [], ◌∷◌, ◌++◌, Some, length, map}
use lib.Chars.{codes}
use Rattle.std.specs.List.{AllByRecursion, range_with_len, zip}
use Rattle.std.specs.Option.{option_map}
use Rattle.ja_base.specs.declared.ids.Place.{Place}
use Rattle.ja_base.specs.declared.ids.Reg.{Reg}
use Rattle.ja_base.specs.declared.ids.ScopeKind.{ScopeKind}
use Rattle.ja_base.specs.declared.ids.ScopeKind.TheVariants as scope
use Rattle.ja_graph.specs.declared.builtins.TheConstants.{INTRINSICS}
use Rattle.ja_graph.specs.declared.node.Args.TheVariants.{Registers, Elements, Tail}
use Rattle.ja_graph.specs.declared.node.ErrorKind.{ErrorKind}
use Rattle.ja_graph.specs.declared.node.ErrorKind.TheVariants as kind
use Rattle.ja_graph.specs.declared.node.Hint.TheVariants as hint
use Rattle.ja_graph.specs.declared.node.Made.TheVariants.{Error}
use Rattle.ja_graph.specs.declared.node.Node.{Node}
use Rattle.ja_graph.specs.declared.node.Node.TheVariants as node
use Rattle.ja_graph.specs.declared.node.UnaryOp.TheVariants.{ToText}
use Rattle.ja_lower_draft.specs.Lines.{Listing, Valued, Scene, register, site, with_node, with_result, with_default, with_unary}
use Rattle.ja_lower_expressions.specs.Specials.{special_of, list_special}

-- the call of a name, whose arguments are in these registers, lists this
abbrev pub Lists : List ℕ → List Reg → (Scene → Place → Listing → Valued) → Type 0
Lists name arguments row =
    (scene : Scene) (place : Place) (l : Listing)
    → option_map (λ form. list_special form scene place arguments l) (special_of name)
    ≡ Some (row scene place l)

-- a node that gives a value
abbrev pub giving : (Reg → Node) → Scene → Place → Listing → Valued
giving form scene place l = with_result scene place form l

-- the kinds of errors, and the reasons to stop, by their names
abbrev pub error_names : List (List ℕ × ErrorKind)
error_names =
    (codes "Error", kind.Error) ∷ (codes "EvalError", kind.EvalError)
    ∷ (codes "RangeError", kind.RangeError)
    ∷ (codes "ReferenceError", kind.ReferenceError) ∷ (codes "SyntaxError", kind.SyntaxError)
    ∷ (codes "TypeError", kind.TypeError)
    ∷ (codes "URIError", kind.URIError) ∷ []

abbrev pub stop_names : List (List ℕ × ScopeKind)
stop_names =
    (codes "Eval", scope.Eval) ∷ (codes "With", scope.With) ∷ (codes "RegExp", scope.RegExp)
    ∷ (codes "Octal", scope.Octal)
    ∷ (codes "Number", scope.Number) ∷ (codes "NonAscii", scope.NonAscii)
    ∷ (codes "IdentifierEscape", scope.IdentifierEscape)
    ∷ (codes "ReservedWord", scope.ReservedWord) ∷ (codes "ArgumentsName", scope.ArgumentsName)
    ∷ (codes "TextLength", scope.TextLength)
    ∷ (codes "Fraction", scope.Fraction) ∷ (codes "Range", scope.Range) ∷ (codes "Row", scope.Row)
    ∷ (codes "CodeMaker", scope.CodeMaker)
    ∷ (codes "DeviceObject", scope.DeviceObject) ∷ (codes "LengthObject", scope.LengthObject)
    ∷ (codes "SharedArgument", scope.SharedArgument) ∷ (codes "CaseChange", scope.CaseChange)
    ∷ (codes "Radix", scope.Radix)
    ∷ (codes "Register", scope.Register) ∷ []

-- the operations of the built-in functions, each with its number
abbrev pub numbered_intrinsics : List (ℕ × List ℕ)
numbered_intrinsics = zip (range_with_len 0 (length INTRINSICS)) (map (λ row. row.0.now) INTRINSICS)

-- each special form by its name, with its node
pub record AreSpecialForms : Type 0 where
  pub get : (object key : Reg) → Lists (codes "$get") (object ∷ key ∷ [])
      (giving (λ dst. node.ReadProp dst object key))
  pub put : (object key src : Reg) → Lists (codes "$put") (object ∷ key ∷ src ∷ [])
      (λ scene place l. record {
        listing = with_node scene place
            (node.WriteProp object key src (site 0)) l;
        value = src;
      })
  pub delete : (object key : Reg) → Lists (codes "$delete") (object ∷ key ∷ [])
      (giving (λ dst. node.DeleteProp dst object key))
  pub has : (object key : Reg) → Lists (codes "$has") (object ∷ key ∷ [])
      (giving (λ dst. node.HasProp dst object key))
  pub object : (src : Reg) → Lists (codes "$object") (src ∷ [])
      (giving (λ dst. node.ToObject dst src (record
      { boolean = site 0; number = site 1; text = site 2 }) (site 3)))
  pub text : (src : Reg) → Lists (codes "$text") (src ∷ [])
      (λ scene place l. let v = with_default scene place hint.Text src l in
      with_unary scene place ToText v.value v.listing)
  pub call : (callee receiver : Reg) (arguments : List Reg)
      → Lists (codes "$call") (callee ∷ receiver ∷ arguments)
      (giving (λ dst. node.Call dst callee receiver (Registers arguments) (site 0)))
  pub spread : (callee receiver array : Reg)
      → Lists (codes "$spread") (callee ∷ receiver ∷ array ∷ [])
      (giving (λ dst. node.Call dst callee receiver (Elements array) (site 0)))
  pub tail : (callee receiver : Reg) → Lists (codes "$tail") (callee ∷ receiver ∷ [])
      (giving (λ dst. node.Call dst callee receiver Tail (site 0)))
  pub make : AllByRecursion (λ (row : List ℕ × ErrorKind).
      Lists (codes "$make_" ++ row.0) [] (giving
      (λ dst. node.NewObject dst (site 0) (Error row.1)))) error_names
  pub stop : AllByRecursion (λ (row : List ℕ × ScopeKind).
      Lists (codes "$stop_" ++ row.0) [] (λ scene place l.
      record { listing = with_node scene place (node.Stop row.1) l; value = register l.temporary }))
      stop_names
  pub intrinsic : AllByRecursion (λ (row : ℕ × List ℕ). (arguments : List Reg)
      → Lists row.1 arguments (giving (λ dst. node.Intrinsic dst row.0 arguments)))
      numbered_intrinsics
