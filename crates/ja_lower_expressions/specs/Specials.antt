-- The special forms of the texts of built-in functions: calls of names that begin with `$`, which
-- are no variables.
use Rattle.std.specs.Prelude.{ℕ, Bool, not, ◌&&◌, List, [], ◌∷◌, Option, is_some}
use Rattle.std.specs.List.{find}
use Rattle.std.specs.Option.{option_map}
use Rattle.std.specs.Str.{bytes_eq}
use Rattle.ja_base.specs.declared.ids.Place.{Place}
use Rattle.ja_base.specs.declared.ids.Reg.{Reg}
use Rattle.ja_prim.specs.declared.primitive.Primitive.TheVariants as primitive
use Rattle.ja_graph.specs.declared.node.Args.TheVariants.{Registers, Elements, Tail}
use Rattle.ja_graph.specs.declared.node.Made.TheVariants.{Error}
use Rattle.ja_graph.specs.declared.node.Node.TheVariants as node
use Rattle.ja_lower_names.specs.TextOrder.{Named}
use Rattle.ja_lower_expressions.specs.declared.special.Special.{Special}
use Rattle.ja_lower_expressions.specs.declared.special.Special.TheVariants as special
use Rattle.ja_lower_expressions.specs.declared.special.TheConstants.{SPECIALS}
use Rattle.ja_lower_draft.specs.Lines.{Listing, Valued, Scene, register, site, with_node, with_result, with_const, with_text}

-- the special form of a name, by the table
unfoldable pub special_of : List ℕ → Option Special
special_of name = option_map (λ entry. entry.1) (find (λ entry. bytes_eq entry.0.now name) SPECIALS)

-- whether a name of a text is one of its program: a variable that is a special form is none, where
-- names may be special forms
abbrev pub is_name : Bool → Named → Bool
is_name specials n = not (n.variable && (specials && is_some (special_of n.text)))

-- The call of a special form behind its arguments, at its bracket. With other arguments than it
-- takes it is undefined, which no text of a built-in function has.
unfoldable pub list_special : Special → Scene → Place → List Reg → Listing → Valued
list_special special.Get scene place (object ∷ key ∷ []) l =
    with_result scene place (λ dst. node.ReadProp dst object key) l
list_special special.Put scene place (object ∷ key ∷ src ∷ []) l =
    record {
      listing = with_node scene place (node.WriteProp object key src (site 0)) l;
      value = src;
    }
list_special special.Delete scene place (object ∷ key ∷ []) l =
    with_result scene place (λ dst. node.DeleteProp dst object key) l
list_special special.Has scene place (object ∷ key ∷ []) l =
    with_result scene place (λ dst. node.HasProp dst object key) l
list_special special.Object scene place (src ∷ []) l =
    with_result scene place (λ dst. node.ToObject dst src
    (record { boolean = site 0; number = site 1; text = site 2 }) (site 3)) l
list_special special.Text scene place (src ∷ []) l = with_text scene place src l
list_special (special.Make kind) scene place [] l =
    with_result scene place (λ dst. node.NewObject dst (site 0) (Error kind)) l
list_special special.Call scene place (callee ∷ receiver ∷ arguments) l =
    with_result scene place (λ dst. node.Call dst callee receiver (Registers arguments) (site 0)) l
list_special special.Spread scene place (callee ∷ receiver ∷ array ∷ []) l =
    with_result scene place (λ dst. node.Call dst callee receiver (Elements array) (site 0)) l
list_special special.Tail scene place (callee ∷ receiver ∷ []) l =
    with_result scene place (λ dst. node.Call dst callee receiver Tail (site 0)) l
list_special (special.Stop kind) scene place [] l =
    record { listing = with_node scene place (node.Stop kind) l; value = register l.temporary }
list_special (special.Intrinsic which) scene place arguments l =
    with_result scene place (λ dst. node.Intrinsic dst which arguments) l
list_special form scene place arguments l = with_const scene place primitive.Undefined l
