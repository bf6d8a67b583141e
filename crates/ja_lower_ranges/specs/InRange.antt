-- The numbers in what is listed of a function are in range: registers that are set, names,
-- functions and sites.
use Rattle.std.specs.Prelude.{◌≡◌, ◌<◌, ◌≤◌, ◌⊎◌, ◌+◌, ℕ, Bool, false, List, length, map}
use Rattle.std.specs.List.{AllByRecursion, range_with_len}
use Rattle.std.specs.Option.{option_to_list}
use Rattle.ja_base.specs.declared.ids.FnId.{FnId}
use Rattle.ja_base.specs.declared.ids.NameId.{NameId}
use Rattle.ja_base.specs.declared.ids.Reg.{Reg}
use Rattle.ja_graph.specs.Node.{Making, register_set, name_in, function_in, makings}
use Rattle.ja_graph.specs.declared.registers.TheConstants.{FIXED_REGISTERS, SCOPE, THROWN}
use Rattle.ja_graph.specs.declared.node.Args.TheVariants.{Tail}
use Rattle.ja_graph.specs.declared.node.Node.{Node}
use Rattle.ja_graph.specs.declared.node.Node.TheVariants.{MakeFunction, Enter, Call, Intrinsic, Device}
use Rattle.ja_lower_listing.specs.declared.item.Block.{Block}
use Rattle.ja_lower_listing.specs.declared.item.BlockNode.{BlockNode}
use Rattle.ja_lower_listing.specs.declared.item.Item.{Item}
use Rattle.ja_lower_listing.specs.declared.item.Item.TheVariants as item
use Rattle.ja_lower_draft.specs.Lines.{Scene}

-- how many parameters a function has, and how many names its program and how many functions its
-- text; and whether names may be special forms, as in the texts of built-in functions
pub record Limits : Type 0 where
  pub parameters : ℕ
  pub names : ℕ
  pub functions : ℕ
  pub specials : Bool

-- a temporary: it stands behind the registers that each function has, its parameters and the rest
-- of its arguments
abbrev pub IsTemporary : Limits → ℕ → Type 0
IsTemporary limits r = FIXED_REGISTERS + limits.parameters ≤ r

-- a register that a node may set: `thrown`, `scope` or a temporary
abbrev pub IsDestination : Limits → Reg → Type 0
IsDestination limits r = (r.0 ≡ THROWN.0) ⊎ ((r.0 ≡ SCOPE.0) ⊎ IsTemporary limits r.0)

-- a node that stands in functions of texts
abbrev pub IsOfTexts : Node → Type 0
IsOfTexts (Call dst callee receiver Tail error) = ⊥
IsOfTexts (Intrinsic dst which args) = ⊥
IsOfTexts (Device dst which) = ⊥
IsOfTexts node = Unit {0}

-- a node that stands in texts without functions: none is made, and none is entered
abbrev pub IsOfTextsWithoutFunctions : Node → Type 0
IsOfTextsWithoutFunctions (MakeFunction dst function site proto_site) = ⊥
IsOfTextsWithoutFunctions (Enter site arguments) = ⊥
IsOfTextsWithoutFunctions node = Unit {0}

-- The numbers of a node are in range. The program is function 0, and those of its text follow. The
-- sites of a node are numbered from 0 on, in the order of its fields. The texts of built-in
-- functions have more kinds of nodes, and those without functions have fewer.
pub record IsInRange (limits : Limits) (node : Node) : Type 0 where
  pub sets : AllByRecursion (IsDestination limits) (option_to_list (register_set node))
  pub name : AllByRecursion (λ (n : NameId). n.0 < limits.names) (option_to_list (name_in node))
  pub function : AllByRecursion (λ (f : FnId). f.0 ≤ limits.functions)
      (option_to_list (function_in node))
  pub of_texts : limits.specials ≡ false → IsOfTexts node
  pub without_functions : limits.functions ≡ 0 → IsOfTextsWithoutFunctions node
  pub sites : map (λ (m : Making). m.site.0) (makings node)
      ≡ range_with_len 0 (length (makings node))

-- what holds of each node of a block, and of a line
abbrev pub OfNodes : (Node → Type 0) → Block → Type 0
OfNodes P block = AllByRecursion (λ (n : BlockNode). P n.node) block.nodes

abbrev pub OfNode : (Node → Type 0) → Item → Type 0
OfNode P (item.Node node other handler place) = P node
OfNode P (item.Spot s) = Unit {0}
OfNode P (item.Jump s) = Unit {0}
OfNode P (item.Copy block) = OfNodes P block

-- the numbers of each node of a listing are in range
abbrev pub AllInRange : Limits → List Item → Type 0
AllInRange limits items = AllByRecursion (OfNode (IsInRange limits)) items

-- the limits of a scene, for a function with so many parameters
abbrev pub limits_of : ℕ → Scene → Limits
limits_of parameters scene = record {
  parameters = parameters;
  names = length scene.names;
  functions = length scene.functions;
  specials = scene.specials;
}
