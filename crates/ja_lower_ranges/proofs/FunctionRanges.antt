-- The numbers of whole functions and of the program are in range, and their listings end with
-- Escape.
use Rattle.std.proofs.Common.{◌≡◌, ℕ, Bool, true, false, if◌then◌else◌, List, [], ◌∷◌, ◌++◌, map, length, None, refl, ap, arith}
use Rattle.ja_base.specs.declared.ids.Place.{Place}
use Rattle.ja_prim.specs.declared.primitive.Primitive.TheVariants as primitive
use Rattle.ja_graph.specs.declared.node.Node.TheVariants.{Return}
use Rattle.ja_lower_listing.specs.declared.item.Item.{Item}
use Rattle.ja_lower_listing.specs.declared.item.Item.TheVariants as item
use Rattle.ja_lower_listing.specs.declared.item.Spot.{Spot}
use Rattle.ja_lower_listing.specs.declared.item.Target.{Target}
use Rattle.ja_lower_listing.specs.declared.item.Target.TheVariants as target
use Rattle.ja_lower_listing.specs.Laws.{EndsWithEscape, CopiesAreWhole}
use Rattle.ja_lower_listing.specs.Listing.{node_count, goes, jump_of, way_on, begins_with_node}
use Rattle.ja_syntax.specs.Arguments.{mentions_arguments}
use Rattle.ja_syntax.specs.Hoisted.{hoisted_variables}
use Rattle.ja_syntax.specs.declared.tree.FunctionOf.{FunctionOf}
use Rattle.ja_syntax.specs.declared.tree.Statement.{Statement}
use Rattle.ja_lower_statements.specs.Functions.{first_temporary, nothing_listed, with_entry, declare_functions, declare_variables, ended, with_body, unhandled, first_place, first_const, beginning_with_node, program_listing, function_listing}
use Rattle.ja_lower_draft.specs.Lines.{Listing, Scene, restarted, with_node, with_const}
use Rattle.ja_lower_statements.specs.Statements.{list_all_statements, does}
use Rattle.ja_lower_ranges.specs.Found.{HasText, HasFunction}
use Rattle.ja_lower_ranges.specs.InRange.{AllInRange, limits_of}
use Rattle.ja_lower_ranges.proofs.CopyRanges.{lines_in_range, copies_whole}
use Rattle.ja_lower_ranges.proofs.HoldingFunctions.{program_found, function_found}

pub program_in_range : (scene : Scene) (statements : List Statement) → HasText scene statements
    → AllInRange (limits_of 0 scene) (program_listing scene statements)
program_in_range scene statements has =
    lines_in_range (limits_of 0 scene) (program_listing scene statements)
    (program_found scene statements has)

pub function_in_range : (scene : Scene) (f : FunctionOf Statement) → HasFunction scene f
    → AllInRange (limits_of (length f.parameters) scene) (function_listing scene f)
function_in_range scene f has =
    lines_in_range (limits_of (length f.parameters) scene) (function_listing scene f)
    (function_found scene f has)

-- the blocks of the copies have all their nodes
pub program_copies : (scene : Scene) (statements : List Statement) → HasText scene statements
    → CopiesAreWhole (program_listing scene statements)
program_copies scene statements has =
    copies_whole (limits_of 0 scene) (program_listing scene statements)
    (program_found scene statements has)

pub function_copies : (scene : Scene) (f : FunctionOf Statement) → HasFunction scene f
    → CopiesAreWhole (function_listing scene f)
function_copies scene f has =
    copies_whole (limits_of (length f.parameters) scene) (function_listing scene f)
    (function_found scene f has)

-- ---- the last node

ended_ends : (scene : Scene) (place : Place) (base : ℕ) (l : Listing)
    → EndsWithEscape (ended scene place base l).items
ended_ends scene place base l =
    let v = with_const scene place primitive.Undefined (restarted base l) in
    record {
      front = (with_node scene place (Return v.value) v.listing).items;
      other = None;
      handler = scene.handler;
      place = place;
      split = refl;
    }

body_ends : (scene : Scene) (place : Place) (xs : List Statement) (base : ℕ) (l : Listing)
    → EndsWithEscape (with_body scene place xs base l).items
body_ends scene place xs base l =
    ended_ends scene place base (list_all_statements (map does xs)
    (record { scene = scene; ways = []; labels = [] }) base
    (declare_variables scene place (hoisted_variables xs) (declare_functions scene xs base l)))

beginning_ends : (scene : Scene) (items : List Item) → EndsWithEscape items
    → EndsWithEscape (beginning_with_node scene items)
unfolding beginning_with_node
beginning_ends scene items h = either (begins_with_node items)
  where
    either : (b : Bool) → EndsWithEscape (if b then items else first_const scene ++ items)
    either true = h
    either false =
        record {
          front = first_const scene ++ h.front;
          other = h.other;
          handler = h.handler;
          place = h.place;
          split = ap (λ xs. first_const scene ++ xs) h.split;
        }

pub program_ends : (scene : Scene) (statements : List Statement)
    → EndsWithEscape (program_listing scene statements)
unfolding program_listing
program_ends scene statements =
    beginning_ends (unhandled scene) _ (body_ends (unhandled scene) first_place statements
    (first_temporary 0) (nothing_listed (first_temporary 0)))

pub function_ends : (scene : Scene) (f : FunctionOf Statement)
    → EndsWithEscape (function_listing scene f)
unfolding function_listing
function_ends scene f =
    let base = first_temporary (length f.parameters) in
    body_ends (unhandled scene) f.place f.body base
    (with_entry (unhandled scene) f.place (mentions_arguments f.body) (nothing_listed base))

-- ---- the first node

-- lines that begin with a node lead to it
first_node : (whole : List Item) (jump : Spot → Target) (items : List Item)
    → node_count items ≡ node_count whole → begins_with_node items ≡ true
    → goes whole jump items ≡ target.Node 0
unfolding goes node_count begins_with_node
first_node whole jump [] e b = cc
first_node whole jump (item.Node node other handler place ∷ items) e b =
    ap (λ n. target.Node n) (omega (arith, e))
first_node whole jump (item.Spot s ∷ items) e b = first_node whole jump items e b
first_node whole jump (item.Jump s ∷ items) e b = cc
first_node whole jump (item.Copy block ∷ items) e b = cc

beginning_begins : (scene : Scene) (items : List Item)
    → begins_with_node (beginning_with_node scene items) ≡ true
unfolding beginning_with_node begins_with_node
beginning_begins scene items = either (begins_with_node items) refl
  where
    either : (b : Bool) → begins_with_node items ≡ b
        → begins_with_node (if b then items else first_const scene ++ items) ≡ true
    either true e = e
    either false e = refl

pub program_begins : (scene : Scene) (statements : List Statement)
    → way_on (program_listing scene statements) (program_listing scene statements) ≡ target.Node 0
unfolding program_listing
program_begins scene statements =
    first_node _ (jump_of (program_listing scene statements)) _ refl
    (beginning_begins (unhandled scene) _)
