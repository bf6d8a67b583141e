-- The lines of parts, and how many nodes they have.
use Rattle.std.proofs.Common.{◌≡◌, List, [], ◌∷◌, length, Option, ap, sym, ◌∙◌, arith}
use Rattle.std.proofs.lemmas.List.{length-map}
use Rattle.std.specs.declared.alloc.Global.{Global}
use Rattle.std.specs.declared.rc.Rc.{Rc}
use Rattle.ja_base.specs.declared.ids.Place.{Place}
use Rattle.ja_graph.specs.declared.node.Node.{Node}
use Rattle.ja_lower_listing.specs.declared.item.Block.{Block}
use Rattle.ja_lower_listing.specs.declared.item.Spot.{Spot}
use Rattle.ja_lower_listing.specs.declared.item.Item.{Item}
use Rattle.ja_lower_listing.specs.declared.item.Item.TheVariants as item
use Rattle.ja_lower_listing.specs.Listing.{node_count, block_of}
use Rattle.ja_lower_draft.specs.declared.moves.Moves.{Moves}
use Rattle.ja_lower_draft.specs.declared.part.Part.{Part}
use Rattle.ja_lower_draft.specs.declared.part.Part.TheVariants as part
use Rattle.ja_lower_draft.specs.declared.part.Part.TheVariants.{rolls-Node, rolls-Spot, rolls-Jump, rolls-Written, rolls-Copy}
use Rattle.ja_lower_draft.specs.declared.part.Part.TheOpen.{Part-F}
use Rattle.ja_lower_draft.specs.declared.part.Part.TheFolds.{fold-roll-Part}
use Rattle.ja_lower_draft.specs.Copies.{moved_node}
use Rattle.ja_lower_draft.specs.code.Parts.{moved_by, part_level, line_of, lines_of}

pub of_node : (node : Node) (other handler : Option Spot) (place : Place)
    → line_of (part.Node node other handler place) ≡ item.Node node other handler place
unfolding line_of
of_node node other handler place =
    ap line_of (sym (rolls-Node node other handler place))
    ∙ fold-roll-Part Item part_level (Part-F.Node node other handler place)

pub of_spot : (s : Spot) → line_of (part.Spot s) ≡ item.Spot s
unfolding line_of
of_spot s = ap line_of (sym (rolls-Spot s)) ∙ fold-roll-Part Item part_level (Part-F.Spot s)

pub of_jump : (s : Spot) → line_of (part.Jump s) ≡ item.Jump s
unfolding line_of
of_jump s = ap line_of (sym (rolls-Jump s)) ∙ fold-roll-Part Item part_level (Part-F.Jump s)

pub of_written : (block : Rc Block Global) (m : Moves)
    → line_of (part.Written block m) ≡ item.Copy (moved_by m block.value)
unfolding line_of
of_written block m =
    ap line_of (sym (rolls-Written block m))
    ∙ fold-roll-Part Item part_level (Part-F.Written block m)

pub of_copy : (parts : Rc (List Part) Global) (m : Moves)
    → line_of (part.Copy parts m) ≡ item.Copy (moved_by m (block_of (lines_of parts.value)))
unfolding line_of
of_copy parts m =
    ap line_of (sym (rolls-Copy parts m)) ∙ fold-roll-Part Item part_level (Part-F.Copy parts m)

-- ---- nodes

-- a copy has as many nodes as its block
count_moved : (m : Moves) (block : Block) (p : Part) → line_of p ≡ item.Copy (moved_by m block)
    → node_count (line_of p ∷ []) ≡ length block.nodes
unfolding node_count
count_moved m block p e =
    ap (λ i. node_count (i ∷ [])) e ∙ (omega
    (arith, length-map block.nodes (moved_node m.temporary m.above m.by)))

pub count_node : (node : Node) (other handler : Option Spot) (place : Place)
    → node_count (line_of (part.Node node other handler place) ∷ []) ≡ 1
unfolding node_count
count_node node other handler place =
    ap (λ i. node_count (i ∷ [])) (of_node node other handler place)

pub count_spot : (s : Spot) → node_count (line_of (part.Spot s) ∷ []) ≡ 0
unfolding node_count
count_spot s = ap (λ i. node_count (i ∷ [])) (of_spot s)

pub count_jump : (s : Spot) → node_count (line_of (part.Jump s) ∷ []) ≡ 0
unfolding node_count
count_jump s = ap (λ i. node_count (i ∷ [])) (of_jump s)

pub count_written : (block : Rc Block Global) (m : Moves)
    → node_count (line_of (part.Written block m) ∷ []) ≡ length block.value.nodes
count_written block m = count_moved m block.value (part.Written block m) (of_written block m)

pub count_copy : (parts : Rc (List Part) Global) (m : Moves)
    → node_count (line_of (part.Copy parts m) ∷ []) ≡ length (block_of (lines_of parts.value)).nodes
count_copy parts m =
    count_moved m (block_of (lines_of parts.value)) (part.Copy parts m) (of_copy parts m)
