-- Each line that is added to a listing keeps its numbers in range.
use Rattle.std.proofs.Common.{◌≡◌, ℕ, ◌+◌, ◌<◌, ◌≤◌, Bool, true, false, not, ◌||◌, cond, List, [], ◌∷◌, length, None, suc, arith, inl, inr, refl}
use Rattle.std.specs.List.{list_any, position_or_len}
use Rattle.std.specs.Str.{bytes_eq}
use Rattle.ja_base.specs.declared.ids.Place.{Place}
use Rattle.ja_base.specs.declared.ids.Reg.{Reg}
use Rattle.ja_base.proofs.Lists.{all_append}
use Rattle.ja_graph.specs.declared.node.Node.TheVariants.{Move}
use Rattle.ja_lower_listing.specs.declared.item.Spot.{Spot}
use Rattle.ja_lower_listing.specs.declared.item.Item.{Item}
use Rattle.ja_lower_listing.specs.declared.item.Item.TheVariants as item
use Rattle.ja_lower_draft.specs.Lines.{Listing, Scene, name_id, with_item, with_jump, with_move}
use Rattle.ja_lower_expressions.specs.Literals.{scope, same_place, function_id}
use Rattle.ja_lower_ranges.specs.Found.{HasName, HasFunctionAt}
use Rattle.ja_lower_ranges.specs.InRange.{Limits}
use Rattle.ja_lower_ranges.proofs.NodeRanges.{in_range}
use Rattle.ja_lower_ranges.proofs.Sound.{IsSound, IsSoundLine}

-- ---- lists

-- an element that passes has a place
found_below : {X : Type 0} (p : X → Bool) (xs : List X) → list_any p xs ≡ true
    → position_or_len p xs < length xs
found_below p [] found = absurd (cc)
found_below p (x ∷ xs) found = at_head (p x) found (found_below p xs)
  where
    at_head : (b : Bool) → (b || list_any p xs) ≡ true
        → (list_any p xs ≡ true → position_or_len p xs < length xs)
        → cond (not b) (1 + position_or_len p xs) 0 < suc (length xs)
    at_head true here later = omega arith
    at_head false here later = omega (arith, later here)

-- ---- names and functions

pub name_in_range : (scene : Scene) (name : List ℕ) → HasName scene name
    → (name_id scene name).0 < length scene.names
name_in_range scene name has = found_below (bytes_eq name) scene.names has

pub function_in_range : (scene : Scene) (place : Place) → HasFunctionAt scene place
    → (function_id scene place).0 ≤ length scene.functions
function_in_range scene place has =
    omega (arith, found_below (same_place place) scene.functions has)

-- a text that has a function isn't one without functions
pub some_function : (scene : Scene) (place : Place) → HasFunctionAt scene place
    → 0 < length scene.functions
some_function scene place has = omega (arith, found_below (same_place place) scene.functions has)

-- ---- lines

pub sound_with_item : {limits : Limits} {l : Listing} (i : Item) → IsSoundLine limits i
    → IsSound limits l → IsSound limits (with_item l i)
sound_with_item {limits = limits} {l = l} i here sound =
    record {
      nodes = all_append (IsSoundLine limits) l.items (i ∷ []) sound.nodes (here, tt);
      next = sound.next;
    }

pub sound_with_jump : {limits : Limits} {l : Listing} (s : Spot) → IsSound limits l
    → IsSound limits (with_jump s l)
sound_with_jump s sound = sound_with_item (item.Jump s) tt sound

pub sound_move_to_scope : {limits : Limits} {l : Listing} (scene : Scene) (place : Place)
    (src : Reg) → IsSound limits l → IsSound limits (with_move scene place scope src l)
sound_move_to_scope {limits = limits} scene place src sound =
    sound_with_item (item.Node (Move scope src) None scene.handler place)
    (in_range limits (Move scope src) (inr (inl refl))) sound
