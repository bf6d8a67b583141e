-- What a jump lists on its way keeps its spots.
use Rattle.std.proofs.Common.{◌≤◌, ℕ, Bool, true, false, List, [], ◌∷◌, ◌++◌, Option, Some, None, if◌then◌else◌}
use Rattle.std.specs.List.{AllByRecursion, list_any}
use Rattle.std.specs.Str.{bytes_eq}
use Rattle.ja_base.specs.declared.ids.Place.{Place}
use Rattle.ja_base.specs.declared.ids.Reg.{Reg}
use Rattle.ja_lower_listing.specs.declared.item.Spot.{Spot}
use Rattle.ja_lower_draft.specs.Copies.{Template, with_block}
use Rattle.ja_lower_draft.specs.Lines.{Listing, Scene}
use Rattle.ja_lower_statements.specs.Ways.{Way, of_loop, of_switch, of_label, of_catch, of_finally, break_target, continue_target, Leaving, with_scope, copied_above, leave, restored, arrive, arrive_or, jump_to, leave_all}
use Rattle.ja_lower_ranges.specs.Spots.{OfSpot}
use Rattle.ja_lower_ranges.proofs.SpotCounts.{Among, among_more}
use Rattle.ja_lower_ranges.proofs.SpotLines.{KeptAt, one, jump}
use Rattle.ja_lower_ranges.proofs.SpotCopies.{IsBlock, block_later, kept_with_block}

-- ---- what is around a statement

-- a way that a jump leaves leads to spots that are known, and its block, if it has one, is one
abbrev pub IsKnownWay : List Spot → ℕ → Way → Type 0
IsKnownWay ks n (of_loop labels end turn) = Among ks end × Among ks turn
IsKnownWay ks n (of_switch end) = Among ks end
IsKnownWay ks n (of_label label end) = Among ks end
IsKnownWay ks n (of_catch saved) = Unit {0}
IsKnownWay ks n (of_finally saved t) = IsBlock n t

abbrev pub AreKnown : List Spot → ℕ → List Way → Type 0
AreKnown ks n ws = AllByRecursion (IsKnownWay ks n) ws

pub way_later : (ps ks : List Spot) (n m : ℕ) (w : Way) → n ≤ m → IsKnownWay ks n w
    → IsKnownWay (ps ++ ks) m w
way_later ps ks n m (of_loop labels end turn) more h =
    (among_more ps ks end h.0, among_more ps ks turn h.1)
way_later ps ks n m (of_switch end) more h = among_more ps ks end h
way_later ps ks n m (of_label label end) more h = among_more ps ks end h
way_later ps ks n m (of_catch saved) more h = tt
way_later ps ks n m (of_finally saved t) more h = block_later n m t more h

pub ways_later : (ps ks : List Spot) (n m : ℕ) (ws : List Way) → n ≤ m → AreKnown ks n ws
    → AreKnown (ps ++ ks) m ws
ways_later ps ks n m [] more h = tt
ways_later ps ks n m (w ∷ ws) more h =
    (way_later ps ks n m w more h.0, ways_later ps ks n m ws more h.1)

-- ---- jumps

kept_block_after : {scene : Scene} {ks ps : List Spot} {o : Listing} (l : Listing) (place : Place)
    (kept : Option Reg) (saved : Reg) (t : Template) (above : Reg) → IsBlock l.spot t
    → KeptAt scene ks ps o l → KeptAt scene ks ps o
    (with_block t above (with_scope scene place kept saved l))
kept_block_after l place None saved t above h k = kept_with_block _ t above h k
kept_block_after l place (Some kept) saved t above h k = kept_with_block _ t above h (one _ _ k)

kept_leave : {scene : Scene} {ks ps : List Spot} {o : Listing} (place : Place) (value : Option Reg)
    (w : Way) (v : Leaving) → IsKnownWay (ps ++ ks) v.listing.spot w
    → KeptAt scene ks ps o v.listing → KeptAt scene ks ps o (leave scene place value w v).listing
kept_leave place value (of_loop labels end turn) v h k = k
kept_leave place value (of_switch end) v h k = k
kept_leave place value (of_label label end) v h k = k
kept_leave place value (of_catch saved) v h k = k
kept_leave place value (of_finally saved t) v h k =
    kept_block_after _ place v.kept saved t (copied_above value saved) h k

kept_restored : {scene : Scene} {ks ps : List Spot} {o : Listing} (l : Listing) (place : Place)
    (kept : Option Reg) → KeptAt scene ks ps o l
    → KeptAt scene ks ps o (restored scene place kept l)
kept_restored l place None k = k
kept_restored l place (Some kept) k = one _ _ k

kept_arrive_or : {scene : Scene} {ks ps : List Spot} {o : Listing} (on : Listing) (place : Place)
    (target : Option Spot) (v : Leaving) → OfSpot (Among (ps ++ ks)) target
    → KeptAt scene ks ps o v.listing → KeptAt scene ks ps o on
    → KeptAt scene ks ps o (arrive_or target (arrive scene place v) on)
kept_arrive_or on place None v there k r = r
kept_arrive_or on place (Some spot) v there k r = jump spot there (kept_restored _ place v.kept k)

-- a jump goes to spots of ways
abbrev pub IsTarget : (Way → Option Spot) → Type 0
IsTarget target =
    (ks : List Spot) (n : ℕ) (w : Way) → IsKnownWay ks n w → OfSpot (Among ks) (target w)

if_there : (ks : List Spot) (b : Bool) (s : Spot) → Among ks s
    → OfSpot (Among ks) (if b then Some s else None)
if_there ks true s there = there
if_there ks false s there = tt

pub break_goes : (label : Option (List ℕ)) → IsTarget (break_target label)
break_goes None ks n (of_loop labels end turn) h = h.0
break_goes None ks n (of_switch end) h = h
break_goes None ks n (of_label l end) h = tt
break_goes None ks n (of_catch saved) h = tt
break_goes None ks n (of_finally saved t) h = tt
break_goes (Some label) ks n (of_loop labels end turn) h = tt
break_goes (Some label) ks n (of_switch end) h = tt
break_goes (Some label) ks n (of_label l end) h = if_there ks (bytes_eq l label) end h
break_goes (Some label) ks n (of_catch saved) h = tt
break_goes (Some label) ks n (of_finally saved t) h = tt

pub continue_goes : (label : Option (List ℕ)) → IsTarget (continue_target label)
continue_goes None ks n (of_loop labels end turn) h = h.1
continue_goes None ks n (of_switch end) h = tt
continue_goes None ks n (of_label l end) h = tt
continue_goes None ks n (of_catch saved) h = tt
continue_goes None ks n (of_finally saved t) h = tt
continue_goes (Some label) ks n (of_loop labels end turn) h =
    if_there ks (list_any (bytes_eq label) labels) turn h.1
continue_goes (Some label) ks n (of_switch end) h = tt
continue_goes (Some label) ks n (of_label l end) h = tt
continue_goes (Some label) ks n (of_catch saved) h = tt
continue_goes (Some label) ks n (of_finally saved t) h = tt

pub kept_jump_to : {scene : Scene} {ks ps : List Spot} {o : Listing} (place : Place)
    (target : Way → Option Spot) → IsTarget target → (ws : List Way) (v : Leaving)
    → AreKnown (ps ++ ks) o.spot ws → KeptAt scene ks ps o v.listing
    → KeptAt scene ks ps o (jump_to scene place target ws v)
unfolding jump_to
kept_jump_to place target goes [] v h k = k
kept_jump_to {scene} {ks} {ps} {o} place target goes (w ∷ ws) v h k =
    kept_arrive_or _ place (target w) v (goes (ps ++ ks) o.spot w h.0) k
    (kept_jump_to place target goes ws (leave scene place None w v) h.1
    (kept_leave place None w v (way_later [] (ps ++ ks) o.spot v.listing.spot w k.low h.0) k))

pub kept_leave_all : {scene : Scene} {ks ps : List Spot} {o : Listing} (place : Place) (value : Reg)
    (ws : List Way) (v : Leaving) → AreKnown (ps ++ ks) o.spot ws → KeptAt scene ks ps o v.listing
    → KeptAt scene ks ps o (leave_all scene place value ws v)
unfolding leave_all
kept_leave_all place value [] v h k = k
kept_leave_all {scene} {ks} {ps} {o} place value (w ∷ ws) v h k =
    kept_leave_all place value ws (leave scene place (Some value) w v) h.1
    (kept_leave place (Some value) w v (way_later [] (ps ++ ks) o.spot v.listing.spot w k.low
    h.0) k)
