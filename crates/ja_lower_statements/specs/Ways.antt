-- The ways out of a statement (ES3 12.7 to 12.9): what a jump leaves, and the blocks of `finally`
-- that it runs on its way.
use Rattle.std.specs.Prelude.{ℕ, if◌then◌else◌, List, [], ◌∷◌, Option, Some, None, unwrap_or}
use Rattle.std.specs.List.{list_any}
use Rattle.std.specs.Str.{bytes_eq}
use Rattle.ja_base.specs.declared.ids.Place.{Place}
use Rattle.ja_base.specs.declared.ids.Reg.{Reg}
use Rattle.ja_lower_listing.specs.declared.item.Spot.{Spot}
use Rattle.ja_lower_draft.specs.Copies.{Template, with_block}
use Rattle.ja_lower_draft.specs.Lines.{Listing, Scene, with_jump, with_move}
use Rattle.ja_lower_expressions.specs.Literals.{scope}

-- ---- ways

pub data Way : Type 0 where
  -- a loop of these labels: `break` leaves it, `continue` goes to its next turn
  of_loop : List (List ℕ) → Spot → Spot → Way
  -- a `switch`, which `break` leaves
  of_switch : Spot → Way
  -- a statement of a label, which `break` with the label leaves
  of_label : List ℕ → Spot → Way
  -- the block of a `catch`, whose `try` kept the scope chain in a register
  of_catch : Reg → Way
  -- the block of a `try` with a `finally`, whose `try` kept the scope chain in a register
  of_finally : Reg → Template → Way

-- where a jump goes, if it is to this way: `break` and `continue`, without or with a label
abbrev pub break_target : Option (List ℕ) → Way → Option Spot
break_target None (of_loop labels end turn) = Some end
break_target None (of_switch end) = Some end
break_target (Some label) (of_label l end) = if bytes_eq l label then Some end else None
break_target label way = None

abbrev pub continue_target : Option (List ℕ) → Way → Option Spot
continue_target None (of_loop labels end turn) = Some turn
continue_target (Some label) (of_loop labels end turn) =
    if list_any (bytes_eq label) labels then Some turn else None
continue_target label way = None

-- What a jump does on its way. Blocks of `catch` that it left have put an object before the scope
-- chain: the register that the outermost of them kept has the scope chain that is to be in force,
-- unless a `finally` has set it since.
pub record Leaving : Type 0 where
  pub listing : Listing
  pub kept : Option Reg

-- the scope chain is set, if it is another one
abbrev pub with_scope : Scene → Place → Option Reg → Reg → Listing → Listing
with_scope scene place None saved l = l
with_scope scene place (Some kept) saved l = with_move scene place scope saved l

-- the register above which a copy stands: that of the scope chain that the `try` kept, or of a
-- value that is returned
abbrev pub copied_above : Option Reg → Reg → Reg
copied_above value saved = unwrap_or value saved

abbrev pub leave : Scene → Place → Option Reg → Way → Leaving → Leaving
leave scene place value (of_catch saved) v = record { listing = v.listing; kept = Some saved }
leave scene place value (of_finally saved t) v = record {
  listing = with_block t (copied_above value saved) (with_scope scene place v.kept saved v.listing);
  kept = None;
}
leave scene place value way v = v

-- at the target the scope chain is set, if it is another one
abbrev pub restored : Scene → Place → Option Reg → Listing → Listing
restored scene place None l = l
restored scene place (Some kept) l = with_move scene place scope kept l

abbrev pub arrive : Scene → Place → Leaving → Spot → Listing
arrive scene place v target = with_jump target (restored scene place v.kept v.listing)

-- a jump arrives at its target, or goes on
abbrev pub arrive_or : Option Spot → (Spot → Listing) → Listing → Listing
arrive_or (Some spot) there on = there spot
arrive_or None there on = on

-- a jump to the innermost way that is its target
unfoldable pub jump_to : Scene → Place → (Way → Option Spot) → List Way → Leaving → Listing
jump_to scene place target [] v = v.listing
jump_to scene place target (w ∷ ws) v =
    arrive_or (target w) (arrive scene place v)
    (jump_to scene place target ws (leave scene place None w v))

-- all ways of a function, which a `return` leaves with a value in a register
unfoldable pub leave_all : Scene → Place → Reg → List Way → Leaving → Listing
leave_all scene place value [] v = v.listing
leave_all scene place value (w ∷ ws) v =
    leave_all scene place value ws (leave scene place (Some value) w v)

abbrev pub leaving : Listing → Leaving
leaving l = record { listing = l; kept = None }
