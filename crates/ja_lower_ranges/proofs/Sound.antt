-- Listings whose numbers are in range.
use Rattle.std.proofs.Common.{◌≡◌, ◌<◌, List, true}
use Rattle.std.specs.List.{AllByRecursion}
use Rattle.ja_lower_expressions.specs.declared.outcome.Outcome.{Outcome}
use Rattle.ja_lower_expressions.specs.declared.outcome.Outcome.TheVariants as outcome
use Rattle.ja_lower_draft.specs.Lines.{Listing}
use Rattle.ja_lower_statements.specs.Ways.{Way, of_loop, of_switch, of_label, of_catch, of_finally}
use Rattle.ja_lower_ranges.specs.InRange.{Limits, IsTemporary, IsInRange, OfNodes}
use Rattle.ja_lower_listing.specs.Laws.{IsWhole}
use Rattle.ja_lower_listing.specs.declared.item.Block.{Block}
use Rattle.ja_lower_listing.specs.declared.item.Item.{Item}
use Rattle.ja_lower_listing.specs.declared.item.Item.TheVariants as item

-- the nodes of a block are in range, and all that its edges lead to are there
abbrev pub IsSoundBlock : Limits → Block → Type 0
IsSoundBlock limits block = OfNodes (IsInRange limits) block × IsWhole block

abbrev pub IsSoundLine : Limits → Item → Type 0
IsSoundLine limits (item.Node node other handler place) = IsInRange limits node
IsSoundLine limits (item.Spot s) = Unit {0}
IsSoundLine limits (item.Jump s) = Unit {0}
IsSoundLine limits (item.Copy block) = IsSoundBlock limits block

abbrev pub AreSoundLines : Limits → List Item → Type 0
AreSoundLines limits items = AllByRecursion (IsSoundLine limits) items

-- the nodes so far are in range, and the next temporary is one
pub record IsSound (limits : Limits) (l : Listing) : Type 0 where
  pub nodes : AreSoundLines limits l.items
  pub next : IsTemporary limits l.temporary

-- what an expression comes to: the register of a value is a temporary, and the number of a name is
-- that of one; a special form is where names may be special forms
abbrev pub IsSoundOutcome : Limits → Outcome → Type 0
IsSoundOutcome limits (outcome.Value v) = IsTemporary limits v.0
IsSoundOutcome limits (outcome.Name base name place) = name.0 < limits.names
IsSoundOutcome limits (outcome.Member object key place) = Unit {0}
IsSoundOutcome limits (outcome.Special form place) = limits.specials ≡ true

-- a way that a jump leaves: the block of a `finally` is in range, and its temporaries begin at one
abbrev pub IsSoundWay : Limits → Way → Type 0
IsSoundWay limits (of_loop labels end turn) = Unit {0}
IsSoundWay limits (of_switch end) = Unit {0}
IsSoundWay limits (of_label label end) = Unit {0}
IsSoundWay limits (of_catch saved) = Unit {0}
IsSoundWay limits (of_finally saved t) =
    IsSoundBlock limits t.block × IsTemporary limits t.temporary
