use Rattle.std.proofs.Common.{◌≡◌, ◌-◌, List}
use Rattle.ja_lower_listing.specs.declared.item.Item.{Item}
use Rattle.ja_lower_listing.specs.code.Passes.{AreEdges, landed, after, followed}
use Rattle.ja_lower_listing.proofs.edges.Edges.landing.Given as goal

-- the turns that are left lead where all of them do
abbrev pub invariant-loop-turn : goal.invariant-loop-turn
invariant-loop-turn l =
    (whole : List Item) → AreEdges l.self whole
    → landed whole (after whole (l.self.turns - l._turn) l.target) ≡ followed whole l.initial.target
