-- What a listing keeps of its spots while lines are added: each that is taken stands once or is
-- pending, and lines lead to taken ones.
use Rattle.std.proofs.Common.{◌≡◌, ◌<◌, ◌≤◌, ◌+◌, ℕ, List, [], ◌∷◌, ◌++◌, Option, Some, None, le_refl, arith}
use Rattle.std.specs.List.{AllByRecursion}
use Rattle.ja_base.specs.declared.ids.Place.{Place}
use Rattle.ja_graph.specs.declared.node.Node.{Node}
use Rattle.ja_lower_listing.specs.declared.item.Block.{Block}
use Rattle.ja_lower_listing.specs.declared.item.Spot.{Spot}
use Rattle.ja_lower_listing.specs.declared.item.Item.{Item}
use Rattle.ja_lower_listing.specs.declared.item.Item.TheVariants as item
use Rattle.ja_lower_draft.specs.Lines.{Listing, Scene}
use Rattle.ja_lower_ranges.specs.Spots.{times, OfSpot, OfBlock, OfEdges}
use Rattle.ja_lower_ranges.proofs.SpotCounts.{free, taken, pending_times, Among, IsBelow, AreBelow, among_below, below_later, below_append, spot_map, edges_map, edges_append, times_append}

-- From a listing `o` on lines were added, up to `items` with the next spot `n`. Of the spots that
-- were taken some are pending: they don't stand yet. Lines lead to taken spots.
pub record Kept (scene : Scene) (ks ps : List Spot) (o : Listing) (items : List Item) (n : ℕ) : Type
    0 where
  pub handler : OfSpot (IsBelow o.spot) scene.handler
  pub known : AreBelow o.spot ks
  pub pending : AreBelow n ps
  pub low : o.spot ≤ n
  pub stand : (i : ℕ) → times i items + free n i + pending_times ps i ≡ times i o.items
      + free o.spot i
  pub led : AllByRecursion (OfEdges (IsBelow o.spot)) o.items
      → AllByRecursion (OfEdges (IsBelow n)) items

abbrev pub KeptAt : Scene → List Spot → List Spot → Listing → Listing → Type 0
KeptAt scene ks ps o l = Kept scene ks ps o l.items l.spot

-- ---- nothing is added yet

pub begun : (scene : Scene) (ks : List Spot) (o : Listing) → OfSpot (IsBelow o.spot) scene.handler
    → AreBelow o.spot ks → Kept scene ks [] o o.items o.spot
begun scene ks o handler known = record {
  handler = handler;
  known = known;
  pending = tt;
  low = omega arith;
  stand = λ i. omega arith;
  led = λ h. h;
}

-- ---- a line

pub below_now : {scene : Scene} {ks ps : List Spot} {o : Listing} {items : List Item} {n : ℕ}
    (s : Spot) → Kept scene ks ps o items n → Among (ps ++ ks) s → s.0 < n
below_now {ks = ks} {ps = ps} {o = o} {n = n} s k there =
    among_below n (ps ++ ks) s (below_append n ps ks k.pending
    (below_later o.spot n ks k.low k.known)) there

pub handler_now : {scene : Scene} {ks ps : List Spot} {o : Listing} {items : List Item} {n : ℕ}
    → Kept scene ks ps o items n → OfSpot (IsBelow n) scene.handler
handler_now {scene = scene} k =
    spot_map (λ s low. omega (arith, low, k.low)) scene.handler k.handler

-- a line that leads to taken spots; where it is a spot, that was pending
line : {scene : Scene} {ks ps qs : List Spot} {o : Listing} {items : List Item} {n : ℕ} (x : Item)
    → AreBelow n qs → OfEdges (IsBelow n) x
    → ((i : ℕ) → times i (x ∷ []) + pending_times qs i ≡ pending_times ps i)
    → Kept scene ks ps o items n → Kept scene ks qs o (items ++ x ∷ []) n
line {items = items} {n = n} x below edges counted k = record {
  handler = k.handler;
  known = k.known;
  pending = below;
  low = k.low;
  stand = λ i. omega (arith, k.stand i, times_append i items (x ∷ []), counted i);
  led = λ h. edges_append (IsBelow n) items (x ∷ []) (k.led h) (edges, tt);
}

pub one : {scene : Scene} {ks ps : List Spot} {o : Listing} {items : List Item} {n : ℕ}
    (node : Node) (place : Place) → Kept scene ks ps o items n
    → Kept scene ks ps o (items ++ item.Node node None scene.handler place ∷ []) n
unfolding times
one {scene = scene} node place k =
    line (item.Node node None scene.handler place) k.pending (tt, handler_now k) (λ i. omega arith)
    k

-- a node that leads to a spot
pub branch : {scene : Scene} {ks ps : List Spot} {o : Listing} {items : List Item} {n : ℕ}
    (node : Node) (place : Place) (other : Spot) → Among (ps ++ ks) other
    → Kept scene ks ps o items n → Kept scene ks ps o
    (items ++ item.Node node (Some other) scene.handler place ∷ []) n
unfolding times
branch {scene = scene} node place other there k =
    line (item.Node node (Some other) scene.handler place) k.pending
    (below_now other k there, handler_now k) (λ i. omega arith) k

-- a jump back, to a spot taken before one of these
pub jump_back : {scene : Scene} {ks ps : List Spot} {o : Listing} {items : List Item} {n : ℕ}
    (p s : Spot) → Among (ps ++ ks) p → s.0 ≤ p.0 → Kept scene ks ps o items n
    → Kept scene ks ps o (items ++ item.Jump s ∷ []) n
unfolding times
jump_back p s there before k =
    line (item.Jump s) k.pending (omega (arith, before, below_now p k there)) (λ i. omega arith) k

-- a jump to a pending spot or to one that is known
pub jump : {scene : Scene} {ks ps : List Spot} {o : Listing} {items : List Item} {n : ℕ} (s : Spot)
    → Among (ps ++ ks) s → Kept scene ks ps o items n
    → Kept scene ks ps o (items ++ item.Jump s ∷ []) n
jump s there k = jump_back s s there (le_refl s.0) k

-- a pending spot
pub stands : {scene : Scene} {ks ps : List Spot} {o : Listing} {items : List Item} {n : ℕ}
    (p : Spot) → Kept scene ks (p ∷ ps) o items n → Kept scene ks ps o (items ++ item.Spot p ∷ []) n
unfolding times
stands p k = line (item.Spot p) k.pending.1 tt (λ i. omega arith) k

-- a copy of a block that leads to taken spots
pub copy : {scene : Scene} {ks ps : List Spot} {o : Listing} {items : List Item} {n : ℕ}
    (block : Block) → OfBlock (IsBelow n) block → Kept scene ks ps o items n
    → Kept scene ks ps o (items ++ item.Copy block ∷ []) n
unfolding times
copy block leads k = line (item.Copy block) k.pending leads (λ i. omega arith) k

-- ---- spots are taken

-- so that others are pending
pub take : {scene : Scene} {ks ps : List Spot} {o : Listing} {items : List Item} {n : ℕ}
    (qs : List Spot) (m : ℕ) → n ≤ m → AreBelow m qs
    → ((i : ℕ) → pending_times qs i + free m i ≡ free n i + pending_times ps i)
    → Kept scene ks ps o items n → Kept scene ks qs o items m
take {items = items} {n = n} qs m more below counted k = record {
  handler = k.handler;
  known = k.known;
  pending = below;
  low = omega (arith, k.low, more);
  stand = λ i. omega (arith, k.stand i, counted i);
  led = λ h. edges_map (λ s low. omega (arith, low, more)) items (k.led h);
}

abbrev pub nth : ℕ → ℕ → Spot
nth n i = record { 0 = n + i }

pub take_1 : {scene : Scene} {ks ps : List Spot} {o : Listing} {items : List Item} {n : ℕ}
    → Kept scene ks ps o items n → Kept scene ks (nth n 0 ∷ ps) o items (n + 1)
take_1 {ps = ps} {n = n} k =
    take (nth n 0 ∷ ps) (n + 1) (omega arith)
    (omega arith, below_later n (n + 1) ps (omega arith) k.pending)
    (λ i. omega (arith, taken n (n + 0) (n + 1) i (omega arith) (omega arith))) k

pub take_2 : {scene : Scene} {ks ps : List Spot} {o : Listing} {items : List Item} {n : ℕ}
    → Kept scene ks ps o items n → Kept scene ks (nth n 0 ∷ nth n 1 ∷ ps) o items (n + 2)
take_2 {ps = ps} {n = n} k =
    take (nth n 0 ∷ nth n 1 ∷ ps) (n + 2) (omega arith)
    (omega arith, (omega arith, below_later n (n + 2) ps (omega arith) k.pending))
    (λ i. omega (
      arith,
      taken n (n + 0) (n + 1) i (omega arith) (omega arith),
      taken (n + 1) (n + 1) (n + 2) i (omega arith) (omega arith),
    )) k

pub take_3 : {scene : Scene} {ks ps : List Spot} {o : Listing} {items : List Item} {n : ℕ}
    → Kept scene ks ps o items n → Kept scene ks (nth n 0 ∷ nth n 1 ∷ nth n 2 ∷ ps) o items (n + 3)
take_3 {ps = ps} {n = n} k =
    take (nth n 0 ∷ nth n 1 ∷ nth n 2 ∷ ps) (n + 3) (omega arith) (
      omega arith,
      (
        omega arith,
        (
          omega arith,
          below_later n (n + 3) ps (omega arith) k.pending,
        ),
      ),
    )
    (λ i. omega (
      arith,
      taken n (n + 0) (n + 1) i (omega arith) (omega arith),
      taken (n + 1) (n + 1) (n + 2) i (omega arith) (omega arith),
      taken (n + 2) (n + 2) (n + 3) i (omega arith) (omega arith),
    )) k

pub take_4 : {scene : Scene} {ks ps : List Spot} {o : Listing} {items : List Item} {n : ℕ}
    → Kept scene ks ps o items n → Kept scene ks (nth n 0 ∷ nth n 1 ∷ nth n 2 ∷ nth n 3 ∷ ps) o
    items (n + 4)
take_4 {ps = ps} {n = n} k =
    take (nth n 0 ∷ nth n 1 ∷ nth n 2 ∷ nth n 3 ∷ ps) (n + 4) (omega arith) (
      omega arith,
      (
        omega arith,
        (
          omega arith,
          (omega arith, below_later n (n + 4) ps (omega arith) k.pending),
        ),
      ),
    )
    (λ i. omega (
      arith,
      taken n (n + 0) (n + 1) i (omega arith) (omega arith),
      taken (n + 1) (n + 1) (n + 2) i (omega arith) (omega arith),
      taken (n + 2) (n + 2) (n + 3) i (omega arith) (omega arith),
      taken (n + 3) (n + 3) (n + 4) i (omega arith) (omega arith),
    )) k

-- the order of pending spots is free
pub swap : {scene : Scene} {ks ps : List Spot} {p q : Spot} {o : Listing} {items : List Item}
    {n : ℕ} → Kept scene ks (p ∷ q ∷ ps) o items n → Kept scene ks (q ∷ p ∷ ps) o items n
swap {ks = ks} {ps = ps} {p = p} {q = q} {items = items} k = record {
  handler = k.handler;
  known = k.known;
  pending = (k.pending.1.0, (k.pending.0, k.pending.1.1));
  low = k.low;
  stand = λ i. omega (arith, k.stand i);
  led = k.led;
}

-- ---- lines that were begun anew

-- .. where other spots may be known
pub on_from_inside : {scene : Scene} {ks ps : List Spot} {o : Listing} {inner : Scene} {l : Listing}
    {items : List Item} {n : ℕ} (xs : List Spot) → Kept scene ks ps o l.items l.spot
    → Kept inner (xs ++ (ps ++ ks)) [] l items n → Kept scene ks ps o items n
on_from_inside {ps = ps} {l = l} {n = n} xs k r = record {
  handler = k.handler;
  known = k.known;
  pending = below_later l.spot n ps r.low k.pending;
  low = omega (arith, k.low, r.low);
  stand = λ i. omega (arith, k.stand i, r.stand i);
  led = λ h. r.led (k.led h);
}
