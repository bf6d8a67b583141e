-- How often spots stand in lines, and which numbers are taken.
use Rattle.std.proofs.Common.{◌≡◌, ◌<◌, ◌≤◌, ◌+◌, ◌==◌, ◌⊎◌, inl, inr, ℕ, nat_le, Bool, true, false, if◌then◌else◌, List, [], ◌∷◌, ◌++◌, Option, Some, None, refl, arith}
use Rattle.std.specs.List.{AllByRecursion}
use Rattle.std.proofs.lemmas.Bool.{eqb-true, eqb-false, leb-true, leb-false}
use Rattle.ja_lower_listing.specs.declared.item.Block.{Block}
use Rattle.ja_lower_listing.specs.declared.item.BlockNode.{BlockNode}
use Rattle.ja_lower_listing.specs.declared.item.Spot.{Spot}
use Rattle.ja_lower_listing.specs.declared.item.Target.{Target}
use Rattle.ja_lower_listing.specs.declared.item.Target.TheVariants as target
use Rattle.ja_lower_listing.specs.declared.item.Item.{Item}
use Rattle.ja_lower_listing.specs.declared.item.Item.TheVariants as item
use Rattle.ja_lower_ranges.specs.Spots.{same, times, OfSpot, OfTarget, OfTargets, OfBlock, OfEdges}

-- ---- numbers

abbrev pub one_if : Bool → ℕ
one_if b = if b then 1 else 0

-- 1 for a number that isn't taken yet, where those below a first one are
abbrev pub free : ℕ → ℕ → ℕ
free first i = if nat_le first i then 1 else 0

pub free_from : (first i : ℕ) → first ≤ i → free first i ≡ 1
free_from first i low = either (nat_le first i) refl
  where
    either : (b : Bool) → nat_le first i ≡ b → one_if b ≡ 1
    either true e = refl
    either false e = absurd (omega (arith, low, leb-false first i e))

pub free_below : (first i : ℕ) → i < first → free first i ≡ 0
free_below first i low = either (nat_le first i) refl
  where
    either : (b : Bool) → nat_le first i ≡ b → one_if b ≡ 0
    either true e = absurd (omega (arith, low, leb-true first i e))
    either false e = refl

pub same_is : (n i : ℕ) → n ≡ i → same n i ≡ 1
same_is n i is = either (n == i) refl
  where
    either : (b : Bool) → (n == i) ≡ b → one_if b ≡ 1
    either true e = refl
    either false e = absurd (eqb-false n i e is)

pub same_not : (n i : ℕ) → (n ≡ i → ⊥) → same n i ≡ 0
same_not n i not = either (n == i) refl
  where
    either : (b : Bool) → (n == i) ≡ b → one_if b ≡ 0
    either true e = absurd (not (eqb-true n i e))
    either false e = refl

-- a number is below another one, it or above it
data Order (n i : ℕ) : Type 0 where
  lower : i < n → Order n i
  equal : n ≡ i → Order n i
  higher : n < i → Order n i

order : (n i : ℕ) → Order n i
order n i = either (n == i) (nat_le n i) refl refl
  where
    either : (b c : Bool) → (n == i) ≡ b → nat_le n i ≡ c → Order n i
    either true c e f = equal (eqb-true n i e)
    either false true e f = higher (differ (eqb-false n i e) (leb-true n i f))
      where
        differ : (n ≡ i → ⊥) → n ≤ i → n < i
        differ not low = grind (arith, not, low)
    either false false e f = lower (omega (arith, leb-false n i f))

-- the first free number is taken
pub taken : (whole first next i : ℕ) → whole ≡ first → next ≡ first + 1
    → same first i + free next i ≡ free whole i
taken whole first next i here on = by_order (order first i)
  where
    by_order : Order first i → same first i + free next i ≡ free whole i
    by_order (lower low) =
        omega (
          arith,
          same_not first i (λ e. omega (arith, low, e)),
          free_below next i (omega (arith, low, on)),
          free_below whole i (omega (arith, low, here)),
        )
    by_order (equal e) =
        omega (
          arith,
          same_is first i e,
          free_below next i (omega (arith, e, on)),
          free_from whole i (omega (arith, e, here)),
        )
    by_order (higher high) =
        omega (
          arith,
          same_not first i (λ e. omega (arith, high, e)),
          free_from next i (omega (arith, high, on)),
          free_from whole i (omega (arith, high, here)),
        )

-- ---- lists of spots

-- how often a number is among spots
abbrev pub pending_times : List Spot → ℕ → ℕ
pending_times [] i = 0
pending_times (p ∷ ps) i = same p.0 i + pending_times ps i

abbrev pub Among : List Spot → Spot → Type 0
Among [] s = ⊥
Among (k ∷ ks) s = (k.0 ≡ s.0) ⊎ Among ks s

abbrev pub IsBelow : ℕ → Spot → Type 0
IsBelow n s = s.0 < n

abbrev pub AreBelow : ℕ → List Spot → Type 0
AreBelow n ks = AllByRecursion (IsBelow n) ks

pub among_below : (n : ℕ) (ks : List Spot) (s : Spot) → AreBelow n ks → Among ks s → s.0 < n
among_below n [] s low there = absurd there
among_below n (k ∷ ks) s low (inl e) = omega (arith, low.0, e)
among_below n (k ∷ ks) s low (inr there) = among_below n ks s low.1 there

pub below_later : (n m : ℕ) (ks : List Spot) → n ≤ m → AreBelow n ks → AreBelow m ks
below_later n m [] more low = tt
below_later n m (k ∷ ks) more low = (omega (arith, more, low.0), below_later n m ks more low.1)

pub below_append : (n : ℕ) (ps ks : List Spot) → AreBelow n ps → AreBelow n ks
    → AreBelow n (ps ++ ks)
below_append n [] ks first second = second
below_append n (p ∷ ps) ks first second = (first.0, below_append n ps ks first.1 second)

pub among_more : (ps ks : List Spot) (s : Spot) → Among ks s → Among (ps ++ ks) s
among_more [] ks s there = there
among_more (p ∷ ps) ks s there = inr (among_more ps ks s there)

-- ---- what holds of spots and of edges

pub spot_map : {P Q : Spot → Type 0} → ((s : Spot) → P s → Q s) → (o : Option Spot) → OfSpot P o
    → OfSpot Q o
spot_map f None h = tt
spot_map f (Some s) h = f s h

target_map : {P Q : Spot → Type 0} → ((s : Spot) → P s → Q s) → (t : Target) → OfTarget P t
    → OfTarget Q t
target_map f (target.Node n) h = tt
target_map f (target.Spot s) h = f s h
target_map f target.Behind h = tt
target_map f target.Out h = tt

pub nodes_map : {P Q : Spot → Type 0} → ((s : Spot) → P s → Q s) → (ns : List BlockNode)
    → AllByRecursion (OfTargets P) ns → AllByRecursion (OfTargets Q) ns
nodes_map f [] h = tt
nodes_map f (n ∷ ns) h = (
  (target_map f n.next h.0.0, target_map f n.other h.0.1, target_map f n.handler h.0.2),
  nodes_map f ns h.1,
)

pub block_map : {P Q : Spot → Type 0} → ((s : Spot) → P s → Q s) → (block : Block) → OfBlock P block
    → OfBlock Q block
block_map f block h = (target_map f block.entry h.0, nodes_map f block.nodes h.1)

pub edges_map : {P Q : Spot → Type 0} → ((s : Spot) → P s → Q s) → (items : List Item)
    → AllByRecursion (OfEdges P) items → AllByRecursion (OfEdges Q) items
edges_map f [] h = tt
edges_map f (item.Node node other handler place ∷ items) h =
    ((spot_map f other h.0.0, spot_map f handler h.0.1), edges_map f items h.1)
edges_map f (item.Spot s ∷ items) h = (tt, edges_map f items h.1)
edges_map f (item.Jump s ∷ items) h = (f s h.0, edges_map f items h.1)
edges_map f (item.Copy block ∷ items) h = (block_map f block h.0, edges_map f items h.1)

pub edges_append : (P : Spot → Type 0) (xs ys : List Item) → AllByRecursion (OfEdges P) xs
    → AllByRecursion (OfEdges P) ys → AllByRecursion (OfEdges P) (xs ++ ys)
edges_append P [] ys first second = second
edges_append P (x ∷ xs) ys first second = (first.0, edges_append P xs ys first.1 second)

-- ---- lines behind lines

pub times_append : (i : ℕ) (xs ys : List Item) → times i (xs ++ ys) ≡ times i xs + times i ys
unfolding times
times_append i [] ys = omega arith
times_append i (item.Node node other handler place ∷ xs) ys = times_append i xs ys
times_append i (item.Spot s ∷ xs) ys = omega (arith, times_append i xs ys)
times_append i (item.Jump s ∷ xs) ys = times_append i xs ys
times_append i (item.Copy block ∷ xs) ys = times_append i xs ys
