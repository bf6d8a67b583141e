-- The items at the end of a listing, one more at a time.
use Rattle.std.proofs.Common.{◌≡◌, ℕ, ◌+◌, ◌-◌, ◌<◌, ◌≤◌, List, [], ◌∷◌, ◌++◌, length, get_or, drop, zero, suc, ap, sym, arith, drop-cons, add-one}
use Rattle.ja_lower_listing.specs.declared.item.Item.{Item}
use Rattle.ja_lower_listing.specs.declared.item.Item.TheVariants as item
use Rattle.ja_lower_listing.specs.Listing.{node_count}

-- the items from one on
pub items_at : (items : List Item) (k m : ℕ) (x : Item) → x ≡ get_or items k x → k < length items
    → m ≡ k + 1 → drop k items ≡ x ∷ drop m items
items_at items k m x at inside next =
    rw (next, add-one, drop-cons items k x) (ap (λ y. y ∷ drop (suc k) items) (sym at))

-- the nodes of an item and of those behind it
pub count_split : (x : Item) (items : List Item)
    → node_count (x ∷ items) ≡ node_count (x ∷ []) + node_count items
unfolding node_count
count_split (item.Node node other handler place) items = omega arith
count_split (item.Spot s) items = omega arith
count_split (item.Jump s) items = omega arith
count_split (item.Copy block) items = omega arith

-- the nodes of items and of those behind them
pub count_both : (xs ys : List Item) → node_count (xs ++ ys) ≡ node_count xs + node_count ys
unfolding node_count
count_both [] ys = omega arith
count_both (x ∷ xs) ys = omega (arith, count_split x (xs ++ ys), count_split x xs, count_both xs ys)

-- the items from one on have no more nodes
pub count_drop : (k : ℕ) (items : List Item) → node_count (drop k items) ≤ node_count items
count_drop zero items = omega arith
count_drop (suc k) [] = omega arith
count_drop (suc k) (x ∷ items) = omega (arith, count_drop k items, count_split x items)

-- the nodes of an item stand among those before what is behind it
pub count_before : (items behind : List Item) (k before : ℕ) (x : Item) → drop k items ≡ x ∷ behind
    → before + node_count behind ≡ node_count items → node_count (x ∷ []) ≤ before
count_before items behind k before x e h =
    let all : node_count (x ∷ behind) ≤ node_count items = rw e at (count_drop k items) in
    omega (arith, count_split x behind)
