-- Places and links in order, by their numbers.
use Rattle.std.specs.Prelude.{◌≡◌, ◌⊎◌, List, [], ◌∷◌, map}
use Rattle.std.specs.declared.cmp.Ordering.{Ordering}
use Rattle.std.specs.declared.cmp.Ordering.TheVariants.{Less, Equal, Greater}
use Rattle.std.specs.Cmp.{IsTotalOrder, then_total, on_total}
use Rattle.std.specs.List.{AllByRecursion}
use Rattle.std.specs.List.Sorted.{IsStrictlySortedBy}
use Rattle.std.specs.Ordering.{nat_cmp, ordering_then}
use Rattle.std.proofs.Common.{refl, ap, inl, inr}
use Rattle.std.proofs.lemmas.Cmp.{nat_cmp_total}
use Rattle.std.proofs.lemmas.Map.Lookups.{CmpEqualImpliesEq, exact_pairs, exact_unsigned}
use Rattle.ja_aheap.proofs.MapLemmas.{less_than}
use Rattle.ja_lint_top.specs.Calls.{AreLinksOrdered, ArePlacesOrdered, IsBelow, IsLinkBelow}
use Rattle.ja_lint_top.specs.code.Calls.{ends_cmp, link_at, place_at, spot_cmp, Ends, Spot}
use Rattle.ja_warn.proofs.Held.{then_less}

-- ---- the orders

pub spot_total : IsTotalOrder spot_cmp
spot_total =
    then_total (on_total (λ (s : Spot). s.0) nat_cmp_total)
    (on_total (λ (s : Spot). s.1) nat_cmp_total)

pub spot_exact : CmpEqualImpliesEq spot_cmp
spot_exact = exact_pairs nat_cmp nat_cmp exact_unsigned exact_unsigned

pub ends_total : IsTotalOrder ends_cmp
ends_total =
    then_total (on_total (λ (s : Ends). s.0) spot_total) (on_total (λ (s : Ends). s.1) spot_total)

pub ends_exact : CmpEqualImpliesEq ends_cmp
ends_exact = exact_pairs spot_cmp spot_cmp spot_exact spot_exact

place_below : (x y : Spot) → spot_cmp x y ≡ Less → IsBelow (place_at x) (place_at y)
place_below x y less =
    elim (then_less (nat_cmp x.0 y.0) (nat_cmp x.1 y.1) less) [
      | inl line ↦ inl (less_than x.0 y.0 line)
      | inr column ↦ inr (exact_unsigned x.0 y.0 column.0, less_than x.1 y.1 column.1)
    ]

link_below : (x y : Ends) → ends_cmp x y ≡ Less → IsLinkBelow (link_at x) (link_at y)
link_below x y less =
    elim (then_less (spot_cmp x.0 y.0) (spot_cmp x.1 y.1) less) [
      | inl from ↦ inl (place_below x.0 y.0 from)
      | inr to ↦ inr (
        ap place_at (spot_exact x.0 y.0 to.0),
        place_below x.1 y.1 to.1,
      )
    ]

-- ---- lists in order

all_behind : {K X : Type 0} (at : K → X) (cmp : K → K → Ordering) (Below : X → X → Type 0)
    → ((x y : K) → cmp x y ≡ Less → Below (at x) (at y)) → (k : K) (ks : List K)
    → AllByRecursion (λ j. cmp k j ≡ Less) ks → AllByRecursion (Below (at k)) (map at ks)
all_behind at cmp Below below k [] less = tt
all_behind at cmp Below below k (j ∷ ks) less =
    (below k j less.0, all_behind at cmp Below below k ks less.1)

pub places_in_order : (ks : List Spot) → IsStrictlySortedBy spot_cmp ks
    → ArePlacesOrdered (map place_at ks)
unfolding IsStrictlySortedBy
places_in_order [] sorted = tt
places_in_order (k ∷ ks) sorted =
    (all_behind place_at spot_cmp IsBelow place_below k ks sorted.0, places_in_order ks sorted.1)

pub links_in_order : (ks : List Ends) → IsStrictlySortedBy ends_cmp ks
    → AreLinksOrdered (map link_at ks)
unfolding IsStrictlySortedBy
links_in_order [] sorted = tt
links_in_order (k ∷ ks) sorted =
    (all_behind link_at ends_cmp IsLinkBelow link_below k ks sorted.0, links_in_order ks sorted.1)
