-- Contexts and call edges in order, and their places.
use Rattle.std.specs.Prelude.{◌≡◌, ◌≤◌, ◌==◌, ℕ, ◌*◌, ◌+◌, Bool, true, false, not, if◌then◌else◌, nat_lt, List, length, take, drop}
use Rattle.std.specs.List.Sorted.{IsPartitionPoint}
use Rattle.std.proofs.Common.{refl, arith}
use Rattle.std.proofs.lemmas.Bool.{not-true, not-false}
use Rattle.ja_base.specs.declared.ids.Context.{Context}
use Rattle.ja_base.specs.declared.ids.Label.{Label}
use Rattle.ja_base.proofs.Lists.{all_weaker}
use Rattle.ja_abstract.specs.AbstractValue.{same_label}
use Rattle.ja_abstract.specs.AbstractState.{label_number}
use Rattle.ja_abstract.proofs.Labels.{same_label-true, same_label-self}
use Rattle.ja_rows.specs.declared.table.Edge.{Edge}
use Rattle.ja_rows.specs.Table.{same_context, same_edge}
use Rattle.ja_table.specs.declared.table.ContextTable.{ContextTable}
use Rattle.ja_table.specs.Order.{below_context, below_edge}
use Rattle.ja_table.specs.code.Places.{IsPlaceBehind}
use Rattle.ja_table.proofs.KeyOrders.{IsKeyOrder, numbers_order, numbered_order, parts_order}
use Rattle.ja_table.proofs.Ordered.{taken_of, dropped_of}

-- ---- the orders

halves : (s t : ℕ) (a b : Bool) → 2 * s + (if a then 1 else 0) ≡ 2 * t + (if b then 1 else 0)
    → (s ≡ t) × (a ≡ b)
halves s t true true e = (omega (arith, e), refl)
halves s t true false e = absurd (omega (arith, e))
halves s t false true e = absurd (omega (arith, e))
halves s t false false e = (omega (arith, e), refl)

pub label_tells : (l m : Label) → label_number l ≡ label_number m → l ≡ m
label_tells l m e =
    let (site_is, old_is) = halves l.site.0 m.site.0 l.old m.old e in
    λ i. record { site = record { 0 = site_is i }; old = old_is i }

abbrev below_label : Label → Label → Bool
below_label l m = nat_lt (label_number l) (label_number m)

labels_order : IsKeyOrder below_label same_label
labels_order = numbered_order label_number same_label same_label-true same_label-self label_tells

context_tells : (x y : Context) → x.function.0 ≡ y.function.0 → x.receiver ≡ y.receiver → x ≡ y
context_tells x y f r = λ i. record { function = record { 0 = f i }; receiver = r i }

pub contexts_order : IsKeyOrder below_context same_context
contexts_order =
    parts_order (λ (x : Context). x.function.0) (λ (x : Context). x.receiver) nat_lt ◌==◌
    below_label same_label numbers_order labels_order context_tells

-- the node and the callee of an edge
abbrev Rest : Type 0
Rest = ℕ × Context

abbrev rest_of : Edge → Rest
rest_of e = (e.node.0, e.callee)

rest_tells : (a b : Rest) → a.0 ≡ b.0 → a.1 ≡ b.1 → a ≡ b
rest_tells a b n y = λ i. (n i, y i)

edge_tells : (e d : Edge) → e.caller ≡ d.caller → rest_of e ≡ rest_of d → e ≡ d
edge_tells e d c r =
    λ i. record { caller = c i; node = record { 0 = (r i).0 }; callee = (r i).1 }

pub edges_order : IsKeyOrder below_edge same_edge
edges_order =
    parts_order (λ (e : Edge). e.caller) rest_of below_context same_context _ _ contexts_order
    (parts_order (λ (r : Rest). r.0) (λ (r : Rest). r.1) nat_lt ◌==◌ below_context same_context
    numbers_order contexts_order rest_tells) edge_tells

-- ---- the place behind a context, by a partition point

pub place_behind_context : (x : Context) (cs : List ContextTable) (n : ℕ) → n ≤ length cs
    → IsPartitionPoint (λ (c : ContextTable). not (below_context x c.context) ≡ true)
    (λ (c : ContextTable). not (below_context x c.context) ≡ false) cs n → IsPlaceBehind x cs n
place_behind_context x cs n within point =
    let comes : ContextTable → Bool = λ c. below_context x c.context in
    record {
      before =
          all_weaker (λ c. not (comes c) ≡ true) (λ c. comes c ≡ false)
          (λ c h. not-true (comes c) h) (take n cs) (taken_of _ cs n within point.0);
      behind =
          all_weaker (λ c. not (comes c) ≡ false) (λ c. comes c ≡ true)
          (λ c h. not-false (comes c) h) (drop n cs) (dropped_of _ cs n within point.1);
    }
