-- Values at entry, compared at the pairs that are demanded.
use Rattle.std.specs.Prelude.{◌≡◌, ◌↔◌, ◌&&◌, ℕ, Bool, IsSome, IsTrue, List, [], ◌∷◌, Option, None, Some, get_or, length}
use Rattle.std.specs.List.{list_any, AllByRecursion}
use Rattle.std.proofs.Common.{refl, sym, ◌∙◌, subst, inl, inr}
use Rattle.std.proofs.lemmas.Bool.{and_parts, false≢true, or_cases}
use Rattle.std.proofs.lemmas.List.Elements.{recursion_from_All}
use Rattle.ja_base.specs.declared.ids.Label.{Label}
use Rattle.ja_graph.specs.declared.program.Program.{Program}
use Rattle.ja_abstract.specs.declared.abstraction.Key.{Key}
use Rattle.ja_abstract.specs.AbstractState.{is_key, is_label, keys_below, labels_below, same_key}
use Rattle.ja_abstract.specs.AbstractValue.{AbstractProperty, same_label}
use Rattle.ja_abstract.specs.Order.{LeqProperty}
use Rattle.ja_abstract.specs.Resolved.{Entries}
use Rattle.ja_abstract.proofs.Keys.{same_key-true}
use Rattle.ja_abstract.proofs.Labels.{same_label-true}
use Rattle.ja_abstract.proofs.Order.{property_equal, property_same}
use Rattle.ja_aheap.specs.Entries.{pairs_of}
use Rattle.ja_flow.specs.code.Pairs.{AreDemanded}
use Rattle.ja_flow.proofs.Pairs.{pairs_demanded}
use Rattle.ja_check.specs.code.Checking.{AreSameAt}
use Rattle.ja_table.proofs.Told.{told_both}

-- ---- one pair

pub property_told : (a b : AbstractProperty) (below above : Bool) → IsTrue below ↔ LeqProperty a b
    → IsTrue above ↔ LeqProperty b a → IsTrue (below && above) ↔ (a ≡ b)
property_told a b below above h k =
    told_both below above h k (property_equal a b) (λ e. subst (LeqProperty a) e (property_same a))
    (λ e. subst (λ q. LeqProperty q a) e (property_same a))

-- ---- all pairs

at_pair : (e f : Entries) (l : Label) (k : Key) (pairs : List (Label × Key))
    → AllByRecursion (λ (q : Label × Key). e q.0 q.1 ≡ f q.0 q.1) pairs
    → IsTrue (list_any (λ (q : Label × Key). same_label q.0 l && same_key q.1 k) pairs)
    → e l k ≡ f l k
at_pair e f l k [] all h = absurd (false≢true h)
at_pair e f l k (q ∷ pairs) all h =
    elim (or_cases (same_label q.0 l && same_key q.1 k) _ h) [
      | inl here ↦
          let parts = and_parts (same_label q.0 l) (same_key q.1 k) here in
          subst (λ (m : Label). e m k ≡ f m k) (same_label-true q.0 l parts.0)
          (subst (λ (j : Key). e q.0 j ≡ f q.0 j) (same_key-true q.1 k parts.1) all.0)
      | inr rest ↦ at_pair e f l k pairs all.1 rest
    ]

-- what is the same at each pair that one of two entries demands is the same
same_by : (e f : Entries) (ps qs : List (Label × Key)) → AreDemanded e ps → AreDemanded f qs
    → AreSameAt e f ps → AreSameAt e f qs → e ≡ f
same_by e f ps qs of_e of_f first second =
    λ i l k. at l k (e l k) (f l k) refl refl i
  where
    at : (l : Label) (k : Key) (a b : Option AbstractProperty) → e l k ≡ a → f l k ≡ b
        → e l k ≡ f l k
    at l k None None a_is b_is = a_is ∙ sym b_is
    at l k (Some a) b a_is b_is =
        at_pair e f l k ps (recursion_from_All (λ (q : Label × Key). e q.0 q.1 ≡ f q.0 q.1) ps
        first)
        (of_e l k (subst IsSome (sym a_is) refl))
    at l k None (Some b) a_is b_is =
        at_pair e f l k qs (recursion_from_All (λ (q : Label × Key). e q.0 q.1 ≡ f q.0 q.1) qs
        second)
        (of_f l k (subst IsSome (sym b_is) refl))

-- the pairs of the program that entries demand
pub listed_demands : (p : Program) (e : Entries)
    → ((l : Label) (k : Key) → IsSome (e l k) → IsTrue (is_label p l))
    → ((l : Label) (k : Key) → IsSome (e l k) → IsTrue (is_key p k)) → (m n : ℕ)
    → m ≡ length p.sites → n ≡ length p.names → (pairs : List (Label × Key))
    → pairs ≡ pairs_of e (labels_below m) (keys_below n) → AreDemanded e pairs
listed_demands p e labelled keyed m n m_is n_is pairs are =
    subst (AreDemanded e) (sym (are ∙ (λ i. pairs_of e (labels_below (m_is i))
    (keys_below (n_is i))))) (pairs_demanded p e keyed labelled)

pub entries_told : (e f : Entries) (ps qs : List (Label × Key)) (first second : Bool)
    → AreDemanded e ps → AreDemanded f qs → IsTrue first ↔ AreSameAt e f ps
    → IsTrue second ↔ AreSameAt e f qs → IsTrue (first && second) ↔ (e ≡ f)
entries_told e f ps qs first second of_e of_f h k =
    told_both first second h k (same_by e f ps qs of_e of_f)
    (λ same j d within i. same i (get_or ps j d).0 (get_or ps j d).1)
    (λ same j d within i. same i (get_or qs j d).0 (get_or qs j d).1)
