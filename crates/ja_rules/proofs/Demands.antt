-- Demands that are joined to the values at entry.
use Rattle.std.specs.Prelude.{◌≡◌, ◌≢◌, Bool, true, false, if◌then◌else◌, List, [], ◌∷◌, ◌++◌, length, Option, Some, None, IsSome, IsTrue, unwrap_or, ◌||◌, ◌&&◌}
use Rattle.std.specs.List.{list_any}
use Rattle.std.proofs.Common.{refl, sym, ◌∙◌, ap, subst, inl, inr, arith}
use Rattle.std.proofs.lemmas.Bool.{cases_Bool, true≢false}
use Rattle.std.proofs.lemmas.List.Folds.{list_any-append}
use Rattle.ja_base.specs.declared.ids.Label.{Label}
use Rattle.ja_abstract.specs.declared.abstraction.Key.{Key}
use Rattle.ja_abstract.specs.AbstractState.{same_key}
use Rattle.ja_abstract.specs.AbstractValue.{AbstractProperty, no_property, same_label}
use Rattle.ja_abstract.specs.Resolved.{Demands, Entries}
use Rattle.ja_abstract.proofs.Order.{LeqEntries, LeqOptionProperty, property_same}
use Rattle.ja_aheap.specs.Objects.{is_pair}
use Rattle.ja_rows.specs.Table.{with_demand}
use Rattle.ja_rules.specs.code.Entries.{demanded}

demanded_one : (q : Option AbstractProperty) (b : Bool) → LeqOptionProperty q (with_demand q b)
demanded_one None true = tt
demanded_one None false = tt
demanded_one (Some q) true = property_same q
demanded_one (Some q) false = property_same q

demanded-leq : (e : Entries) (d : Demands) → LeqEntries e (demanded e d)
demanded-leq e d = record { each = λ l k. demanded_one (e l k) (d l k) }

-- ---- lists of pairs

-- the pairs of a list
abbrev pub demands_of_list : List (Label × Key) → Demands
demands_of_list pairs l k = list_any (is_pair l k) pairs

demanded_cases : (q : Option AbstractProperty) (d p : Bool)
    → (if d then Some (unwrap_or (if p then Some (unwrap_or q no_property) else q) no_property)
    else (if p then Some (unwrap_or q no_property) else q))
    ≡ (if d || (p || false) then Some (unwrap_or q no_property) else q)
demanded_cases q true true = refl
demanded_cases q true false = refl
demanded_cases q false true = refl
demanded_cases q false false = refl

-- the values at entry with one pair more
abbrev pub demanded_one_pair : Entries → Label → Key → Entries
demanded_one_pair e l k m j =
    if same_label l m && same_key k j then Some (unwrap_or (e m j) no_property) else e m j

demanded_more_at : (e : Entries) (pairs : List (Label × Key)) (l : Label) (k : Key) (m : Label)
    (j : Key) → demanded (demanded_one_pair e l k) (demands_of_list pairs) m j
    ≡ demanded e (demands_of_list (pairs ++ (l, k) ∷ [])) m j
demanded_more_at e pairs l k m j =
    rw (list_any-append (is_pair m j) pairs ((l, k) ∷ []))
    (demanded_cases (e m j) (list_any (is_pair m j) pairs) (is_pair m j (l, k)))

-- a pair is demanded, and then the others
pub demanded_more : (e : Entries) (pairs : List (Label × Key)) (l : Label) (k : Key)
    → demanded (demanded_one_pair e l k) (demands_of_list pairs)
    ≡ demanded e (demands_of_list (pairs ++ (l, k) ∷ []))
demanded_more e pairs l k = λ i m j. demanded_more_at e pairs l k m j i

-- ---- several steps, each of which rises

-- what changed and then rose has changed, and so has what rose and then changed
pub rose : {X : Type 0} (Leq : X → X → Type 0) (equal : (x y : X) → Leq x y → Leq y x → x ≡ y)
    (f g h : X) → Leq f g → Leq g h → (a b : Bool) → (a ≡ true → g ≢ f) → (b ≡ true → h ≢ g)
    → a || b ≡ true → h ≢ f
rose Leq equal f g h p q true b first second e back =
    first refl (equal g f (subst (λ w. Leq g w) back q) p)
rose Leq equal f g h p q false b first second e back =
    second e (back ∙ sym (equal g f (subst (λ w. Leq g w) back q) p))

-- what stayed and then stayed is as it was
pub stayed : {X : Type 0} (f g h : X) (a b : Bool) → (a ≡ false → g ≡ f) → (b ≡ false → h ≡ g)
    → a || b ≡ false → h ≡ f
stayed f g h true b first second e = absurd (true≢false e)
stayed f g h false b first second e = second e ∙ first refl

-- the last pair of a list is demanded first
pub demanded_step : (e f : Entries) (all pairs : List (Label × Key)) (l : Label) (k : Key)
    → f ≡ demanded_one_pair e l k → all ≡ pairs ++ (l, k) ∷ []
    → demanded f (demands_of_list pairs) ≡ demanded e (demands_of_list all)
demanded_step e f all pairs l k h g =
    ap (λ (d : Entries). demanded d (demands_of_list pairs)) h
    ∙ (demanded_more e pairs l k ∙ ap (λ xs. demanded e (demands_of_list xs)) (sym g))

-- a pair more rises
pub one_pair-leq : (e f : Entries) (l : Label) (k : Key) → f ≡ demanded_one_pair e l k
    → LeqEntries e f
one_pair-leq e f l k h =
    subst (λ (d : Entries). LeqEntries e d) (sym h)
    (demanded-leq e (λ m j. same_label l m && same_key k j))

-- no pair is left
pub demanded_none : (e : Entries) (pairs : List (Label × Key)) → length pairs ≡ 0
    → demanded e (demands_of_list pairs) ≡ e
demanded_none e [] h = refl
demanded_none e (x ∷ xs) h = absurd (omega arith)

-- ---- keys that are demanded

some_or : (b : Bool) (o : Option AbstractProperty) → IsSome (with_demand o b) → b ≡ false
    → IsSome o
some_or b o h f = subst (λ c. IsSome (with_demand o c)) f h

-- what holds of each pair that was demanded and of each more holds of each that is demanded then
pub demanded_all : (P : Label → Key → Type 0) (e : Entries) (d : Demands)
    → ((l : Label) (k : Key) → IsSome (e l k) → P l k)
    → ((l : Label) (k : Key) → IsTrue (d l k) → P l k) → (l : Label) (k : Key)
    → IsSome (demanded e d l k) → P l k
demanded_all P e d was now l k h =
    elim (cases_Bool (d l k)) [
      | inl t ↦ now l k t
      | inr f ↦ was l k (some_or (d l k) (e l k) h f)
    ]
