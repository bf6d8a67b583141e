-- What a walk along prototypes comes to, and the names that are shown of the objects on it.
use Rattle.std.specs.Prelude.{◌≡◌, Bool, true, false, ◌&&◌, ◌||◌, if◌then◌else◌, List, [], ◌∷◌, filter, map, IsTrue}
use Rattle.std.specs.List.{list_any}
use Rattle.std.proofs.Common.{◌+◌, ◌<◌, ◌++◌, ℕ, length, take, get_or, refl, sym, subst, ap, ◌∙◌, cond}
use Rattle.std.proofs.lemmas.List.{take_more}
use Rattle.std.proofs.lemmas.Option.{slice_get-get_or}
use Rattle.ja_base.proofs.Lists.{all_at}
use Rattle.ja_base.specs.declared.ids.Label.{Label}
use Rattle.ja_graph.specs.declared.program.Program.{Program}
use Rattle.ja_abstract.specs.declared.abstraction.Key.{Key}
use Rattle.ja_abstract.specs.AbstractValue.{Labels, AbstractValue, AbstractProperty, is_present, join, no_value, bare}
use Rattle.ja_abstract.specs.AbstractState.{labels_of, labels_below, is_key}
use Rattle.ja_abstract.specs.InProgram.{AreKeys}
use Rattle.ja_abstract.specs.Keys.{text_keys}
use Rattle.ja_abstract.specs.Reading.{View, both, some_label, ancestors, proper_ancestors, demands_of_ancestors, demands_of_own, own, key_value, may_be_enumerable, may_show, names_shown, demands_of_shown}
use Rattle.ja_abstract.specs.Resolved.{Demands, join_values}
use Rattle.ja_abstract.proofs.Least.{properties_grouped, with_nothing}
use Rattle.ja_abstract.proofs.WritesInProgram.{text_keys_are}
use Rattle.ja_astate.specs.code.Chains.{chain_met, some_show, shown_text}
use Rattle.ja_astate.specs.code.Pairs.{demands_over}
use Rattle.ja_astate.specs.code.Walks.{Meeting, met_from}
use Rattle.ja_astate.proofs.Asked.{test_over-filter}

-- ---- what an object may show

-- by what was read of it
pub shown_if : (w : View) (sites : ℕ) (q : AbstractProperty) (l : Label) (k : Key) (present : Bool)
    → present ≡ is_present (labels_below sites) q.value → sites ≡ length w.program.sites
    → q ≡ own w l (k ∷ []) → (present && q.attrs.dont_enum.unset) ≡ may_show w k l
shown_if w sites q l k present present_is sites_are q_is =
    ap (λ (b : Bool). b && q.attrs.dont_enum.unset)
    (present_is ∙ ap (λ (n : ℕ). is_present (labels_below n) q.value) sites_are)
    ∙ ap (may_be_enumerable w) q_is

-- ---- ancestors

module _ (w : View) (start : Labels) (met : Meeting)
    (met_is : met ≡ met_from (chain_met w) (labels_of w.program) start) where
  pub ancestors_are : met.labels ≡ ancestors w start
  ancestors_are = ap (λ (m : Meeting). m.labels) met_is

  pub proper_are : met.property.value.label ≡ proper_ancestors w start
  proper_are =
      ap (λ (m : Meeting). m.property.value.label) met_is
      ∙ (λ i m. test_over-filter (chain_met w) (ancestors w start)
      (λ (n : Meeting). n.property.value.label m) (refl, λ a b. refl) (labels_of w.program) i)

  pub ancestors_demand : met.demands ≡ demands_of_ancestors w start
  ancestors_demand =
      ap (λ (m : Meeting). m.demands) met_is
      ∙ (λ i l k. test_over-filter (chain_met w) (ancestors w start)
      (λ (m : Meeting). m.demands l k) (refl, λ a b. refl) (labels_of w.program) i)

-- ---- a test of some of the labels that are kept

any_kept : (keep f : Labels) (ls : List Label)
    → list_any f (filter keep ls) ≡ list_any (λ (l : Label). keep l && f l) ls
any_kept keep f [] = refl
any_kept keep f (l ∷ ls) =
    elim (keep l) as (λ v. list_any f (cond v (l ∷ filter keep ls) (filter keep ls))
    ≡ ((v && f l) || list_any (λ (m : Label). keep m && f m) ls)) [
      | true ↦ ap (λ (b : Bool). f l || b) (any_kept keep f ls)
      | false ↦ any_kept keep f ls
    ]

module _ (w : View) (start all : Labels) (members : List Label) (all_are : all ≡ ancestors w start)
    (members_are : members ≡ filter all (labels_of w.program)) where
  abbrev labels : List Label
  labels = labels_of w.program

  kept_are : members ≡ filter (ancestors w start) labels
  kept_are = members_are ∙ ap (λ (s : Labels). filter s labels) all_are

  some_kept : (k : Key) → some_show w members k
      ≡ some_label w (λ l. ancestors w start l && may_show w k l)
  some_kept k =
      ap (λ (ls : List Label). list_any (may_show w k) ls) kept_are
      ∙ any_kept (ancestors w start) (may_show w k) labels

  pub names_are : join_values (map (shown_text w members) (text_keys w.program))
      ≡ names_shown w start
  names_are =
      ap (λ (f : Key → AbstractValue). join_values (map f (text_keys w.program)))
      (λ i k. if some_kept k i then key_value w.program k else no_value)

  pub shown_demand : (first after : Demands) → first ≡ demands_of_ancestors w start
      → after ≡ both first (demands_over members (λ l. demands_of_own w l (text_keys w.program)))
      → after ≡ demands_of_shown w start
  shown_demand first after first_is after_is =
      let of_own : Label → Demands = λ l. demands_of_own w l (text_keys w.program) in
      after_is
      ∙ ap (λ (d : Demands). both d (demands_over members of_own)) first_is
      ∙ ap (λ (ls : List Label). both (demands_of_ancestors w start) (demands_over ls of_own))
      kept_are
      ∙ ap (both (demands_of_ancestors w start))
      (λ i m j. any_kept (ancestors w start) (λ (l : Label). of_own l m j) labels i)

-- ---- the keys of all texts are keys

pub text_key_is : (p : Program) (keys : List Key) (i : ℕ) (d : Key) → keys ≡ text_keys p
    → i < length keys → IsTrue (is_key p (get_or keys i d))
text_key_is p keys i d are within =
    all_at (λ (k : Key). IsTrue (is_key p k)) keys i (get_or keys i d)
    (subst (AreKeys p) (sym are) (text_keys_are p)) (slice_get-get_or keys i d within)

-- ---- joins of values

pub values_grouped : (a b c : AbstractValue) → join (join a b) c ≡ join a (join b c)
values_grouped a b c =
    ap (λ (q : AbstractProperty). q.value) (properties_grouped (bare a) (bare b) (bare c))

pub value_alone : (v : AbstractValue) → join v no_value ≡ v
value_alone v = ap (λ (q : AbstractProperty). q.value) (with_nothing (bare v))

module _ {A : Type 0} (f : A → AbstractValue) where
  values-append : (xs ys : List A)
      → join_values (map f (xs ++ ys)) ≡ join (join_values (map f xs)) (join_values (map f ys))
  values-append [] ys = refl
  values-append (x ∷ xs) ys =
      ap (join (f x)) (values-append xs ys)
      ∙ sym (values_grouped (f x) (join_values (map f xs)) (join_values (map f ys)))

  -- one value more is joined
  pub value_more : (xs : List A) (i : ℕ) (d : A) → i < length xs → (sum one after : AbstractValue)
      → sum ≡ join_values (map f (take i xs)) → one ≡ f (get_or xs i d) → after ≡ join sum one
      → after ≡ join_values (map f (take (i + 1) xs))
  value_more xs i d within sum one after sum_is one_is after_is =
      let x = get_or xs i d in
      after_is ∙ ap (λ (v : AbstractValue). join v one) sum_is
      ∙ ap (join (join_values (map f (take i xs)))) (one_is ∙ sym (value_alone (f x)))
      ∙ sym (values-append (take i xs) (x ∷ []))
      ∙ sym (ap (λ (ys : List _). join_values (map f ys)) (take_more xs i d within))
