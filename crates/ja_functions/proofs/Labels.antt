-- What is joined, asked and demanded over lists of labels, and over the labels of a set.
use Rattle.std.proofs.Common.{◌≡◌, ◌+◌, ◌<◌, ◌++◌, ℕ, Bool, true, false, ◌&&◌, ◌||◌, cond, List, [], ◌∷◌, map, length, take, get_or, refl, sym, ap, ◌∙◌}
use Rattle.std.specs.List.{filter, list_any}
use Rattle.std.proofs.lemmas.List.Folds.{list_any_more}
use Rattle.ja_base.proofs.Lists.{empty_by_length}
use Rattle.ja_base.specs.declared.ids.Label.{Label}
use Rattle.ja_abstract.specs.declared.abstraction.Key.{Key}
use Rattle.ja_abstract.specs.AbstractValue.{Labels, AbstractValue, AbstractProperty, join, no_value}
use Rattle.ja_abstract.specs.AbstractState.{labels_of}
use Rattle.ja_abstract.specs.Reading.{View, own, both, some_label, demands_at}
use Rattle.ja_abstract.specs.Resolved.{Demands, join_values}
use Rattle.ja_abstract.specs.Values.{value_if}
use Rattle.ja_astate.specs.code.Pairs.{demands_over}
use Rattle.ja_transfer.proofs.Filters.{any_filter}
use Rattle.ja_functions.specs.code.Told.{some_own}

-- ---- values that are joined, taken from the end of a list

abbrev pub values_onto : {X : Type 0} → (X → AbstractValue) → AbstractValue → List X
    → AbstractValue
values_onto f sum [] = sum
values_onto f sum (x ∷ xs) = join (f x) (values_onto f sum xs)

values_last : {X : Type 0} (f : X → AbstractValue) (sum : AbstractValue) (xs : List X) (x : X)
    → values_onto f sum (xs ++ x ∷ []) ≡ values_onto f (join (f x) sum) xs
values_last f sum [] x = refl
values_last f sum (y ∷ ys) x = ap (join (f y)) (values_last f sum ys x)

-- the last one is joined in
pub values_more : {X : Type 0} (f : X → AbstractValue) (sum more : AbstractValue)
    (xs rest : List X) (x : X) (whole : AbstractValue) → xs ≡ rest ++ x ∷ []
    → more ≡ join (f x) sum → values_onto f sum xs ≡ whole → values_onto f more rest ≡ whole
values_more f sum more xs rest x whole is joined h =
    ap (λ (v : AbstractValue). values_onto f v rest) joined
    ∙ (sym (values_last f sum rest x) ∙ (sym (ap (values_onto f sum) is) ∙ h))

-- before any is
pub values_begun : {X : Type 0} (f : X → AbstractValue) (sum : AbstractValue) (xs : List X)
    → sum ≡ no_value → values_onto f sum xs ≡ join_values (map f xs)
values_begun f sum [] none = none
values_begun f sum (x ∷ xs) none = ap (join (f x)) (values_begun f sum xs none)

-- none is left
pub values_end : {X : Type 0} (f : X → AbstractValue) (sum : AbstractValue) (xs : List X)
    (whole : AbstractValue) → length xs ≡ 0 → values_onto f sum xs ≡ whole → sum ≡ whole
values_end f sum xs whole none h = sym (ap (values_onto f sum) (empty_by_length xs none)) ∙ h

-- those of what is kept of a list
pub values_kept : (keep : Labels) (f : Label → AbstractValue) (ls : List Label)
    → join_values (map f (filter keep ls))
    ≡ join_values (map (λ (l : Label). value_if (keep l) (f l)) ls)
values_kept keep f [] = refl
values_kept keep f (l ∷ ls) =
    elim (keep l) as (λ v. join_values (map f (cond v (l ∷ filter keep ls) (filter keep ls)))
    ≡ join (value_if v (f l)) (join_values (map (λ (m : Label). value_if (keep m) (f m)) ls))) [
      | true ↦ ap (join (f l)) (values_kept keep f ls)
      | false ↦ values_kept keep f ls
    ]

-- ---- one label more

pub any_more : (test : Label → Bool) (ls : List Label) (i : ℕ) (d : Label) → i < length ls
    → (before one : Bool) → before ≡ list_any test (take i ls) → one ≡ test (get_or ls i d)
    → (before || one) ≡ list_any test (take (i + 1) ls)
any_more test ls i d within before one before_is one_is =
    ap (λ (b : Bool). b || one) before_is
    ∙ ap (λ (b : Bool). list_any test (take i ls) || b) one_is
    ∙ sym (list_any_more test ls i d within)

pub demands_more : (each : Label → Demands) (ls : List Label) (i : ℕ) (d : Label) → i < length ls
    → (now after : Demands) → now ≡ demands_over (take i ls) each
    → after ≡ both now (each (get_or ls i d)) → after ≡ demands_over (take (i + 1) ls) each
demands_more each ls i d within now after now_is after_is =
    after_is ∙ ap (λ (e : Demands). both e (each (get_or ls i d))) now_is
    ∙ (λ n m j. sym (list_any_more (λ (l : Label). each l m j) ls i d within) n)

-- ---- the labels of a set

module _ (w : View) (set : Labels) (ls : List Label)
    (are : ls ≡ filter set (labels_of w.program)) where
  pub values_at : (f : Label → AbstractValue) → join_values (map f ls)
      ≡ join_values (map (λ (l : Label). value_if (set l) (f l)) (labels_of w.program))
  values_at f =
      ap (λ (xs : List Label). join_values (map f xs)) are
      ∙ values_kept set f (labels_of w.program)

  pub any_at : (test : Labels) → list_any test ls ≡ some_label w (λ l. set l && test l)
  any_at test =
      ap (λ (xs : List Label). list_any test xs) are ∙ any_filter set test (labels_of w.program)

  pub own_at : (holds : AbstractProperty → Bool) (keys : List Key)
      → some_own w holds keys ls ≡ some_label w (λ l. set l && holds (own w l keys))
  own_at holds keys = any_at (λ l. holds (own w l keys))

  pub demands_are : (each : Label → Demands) → demands_over ls each ≡ demands_at w set each
  demands_are each =
      ap (λ (xs : List Label). demands_over xs each) are
      ∙ (λ n m j. any_filter set (λ (l : Label). each l m j) (labels_of w.program) n)
