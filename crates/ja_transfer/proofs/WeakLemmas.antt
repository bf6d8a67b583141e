-- Writes at all objects of labels, one label after another: what they come to at all of them.
use Rattle.std.proofs.Common.{◌≡◌, ◌+◌, ◌<◌, ℕ, Bool, true, false, ◌&&◌, ◌||◌, if◌then◌else◌, List, [], ◌∷◌, length, take, get_or, refl, sym, subst, ap, ◌∙◌}
use Rattle.std.specs.Prelude.{IsTrue}
use Rattle.std.specs.Cmp.{both_ways}
use Rattle.std.specs.List.{filter, list_any}
use Rattle.std.proofs.lemmas.Bool.{and_parts, and_from, ltb-true}
use Rattle.std.proofs.lemmas.List.Folds.{list_any_more}
use Rattle.ja_base.specs.declared.ids.Label.{Label}
use Rattle.ja_graph.specs.declared.program.Program.{Program}
use Rattle.ja_abstract.specs.declared.abstraction.Key.{Key}
use Rattle.ja_abstract.specs.AbstractValue.{Labels, AbstractProperty, same_label, join_properties, no_property}
use Rattle.ja_abstract.specs.AbstractState.{AbstractState, labels_of, is_label, same_key}
use Rattle.ja_abstract.specs.Resolved.{Demands}
use Rattle.ja_abstract.specs.Reading.{View, demands_at}
use Rattle.ja_abstract.specs.Writes.{Write, joined_at, weak_update}
use Rattle.ja_abstract.proofs.Labels.{same_label-true, same_label-self, some_among, among_some, labels_of-has}
use Rattle.ja_abstract.proofs.Least.{properties_grouped, property_twice, with_nothing}
use Rattle.ja_astate.proofs.Walking.{is_among, among-filter}
use Rattle.ja_transfer.specs.code.Members.{weakly_over, demands_over}
use Rattle.ja_transfer.proofs.Filters.{filter_twice, any_filter}

-- ---- writes that join twice

-- a property after some writes is its join with what they give where nothing was
joined_apart : (xs : List Write) (q : AbstractProperty) (k : Key)
    → joined_at xs q k ≡ join_properties q (joined_at xs no_property k)
joined_apart [] q k = sym (with_nothing q)
joined_apart (x ∷ xs) q k =
    let rest = joined_at xs no_property k in
    elim (same_key x.key k) as (λ b.
    (if b then join_properties (joined_at xs q k) x.property else joined_at xs q k)
    ≡ join_properties q (if b then join_properties rest x.property else rest)) [
      | true ↦ ap (λ p. join_properties p x.property) (joined_apart xs q k)
          ∙ properties_grouped q rest x.property
      | false ↦ joined_apart xs q k
    ]

joined_twice : (xs : List Write) (q : AbstractProperty) (k : Key)
    → joined_at xs (joined_at xs q k) k ≡ joined_at xs q k
joined_twice xs q k =
    let rest = joined_at xs no_property k in
    joined_apart xs (joined_at xs q k) k ∙ ap (λ p. join_properties p rest) (joined_apart xs q k)
    ∙ properties_grouped q rest rest ∙ ap (join_properties q) (property_twice rest)
    ∙ sym (joined_apart xs q k)

-- ---- one label after another

none_at : (b : Bool) (x y : AbstractProperty) → (if b && false then x else y) ≡ y
none_at true x y = refl
none_at false x y = refl

-- none is written yet
pub weak_none : (p : Program) (a : AbstractState) (writes : Label → List Write)
    → weakly_over p a [] writes ≡ a
weak_none p a writes = λ n. record {
  register = a.register;
  property = λ m j. none_at (is_label p m) (joined_at (writes m) (a.property m j) j)
      (a.property m j) n;
  mask = a.mask;
}

-- at a label that was written before or not, and is the same as one more or not
once_more : (b before same : Bool) (writes one : List Write) (q : AbstractProperty) (j : Key)
    → (same ≡ true → one ≡ writes)
    → (if b && same then joined_at one (if b && before then joined_at writes q j else q) j
    else (if b && before then joined_at writes q j else q))
    ≡ (if b && (before || same) then joined_at writes q j else q)
once_more false before same writes one q j is = refl
once_more true true true writes one q j is =
    ap (λ ws. joined_at ws (joined_at writes q j) j) (is refl) ∙ joined_twice writes q j
once_more true false true writes one q j is = ap (λ ws. joined_at ws q j) (is refl)
once_more true true false writes one q j is = refl
once_more true false false writes one q j is = refl

pub weak_more : (p : Program) (a now after : AbstractState) (writes : Label → List Write)
    (ls : List Label) (i : ℕ) (d : Label) (one : List Write) → i < length ls
    → now ≡ weakly_over p a (take i ls) writes → one ≡ writes (get_or ls i d)
    → after ≡ weak_update p now (same_label (get_or ls i d)) (λ m. one)
    → after ≡ weakly_over p a (take (i + 1) ls) writes
weak_more p a now after writes ls i d one within now_is one_is after_is =
    let l = get_or ls i d in
    let before : Labels = λ m. list_any (λ (x : Label). same_label x m) (take i ls) in
    let at_each : (m : Label) (j : Key)
    → (if is_label p m && same_label l m
    then joined_at one (if is_label p m && before m then joined_at (writes m) (a.property m j) j
    else a.property m j) j
    else (if is_label p m && before m then joined_at (writes m) (a.property m j) j
    else a.property m j))
    ≡ (if is_label p m && list_any (λ (x : Label). same_label x m) (take (i + 1) ls)
    then joined_at (writes m) (a.property m j) j else a.property m j) =
    λ m j. once_more (is_label p m) (before m) (same_label l m) (writes m) one (a.property m j) j
    (λ same. one_is ∙ ap writes (same_label-true l m same))
    ∙ ap (λ b. if is_label p m && b then joined_at (writes m) (a.property m j) j
    else a.property m j) (sym (list_any_more (λ (x : Label). same_label x m) ls i d within)) in
    after_is ∙ ap (λ (s : AbstractState). weak_update p s (same_label l) (λ m. one)) now_is
    ∙ (λ n. record { register = a.register; property = λ m j. at_each m j n; mask = a.mask })

-- ---- the labels of a program in a set

and_agree : (b c d : Bool) → (b ≡ true → c ≡ d) → (b && c) ≡ (b && d)
and_agree false c d same = refl
and_agree true c d same = same refl

pub members_are : (p : Program) (target : Labels) (m : Label) → IsTrue (is_label p m)
    → list_any (λ (l : Label). same_label l m) (filter target (labels_of p)) ≡ target m
members_are p target m here =
    let ls = filter target (labels_of p) in
    both_ways (list_any (λ (l : Label). same_label l m) ls) (target m)
    (λ e. let (l, a, s) = among_some (λ (x : Label). same_label x m) ls e in
    subst (λ x. IsTrue (target x)) (same_label-true l m s)
    (and_parts (target l) (is_among l (labels_of p))
    (sym (among-filter target (labels_of p) l) ∙ a)).0)
    (λ t. some_among (λ (l : Label). same_label l m) ls m
    (among-filter target (labels_of p) m ∙ and_from (target m) (is_among m (labels_of p)) t
    (labels_of-has p m (ltb-true _ _ here))) (same_label-self m))

pub weak_at_set : (p : Program) (a : AbstractState) (target : Labels)
    (writes : Label → List Write) (ls : List Label) → ls ≡ filter target (labels_of p)
    → weakly_over p a ls writes ≡ weak_update p a target writes
weak_at_set p a target writes ls are =
    let at_each : (m : Label) (j : Key)
    → (if is_label p m && list_any (λ (l : Label). same_label l m) (filter target (labels_of p))
    then joined_at (writes m) (a.property m j) j else a.property m j)
    ≡ (if is_label p m && target m then joined_at (writes m) (a.property m j) j
    else a.property m j) =
    λ m j. ap (λ b. if b then joined_at (writes m) (a.property m j) j else a.property m j)
    (and_agree (is_label p m) _ (target m) (members_are p target m)) in
    ap (λ (xs : List Label). weakly_over p a xs writes) are
    ∙ (λ n. record { register = a.register; property = λ m j. at_each m j n; mask = a.mask })

-- .. where only some of them are written
only_kept : (b t k : Bool) (writes : List Write) (q : AbstractProperty) (j : Key)
    → (if b && (t && k) then joined_at writes q j else q)
    ≡ (if b && t then joined_at (if k then writes else []) q j else q)
only_kept false t k writes q j = refl
only_kept true false k writes q j = refl
only_kept true true true writes q j = refl
only_kept true true false writes q j = refl

pub weak_where : (p : Program) (a : AbstractState) (target keep : Labels) (writes : List Write)
    (ls kept : List Label) → ls ≡ filter target (labels_of p) → kept ≡ filter keep ls
    → weakly_over p a kept (λ l. writes)
    ≡ weak_update p a target (λ l. if keep l then writes else [])
weak_where p a target keep writes ls kept are kept_are =
    let both : Labels = λ l. target l && keep l in
    weak_at_set p a both (λ l. writes) kept
    (kept_are ∙ ap (filter keep) are ∙ filter_twice target keep (labels_of p))
    ∙ (λ n. record {
      register = a.register;
      property = λ m j. only_kept (is_label p m) (target m) (keep m) writes (a.property m j) j n;
      mask = a.mask;
    })

-- ---- demands

pub demands_at_set : (w : View) (target : Labels) (d : Label → Demands) (ls : List Label)
    → ls ≡ filter target (labels_of w.program) → demands_over ls d ≡ demands_at w target d
demands_at_set w target d ls are =
    ap (λ (xs : List Label). demands_over xs d) are
    ∙ (λ n m j. any_filter target (λ (l : Label). d l m j) (labels_of w.program) n)
