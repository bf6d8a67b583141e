-- What the labels of a program in a set come to: functions among them, definitions at them, and the
-- one new label of a site.
use Rattle.std.proofs.Common.{arith, ◌≡◌, ◌==◌, ◌+◌, ◌<◌, ◌≤◌, ℕ, zero, suc, Bool, true, false, not, ◌&&◌, ◌||◌, cond, List, [], ◌∷◌, length, take, get_or, Option, Some, None, inl, inr, refl, sym, subst, ap, ◌∙◌}
use Rattle.std.specs.Prelude.{IsTrue, slice_get}
use Rattle.std.specs.Cmp.{both_ways}
use Rattle.std.specs.List.{filter, list_any, flat_map, range_with_len}
use Rattle.std.specs.Option.{option_map_or}
use Rattle.std.proofs.Math.Bool.{and-false}
use Rattle.std.proofs.lemmas.Bool.{and_parts, and_from, false≢true, eq-eqb, ne_eqb, cases_eq}
use Rattle.std.proofs.lemmas.List.Folds.{list_any_more}
use Rattle.std.proofs.lemmas.Option.{slice_get_within}
use Rattle.ja_base.specs.declared.ids.Label.{Label}
use Rattle.ja_base.specs.declared.ids.Site.{Site}
use Rattle.ja_graph.specs.declared.program.Class.TheVariants as class
use Rattle.ja_graph.specs.declared.program.Program.{Program}
use Rattle.ja_graph.specs.declared.program.SiteInfo.{SiteInfo}
use Rattle.ja_abstract.specs.declared.abstraction.Key.{Key}
use Rattle.ja_abstract.specs.AbstractValue.{Labels, AbstractProperty, same_label}
use Rattle.ja_abstract.specs.AbstractState.{AbstractState, new, site_of, labels_of}
use Rattle.ja_abstract.specs.Reading.{View}
use Rattle.ja_abstract.specs.Values.{is_function_class, is_function_label}
use Rattle.ja_abstract.specs.Writes.{Write, sets_at, strong_update, new_alone, defined}
use Rattle.ja_abstract.proofs.Labels.{site_labels, same_label-true, same_label-self, some_among, among_some, labels_of-has}
use Rattle.ja_astate.proofs.Walking.{is_among, among-filter}
use Rattle.ja_transfer.specs.code.Declares.{defined_over}
use Rattle.ja_transfer.proofs.WeakLemmas.{weak_at_set}
use Rattle.ja_nodes.specs.code.Instances.{functions_among}
use Rattle.ja_transfer.proofs.DeclareLemmas.{some_kept}

-- ---- functions among the labels of a set

-- a label more
pub functions_more : (p : Program) (ls : List Label) (i : ℕ) (d : Label) (now after : Labels)
    → i < length ls → now ≡ functions_among p (take i ls)
    → after ≡ (λ l. now l || (is_function_label p (get_or ls i d) && same_label (get_or ls i d) l))
    → after ≡ functions_among p (take (i + 1) ls)
functions_more p ls i d now after within now_is after_is =
    let m = get_or ls i d in
    after_is
    ∙ ap {B = Labels} (λ (x : Labels) (l : Label).
    x l || (is_function_label p m && same_label m l)) now_is
    ∙ (λ n l. sym (list_any_more (λ (x : Label). is_function_label p x && same_label x l) ls i d
    within) n)

-- a function's label is one of the program
function_within : (p : Program) (l : Label) → IsTrue (is_function_label p l)
    → l.site.0 < length p.sites
function_within p l e = by (slice_get p.sites l.site.0) refl e
  where
    by : (o : Option SiteInfo) → slice_get p.sites l.site.0 ≡ o
        → IsTrue (is_function_class (option_map_or (λ (i : SiteInfo). i.class) o class.Object))
        → l.site.0 < length p.sites
    by None at function = absurd (false≢true function)
    by (Some info) at function = slice_get_within p.sites l.site.0 info at

pub functions_are : (p : Program) (set : Labels) (ls : List Label)
    → ls ≡ filter set (labels_of p)
    → functions_among p ls ≡ (λ l. set l && is_function_label p l)
functions_are p set ls are =
    ap (functions_among p) are ∙ (λ n l. each l n)
  where
    each : (l : Label) → functions_among p (filter set (labels_of p)) l
        ≡ (set l && is_function_label p l)
    each l =
        let all = filter set (labels_of p) in
        let test : Labels = λ m. is_function_label p m && same_label m l in
        both_ways (list_any test all) (set l && is_function_label p l)
        (λ e. let (m, a, t) = among_some test all e in
        let (function, same) = and_parts (is_function_label p m) (same_label m l) t in
        let here = (and_parts (set m) (is_among m (labels_of p))
        (sym (among-filter set (labels_of p) m) ∙ a)).0 in
        subst (λ x. IsTrue (set x && is_function_label p x)) (same_label-true m l same)
        (and_from (set m) (is_function_label p m) here function))
        (λ e. let (here, function) = and_parts (set l) (is_function_label p l) e in
        some_among test all l
        (among-filter set (labels_of p) l ∙ and_from (set l) (is_among l (labels_of p)) here
        (labels_of-has p l (function_within p l function)))
        (and_from (is_function_label p l) (same_label l l) function (same_label-self l)))

-- a label with two marks has the second
pub some_both : (a f : Labels) (xs : List Label)
    → (list_any f xs && list_any (λ l. a l && f l) xs) ≡ list_any (λ l. a l && f l) xs
some_both a f [] = refl
some_both a f (x ∷ xs) =
    let both = list_any (λ l. a l && f l) xs in
    elim (f x) as (λ b. ((b || list_any f xs) && ((a x && b) || both)) ≡ ((a x && b) || both)) [
      | true ↦ refl
      | false ↦ ap (λ c. list_any f xs && (c || both)) (and-false (a x)) ∙ some_both a f xs
          ∙ ap (λ c. c || both) (sym (and-false (a x)))
    ]

-- ---- the new label of a site

none_from : (s : Site) (a n : ℕ) → s.0 < a
    → filter (same_label (new s)) (flat_map site_labels (range_with_len a n)) ≡ []
none_from s a zero low = refl
none_from s a (suc n) low =
    let rest : List Label = filter (same_label (new s))
    (flat_map site_labels (range_with_len (a + 1) n)) in
    ap (λ (b : Bool). cond (b && true) (new (site_of a) ∷ cond (b && false)
    (record { site = site_of a; old = true } ∷ rest) rest) (cond (b && false)
    (record { site = site_of a; old = true } ∷ rest) rest)) (ne_eqb s.0 a (λ e. omega (arith, e)))
    ∙ none_from s (a + 1) n (omega arith)

one_from : (s : Site) (a n : ℕ) → a ≤ s.0 → s.0 < a + n
    → filter (same_label (new s)) (flat_map site_labels (range_with_len a n)) ≡ new s ∷ []
one_from s a zero low high = absurd (omega arith)
one_from s a (suc n) low high =
    let rest : List Label = filter (same_label (new s))
    (flat_map site_labels (range_with_len (a + 1) n)) in
    let at_site : (b : Bool) → (s.0 == a) ≡ b
    → filter (same_label (new s)) (flat_map site_labels (range_with_len a (suc n)))
    ≡ cond (b && true) (new (site_of a) ∷ cond (b && false)
    (record { site = site_of a; old = true } ∷ rest) rest) (cond (b && false)
    (record { site = site_of a; old = true } ∷ rest) rest) =
    λ b e. ap (λ (b : Bool). cond (b && true) (new (site_of a) ∷ cond (b && false)
    (record { site = site_of a; old = true } ∷ rest) rest) (cond (b && false)
    (record { site = site_of a; old = true } ∷ rest) rest)) e in
    elim (cases_eq s.0 a) [
      | inl e ↦ at_site true (eq-eqb s.0 a e)
          ∙ (λ i. new (record { 0 = sym e i }) ∷ none_from s (a + 1) n (omega (arith, e)) i)
      | inr ne ↦ at_site false (ne_eqb s.0 a ne)
          ∙ one_from s (a + 1) n (omega arith) (omega arith)
    ]

-- a set of one new label has it alone
pub new_of_site : (p : Program) (s : Site) → s.0 < length p.sites
    → filter (same_label (new s)) (labels_of p) ≡ new s ∷ []
new_of_site p s within = one_from s 0 (length p.sites) (omega arith) (omega (arith, within))

-- ---- definitions

module _ (w : View) (target : Labels) (ls : List Label)
    (are : ls ≡ filter target (labels_of w.program)) where
  pub some_members : not (length ls == 0) ≡ list_any target (labels_of w.program)
  some_members =
      ap (λ (xs : List Label). not (length xs == 0)) are ∙ some_kept target (labels_of w.program)

  pub defined_is : (k : Key) (q : AbstractProperty) → defined_over w ls k q ≡ defined w target k q
  defined_is k q =
      let writes : List Write = sets_at k q ∷ [] in
      let strong : Label → AbstractState = λ l. strong_update w.state l writes in
      (λ n. option_map_or strong (new_alone (are n))
      (weak_at_set w.program w.state target (λ l. writes) ls are n))
