-- The sites of labels, each once.
use Rattle.std.specs.Prelude.{◌≡◌, ◌<◌, ◌≤◌, ◌+◌, ℕ, Bool, true, false, not, cond, ◌||◌, List, [], ◌∷◌, ◌++◌, filter, get_or, length, map, take}
use Rattle.std.specs.List.{flat_map, range_with_len}
use Rattle.std.proofs.Common.{refl, sym, ◌∙◌, ap, append-nil}
use Rattle.std.proofs.lemmas.List.{map-append, take_all, take_more}
use Rattle.std.proofs.lemmas.List.Elements.{filter-append}
use Rattle.ja_base.specs.declared.ids.Label.{Label}
use Rattle.ja_base.specs.declared.ids.Site.{Site}
use Rattle.ja_abstract.specs.AbstractValue.{Labels}
use Rattle.ja_abstract.specs.AbstractState.{labels_below, new, old, site_of, sites_below}
use Rattle.ja_lint_text.specs.code.Sites.{is_first, site_of_label}

-- ---- all of them

module _ (set : Labels) where
  -- the sites of the first labels of some
  abbrev pub firsts : List Label → List Site
  firsts ls = map site_of_label (filter (is_first set) ls)

  abbrev has_site : Site → Bool
  has_site s = set (new s) || set (old s)

  one_more : (s : ℕ) (rest : List Label) (sites : List Site) → firsts rest ≡ sites → (a b : Bool)
      → set (new (site_of s)) ≡ a
      → firsts (cond a (new (site_of s) ∷ cond b (old (site_of s) ∷ rest) rest)
      (cond b (old (site_of s) ∷ rest) rest))
      ≡ cond (a || b) (site_of s ∷ sites) sites
  one_more s rest sites are true true here =
      ap (λ c. site_of s ∷ map site_of_label (cond (not c) (old (site_of s)
      ∷ filter (is_first set) rest) (filter (is_first set) rest))) here
      ∙ ap (λ l. site_of s ∷ l) are
  one_more s rest sites are true false here = ap (λ l. site_of s ∷ l) are
  one_more s rest sites are false true here =
      ap (λ c. map site_of_label (cond (not c) (old (site_of s) ∷ filter (is_first set) rest)
      (filter (is_first set) rest))) here
      ∙ ap (λ l. site_of s ∷ l) are
  one_more s rest sites are false false here = are

  firsts_of : (ks : List ℕ)
      → firsts (filter set (flat_map (λ s. new (site_of s) ∷ old (site_of s) ∷ []) ks))
      ≡ filter has_site (map site_of ks)
  firsts_of [] = refl
  firsts_of (s ∷ ks) =
      one_more s (filter set (flat_map (λ s. new (site_of s) ∷ old (site_of s) ∷ []) ks))
      (filter has_site (map site_of ks)) (firsts_of ks) (set (new (site_of s)))
      (set (old (site_of s))) refl

  -- the first labels of those that are in the set
  pub firsts_are : (n : ℕ) → firsts (filter set (labels_below n)) ≡ filter has_site (sites_below n)
  firsts_are n = firsts_of (range_with_len 0 n)

  -- ---- one by one

  last_of : (b : Bool) (l : Label)
      → map site_of_label (cond b (l ∷ []) []) ≡ cond b (l.site ∷ []) []
  last_of true l = refl
  last_of false l = refl

  next_is : (ls : List Label) (i : ℕ) (l : Label) → i < length ls → l ≡ get_or ls i l
      → firsts (take (i + 1) ls) ≡ firsts (take i ls) ++ cond (is_first set l) (l.site ∷ []) []
  next_is ls i l within is =
      ap firsts (take_more ls i l within ∙ ap (λ (m : Label). take i ls ++ m ∷ []) (sym is))
      ∙ ap (map site_of_label) (filter-append (is_first set) (take i ls) (l ∷ []))
      ∙ map-append site_of_label (filter (is_first set) (take i ls))
      (filter (is_first set) (l ∷ []))
      ∙ ap (λ (l : List Site). firsts (take i ls) ++ l) (last_of (is_first set l) l)

  pub first_more : (ls : List Label) (i : ℕ) (l : Label) (before after : List Site)
      → i < length ls → l ≡ get_or ls i l → is_first set l ≡ true → before ≡ firsts (take i ls)
      → after ≡ before ++ l.site ∷ [] → after ≡ firsts (take (i + 1) ls)
  first_more ls i l before after within is first so_far put =
      put ∙ ap (λ (ss : List Site). ss ++ l.site ∷ []) so_far
      ∙ ap (λ b. firsts (take i ls) ++ cond b (l.site ∷ []) []) (sym first)
      ∙ sym (next_is ls i l within is)

  pub other_more : (ls : List Label) (i : ℕ) (l : Label) (before : List Site)
      → i < length ls → l ≡ get_or ls i l → is_first set l ≡ false → before ≡ firsts (take i ls)
      → before ≡ firsts (take (i + 1) ls)
  other_more ls i l before within is other so_far =
      so_far ∙ sym (append-nil (firsts (take i ls)))
      ∙ ap (λ b. firsts (take i ls) ++ cond b (l.site ∷ []) []) (sym other)
      ∙ sym (next_is ls i l within is)

  pub sites_all : (n : ℕ) (ls : List Label) (i : ℕ) (sites : List Site)
      → sites ≡ firsts (take i ls) → length ls ≤ i → ls ≡ filter set (labels_below n)
      → sites ≡ filter has_site (sites_below n)
  sites_all n ls i sites so_far past are =
      so_far ∙ ap firsts (take_all i ls past ∙ are) ∙ firsts_are n
