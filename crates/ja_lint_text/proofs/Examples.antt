-- The words of values without objects, and of those of one site.
use Rattle.std.specs.Prelude.{◌≡◌, ◌<◌, ◌≤◌, ◌+◌, ◌==◌, ℕ, zero, suc, Bool, true, false, ◌||◌, cond, List, [], ◌∷◌, ◌++◌, filter, length, map}
use Rattle.std.specs.List.{range_with_len}
use Rattle.std.proofs.lemmas.Bool.{cases_eq, eq-eqb, ne_eqb}
use Rattle.std.proofs.Common.{inl, inr, refl, sym, ◌∙◌, ap, append-nil, arith}
use Rattle.ja_base.specs.declared.ids.Site.{Site}
use Rattle.ja_graph.specs.declared.program.Program.{Program}
use Rattle.ja_abstract.specs.AbstractState.{new, old, site_of, sites_below}
use Rattle.ja_abstract.specs.AbstractValue.{AbstractValue, Labels, no_labels, no_value}
use Rattle.ja_files.specs.declared.file.File.{File}
use Rattle.ja_report.specs.Texts.{primitive_parts}
use Rattle.ja_lint_text.specs.Values.{alternatives, listed, primitive_words, row_words, site_words, sites_in, value_words}

none_in : (ss : List Site)
    → filter (λ (s : Site). no_labels (new s) || no_labels (old s)) ss ≡ []
none_in [] = refl
none_in (s ∷ ss) = none_in ss

-- a value without objects has the words of its primitive values
pub without_objects : (p : Program) (fs : List File) (ls : List ℕ) (v : AbstractValue)
    → v.label ≡ no_labels
    → value_words p fs ls v ≡ alternatives (primitive_words v ++ row_words v.flags.row)
unfolding value_words
without_objects p fs ls v none =
    ap (λ ss. alternatives (primitive_words v ++ map (site_words p fs ls) ss
    ++ row_words v.flags.row))
    (ap (sites_in p) none ∙ none_in (sites_below (length p.sites)))
    ∙ ap (λ ws. alternatives (ws ++ row_words v.flags.row)) (append-nil (primitive_words v))

-- one word alone
pub alone : (x : List ℕ) → alternatives (x ∷ []) ≡ x
unfolding alternatives listed
alone x = append-nil (x ++ []) ∙ append-nil x

-- ---- the site of one label

-- a test of a site's number holds of that site alone
module _ (f : Bool → Bool) (yes : f true ≡ true) (no : f false ≡ false) (s : Site) where
  abbrev is_it : Site → Bool
  is_it t = f (s.0 == t.0)

  none_from : (a n : ℕ) → s.0 < a → filter is_it (map site_of (range_with_len a n)) ≡ []
  none_from a zero low = refl
  none_from a (suc n) low =
      let rest : List Site = filter is_it (map site_of (range_with_len (a + 1) n)) in
      ap (λ b. cond b (site_of a ∷ rest) rest)
      (ap f (ne_eqb s.0 a (λ e. omega (arith, e))) ∙ no)
      ∙ none_from (a + 1) n (omega arith)

  one_from : (a n : ℕ) → a ≤ s.0 → s.0 < a + n
      → filter is_it (map site_of (range_with_len a n)) ≡ s ∷ []
  one_from a zero low high = absurd (omega arith)
  one_from a (suc n) low high =
      let rest : List Site = filter is_it (map site_of (range_with_len (a + 1) n)) in
      elim (cases_eq s.0 a) [
        | inl e ↦ ap (λ b. cond b (site_of a ∷ rest) rest) (ap f (eq-eqb s.0 a e) ∙ yes)
            ∙ (λ i. record { 0 = sym e i } ∷ none_from (a + 1) n (omega (arith, e)) i)
        | inr ne ↦ ap (λ b. cond b (site_of a ∷ rest) rest) (ap f (ne_eqb s.0 a ne) ∙ no)
            ∙ one_from (a + 1) n (omega arith) (omega arith)
      ]

  pub one_site : (p : Program) → s.0 < length p.sites
      → filter is_it (sites_below (length p.sites)) ≡ s ∷ []
  one_site p within = one_from 0 (length p.sites) (omega arith) (omega (arith, within))

-- a value of one site's objects alone has the words of the site
pub of_one_site : (p : Program) (fs : List File) (ls : List ℕ) (s : Site) (set : Labels)
    → sites_in p set ≡ s ∷ []
    → value_words p fs ls (record no_value { label = set }) ≡ site_words p fs ls s
unfolding value_words primitive_parts
of_one_site p fs ls s set one =
    ap (λ ss. alternatives (map (site_words p fs ls) ss ++ [])) one
    ∙ alone (site_words p fs ls s)
