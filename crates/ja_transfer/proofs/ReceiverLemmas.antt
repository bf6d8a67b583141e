-- The receivers of a call: the global object, if it is one, and then those among labels.
use Rattle.std.proofs.Common.{arith, ◌≡◌, ◌+◌, ◌<◌, ℕ, zero, suc, Bool, true, false, not, ◌&&◌, ◌||◌, if◌then◌else◌, List, [], ◌∷◌, ◌++◌, length, refl, sym, ap, ◌∙◌}
use Rattle.std.specs.Bool.{beq}
use Rattle.std.specs.List.{AllByRecursion, filter, flat_map, range_with_len}
use Rattle.std.proofs.Math.Bool.{and-false, or-true}
use Rattle.std.proofs.lemmas.Bool.{cond-true, cond-false, ne_eqb}
use Rattle.std.proofs.lemmas.List.Elements.{filter_agree}
use Rattle.ja_base.specs.declared.ids.Label.{Label}
use Rattle.ja_graph.specs.declared.program.Program.{Program}
use Rattle.ja_graph.specs.Program.{global}
use Rattle.ja_abstract.specs.AbstractValue.{Labels, same_label}
use Rattle.ja_abstract.specs.AbstractState.{new, old, site_of, labels_below, labels_of}
use Rattle.ja_rows.specs.Edges.{is_activation_label}
use Rattle.ja_transfer.specs.code.Receivers.{is_more}
use Rattle.ja_transfer.proofs.Filters.{filter_twice, filter_agree_on}

-- ---- labels behind that of the global object

-- labels of sites from a number on
other_site : (a : ℕ) → 0 < a → (o : Bool)
    → same_label (new global) (record { site = site_of a; old = o }) ≡ false
other_site a some o = ap (λ b. b && beq false o) (ne_eqb 0 a (λ e. omega (arith, e)))

others_from : (a n : ℕ) → 0 < a → AllByRecursion (λ l. same_label (new global) l ≡ false)
    (flat_map (λ s. new (site_of s) ∷ old (site_of s) ∷ []) (range_with_len a n))
others_from a zero some = tt
others_from a (suc n) some =
    (other_site a some false, (other_site a some true, others_from (a + 1) n (omega arith)))

-- ---- receivers

module _ (p : Program) (keep : Labels) where
  abbrev is_receiver : Bool → Labels
  is_receiver g l =
      (keep l && not (is_activation_label p l)) || (g && same_label (new global) l)

  unlisted : (a b : Bool) → (a && (b && true)) ≡ ((a && b) || false)
  unlisted false b = refl
  unlisted true false = refl
  unlisted true true = refl

  -- the global object isn't a receiver on its own
  none_listed : (xs : List Label) → filter (is_more p false) (filter keep xs)
      ≡ filter (is_receiver false) xs
  none_listed xs =
      filter_twice keep (is_more p false) xs
      ∙ filter_agree (λ l. keep l && is_more p false l) (is_receiver false)
      (λ l. unlisted (keep l) (not (is_activation_label p l))) xs

  behind : (a b s : Bool) → s ≡ false → (a && (b && not s)) ≡ ((a && b) || s)
  behind a b s other = ap (λ t. a && (b && not t)) other ∙ unlisted a b
      ∙ ap (λ t. (a && b) || t) (sym other)

  each : (rest : List Label) → AllByRecursion (λ l. same_label (new global) l ≡ false) rest
      → AllByRecursion (λ l. (keep l && is_more p true l) ≡ is_receiver true l) rest
  each [] others = tt
  each (l ∷ rest) others = (
    behind (keep l) (not (is_activation_label p l)) (same_label (new global) l) others.0,
    each rest others.1,
  )

  -- it is one, and stands first
  one_listed : (rest : List Label) → AllByRecursion (λ l. same_label (new global) l ≡ false) rest
      → new global ∷ filter (is_more p true) (filter keep (new global ∷ rest))
      ≡ filter (is_receiver true) (new global ∷ rest)
  one_listed rest others =
      let q : Labels = λ l. keep l && is_more p true l in
      let never : q (new global) ≡ false =
      ap (λ b. keep (new global) && b) (and-false (not (is_activation_label p (new global))))
      ∙ and-false (keep (new global)) in
      ap (λ ls. new global ∷ ls) (filter_twice keep (is_more p true) (new global ∷ rest)
      ∙ cond-false (q (new global)) (new global ∷ filter q rest) (filter q rest) never
      ∙ filter_agree_on q (is_receiver true) rest (each rest others))
      ∙ sym (cond-true (is_receiver true (new global))
      (new global ∷ filter (is_receiver true) rest) (filter (is_receiver true) rest)
      (or-true (keep (new global) && not (is_activation_label p (new global)))))

  of_labels : (n : ℕ) → 0 < n
      → (new global ∷ []) ++ filter (is_more p true) (filter keep (labels_below n))
      ≡ filter (is_receiver true) (labels_below n)
  of_labels zero some = absurd (omega arith)
  of_labels (suc n) some =
      one_listed (old global ∷ flat_map (λ s. new (site_of s) ∷ old (site_of s) ∷ [])
      (range_with_len (0 + 1) n)) (refl, others_from (0 + 1) n (omega arith))

  pub receivers_are : (g : Bool) → 0 < length p.sites
      → (if g then new global ∷ [] else []) ++ filter (is_more p g) (filter keep (labels_of p))
      ≡ filter (is_receiver g) (labels_of p)
  receivers_are false some = none_listed (labels_of p)
  receivers_are true some = of_labels (length p.sites) some
