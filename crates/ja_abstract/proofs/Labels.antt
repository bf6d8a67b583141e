-- Labels among a list of labels, and those of a program.
use Rattle.std.specs.Prelude.{◌≡◌, ◌<◌, ◌≤◌, ◌+◌, ◌==◌, ◌||◌, ℕ, zero, suc, Bool, true, false, length, IsTrue, List, [], ◌∷◌}
use Rattle.std.specs.Bool.{beq}
use Rattle.std.specs.List.{list_any, flat_map, range_with_len}
use Rattle.std.proofs.Common.{refl, sym, subst, arith, inl, inr, ◌≢◌, ◌⊎◌}
use Rattle.std.proofs.lemmas.Bool.{or_left, or_right, or_cases, and_parts, and_from, false≢true, cases_Bool, cases_eq, eqb-true, eq-eqb, and_left, and_right, ne_eqb}
use Rattle.ja_base.specs.declared.ids.Label.{Label}
use Rattle.ja_base.specs.declared.ids.Site.{Site}
use Rattle.ja_graph.specs.declared.program.Program.{Program}
use Rattle.ja_abstract.specs.AbstractValue.{Labels, same_label}
use Rattle.ja_abstract.specs.AbstractState.{new, old, site_of, labels_of}

-- bits that the test calls equal are
beq_true : (a b : Bool) → IsTrue (beq a b) → a ≡ b
beq_true true true e = refl
beq_true true false e = absurd (false≢true e)
beq_true false true e = absurd (false≢true e)
beq_true false false e = refl

-- a bit is equal to itself
beq_self : (a : Bool) → IsTrue (beq a a)
beq_self true = refl
beq_self false = refl

-- labels that the test calls the same are equal
pub same_label-true : (l m : Label) → IsTrue (same_label l m) → l ≡ m
same_label-true l m e =
    let (s, o) = and_parts (l.site.0 == m.site.0) (beq l.old m.old) e in
    let site_is : l.site.0 ≡ m.site.0 = eqb-true l.site.0 m.site.0 s in
    let old_is : l.old ≡ m.old = beq_true l.old m.old o in
    λ i. record { site = record { 0 = site_is i }; old = old_is i }

-- a label is the same as itself
pub same_label-self : (l : Label) → IsTrue (same_label l l)
same_label-self l =
    and_from (l.site.0 == l.site.0) (beq l.old l.old) (eq-eqb l.site.0 l.site.0 refl)
    (beq_self l.old)

-- equal labels are the same to the test
pub same_label_from : (l m : Label) → l ≡ m → IsTrue (same_label l m)
same_label_from l m e = subst (λ k. IsTrue (same_label l k)) e (same_label-self l)

-- a label is one of a list
abbrev pub IsAmong : Label → List Label → Type 0
IsAmong l labels = IsTrue (list_any (same_label l) labels)

-- a test that a label of the list passes is passed by some label of it
pub some_among : (test : Labels) (labels : List Label) (l : Label) → IsAmong l labels
    → IsTrue (test l) → IsTrue (list_any test labels)
some_among test [] l a e = absurd (false≢true a)
some_among test (m ∷ ms) l a e =
    elim (or_cases (same_label l m) (list_any (same_label l) ms) a) [
      | inl s ↦ or_left (test m) (list_any test ms)
          (subst (λ k. IsTrue (test k)) (same_label-true l m s) e)
      | inr r ↦ or_right (test m) (list_any test ms) (some_among test ms l r e)
    ]

-- .. and the other way round
pub among_some : (test : Labels) (labels : List Label) → IsTrue (list_any test labels)
    → (l : Label) × IsAmong l labels × IsTrue (test l)
among_some test [] e = absurd (false≢true e)
among_some test (m ∷ ms) e =
    elim (or_cases (test m) (list_any test ms) e) [
      | inl s ↦ (m, or_left (same_label m m) (list_any (same_label m) ms) (same_label-self m), s)
      | inr r ↦ let (l, a, t) = among_some test ms r in
          (l, or_right (same_label l m) (list_any (same_label l) ms) a, t)
    ]

-- ---- the labels of a program

-- the labels of a site
abbrev pub site_labels : ℕ → List Label
site_labels s = new (site_of s) ∷ old (site_of s) ∷ []

-- a label of a site is among its two
head_among : (s : ℕ) (rest : List Label) (l : Label) → l.site.0 ≡ s
    → IsAmong l (new (site_of s) ∷ old (site_of s) ∷ rest)
head_among s rest l e =
    elim (cases_Bool l.old) [
      | inl o ↦ or_right (same_label l (new (site_of s)))
          (same_label l (old (site_of s)) || list_any (same_label l) rest)
          (or_left (same_label l (old (site_of s))) (list_any (same_label l) rest)
          (and_from (l.site.0 == s) (beq l.old true) (eq-eqb l.site.0 s e)
          (subst (λ b. IsTrue (beq b true)) (sym o) refl)))
      | inr o ↦ or_left (same_label l (new (site_of s)))
          (same_label l (old (site_of s)) || list_any (same_label l) rest)
          (and_from (l.site.0 == s) (beq l.old false) (eq-eqb l.site.0 s e)
          (subst (λ b. IsTrue (beq b false)) (sym o) refl))
    ]

-- .. or behind them
tail_among : (s : ℕ) (rest : List Label) (l : Label) → IsAmong l rest
    → IsAmong l (new (site_of s) ∷ old (site_of s) ∷ rest)
tail_among s rest l a =
    or_right (same_label l (new (site_of s)))
    (same_label l (old (site_of s)) || list_any (same_label l) rest)
    (or_right (same_label l (old (site_of s))) (list_any (same_label l) rest) a)

-- a label whose site is in a range of sites is among their labels
pub among_range : (a n : ℕ) (l : Label) → a ≤ l.site.0 → l.site.0 < a + n
    → IsAmong l (flat_map site_labels (range_with_len a n))
among_range a zero l low high = absurd (omega arith)
among_range a (suc n) l low high =
    elim (cases_eq l.site.0 a) [
      | inl e ↦ head_among a (flat_map site_labels (range_with_len (a + 1) n)) l e
      | inr ne ↦ tail_among a (flat_map site_labels (range_with_len (a + 1) n)) l
          (among_range (a + 1) n l (omega arith) (omega arith))
    ]

-- both labels of each site of a program are labels of the program
pub labels_of-has : (p : Program) (l : Label) → l.site.0 < length p.sites → IsAmong l (labels_of p)
labels_of-has p l h = among_range 0 (length p.sites) l (omega arith) (omega arith)

-- ---- labels

-- labels are equal whose parts are
pub same_parts : (l m : Label) → l.site.0 ≡ m.site.0 → l.old ≡ m.old → l ≡ m
same_parts l m s o = λ i. record { site = record { 0 = s i }; old = o i }

-- a label of a site is the new one or the old one
pub label_parts : (l : Label) (s : Site) → l.site.0 ≡ s.0 → (l ≡ old s) ⊎ (l ≡ new s)
label_parts l s e =
    elim (cases_Bool l.old) [
      | inl o ↦ inl (same_parts l (old s) e o)
      | inr o ↦ inr (same_parts l (new s) e o)
    ]

-- labels of other sites are not the same
pub other_site : (l m : Label) → l.site.0 ≢ m.site.0 → same_label l m ≡ false
other_site l m ne = and_left _ _ (ne_eqb l.site.0 m.site.0 ne)

pub new_not_old : (s t : Site) → same_label (new s) (old t) ≡ false
new_not_old s t = and_right (s.0 == t.0) (beq false true) refl
