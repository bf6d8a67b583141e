-- The least set of labels that is closed under a step: as many rounds as there are labels reach it.
use Rattle.std.specs.Prelude.{◌≡◌, ◌⊎◌, ◌<◌, ◌≤◌, ◌+◌, ◌&&◌, ℕ, zero, suc, Bool, true, false, length, IsTrue, List, [], ◌∷◌}
use Rattle.std.specs.List.{list_any}
use Rattle.std.proofs.Common.{refl, sym, subst, arith, inl, inr}
use Rattle.std.proofs.lemmas.Bool.{or_left, or_right, or_cases, and_parts, and_from, false≢true, cases_Bool, both_ways}
use Rattle.ja_base.specs.declared.ids.Label.{Label}
use Rattle.ja_abstract.specs.AbstractValue.{Labels, same_label}
use Rattle.ja_abstract.specs.Resolved.{one_more, rounds, reached}
use Rattle.ja_abstract.proofs.Labels.{IsAmong, same_label-true, some_among, among_some}

-- ---- how many of a list are in a set

-- one for each that is in
abbrev pub bit : Bool → ℕ
bit true = 1
bit false = 0

-- how many of the list are in the set
abbrev pub among : Labels → List Label → ℕ
among set [] = 0
among set (l ∷ ls) = bit (set l) + among set ls

-- a bit is at most one
bit-le : (b : Bool) → bit b ≤ 1
bit-le true = omega arith
bit-le false = omega arith

-- a test that follows from another counts no less
bit_more : (a b : Bool) → (IsTrue a → IsTrue b) → bit a ≤ bit b
bit_more true b f = subst (λ c. 1 ≤ bit c) (sym (f refl)) (omega arith)
bit_more false b f = omega arith

-- what is in counts one
bit_true : (b : Bool) → b ≡ true → bit b ≡ 1
bit_true b e = subst (λ c. bit c ≡ 1) (sym e) refl

-- what is not in counts none
bit_false : (b : Bool) → b ≡ false → bit b ≡ 0
bit_false b e = subst (λ c. bit c ≡ 0) (sym e) refl

-- at most as many are in the set as there are
pub among-le : (set : Labels) (ls : List Label) → among set ls ≤ length ls
among-le set [] = omega arith
among-le set (l ∷ ls) = omega (arith, bit-le (set l), among-le set ls)

-- where as many are in the set as there are, each one is
among_all : (set : Labels) (ls : List Label) → among set ls ≡ length ls → (l : Label) → IsAmong l ls
    → IsTrue (set l)
among_all set [] e l a = absurd (false≢true a)
among_all set (m ∷ ms) e l a =
    elim (or_cases (same_label l m) (list_any (same_label l) ms) a) [
      | inl s ↦ subst (λ k. IsTrue (set k)) (sym (same_label-true l m s))
          (elim (cases_Bool (set m)) [
            | inl t ↦ t
            | inr f ↦ absurd (omega (arith, bit_false (set m) f, among-le set ms))
          ])
      | inr r ↦ among_all set ms (omega (arith, bit-le (set m), among-le set ms)) l r
    ]

-- of a greater set no fewer are in the list
among_more-le : (s t : Labels) → ((l : Label) → IsTrue (s l) → IsTrue (t l)) → (ls : List Label)
    → among s ls ≤ among t ls
among_more-le s t f [] = omega arith
among_more-le s t f (l ∷ ls) = omega (arith, bit_more (s l) (t l) (f l), among_more-le s t f ls)

-- what of the list is in the first set is in the second
abbrev pub IsIn : Labels → Labels → List Label → Type 0
IsIn t s ls = (l : Label) → IsAmong l ls → IsTrue (t l) → IsTrue (s l)

-- one label more on what is in the set as the rest is
in_more : (s t : Labels) (m : Label) (ms : List Label) → (IsTrue (t m) → IsTrue (s m)) → IsIn t s ms
    → IsIn t s (m ∷ ms)
in_more s t m ms f g l a e =
    elim (or_cases (same_label l m) (list_any (same_label l) ms) a) [
      | inl x ↦ subst (λ k. IsTrue (s k)) (sym (same_label-true l m x))
          (f (subst (λ k. IsTrue (t k)) (same_label-true l m x) e))
      | inr r ↦ g l r e
    ]

-- a greater set has more of the list, or no other ones
pub grows_or_stays : (s t : Labels) → ((l : Label) → IsTrue (s l) → IsTrue (t l)) → (ls : List Label)
    → (among s ls < among t ls) ⊎ IsIn t s ls
grows_or_stays s t f [] = inr (λ l a e. absurd (false≢true a))
grows_or_stays s t f (l ∷ ls) =
    elim (grows_or_stays s t f ls) [
      | inl more ↦ inl (omega (arith, bit_more (s l) (t l) (f l), more))
      | inr same ↦ elim (cases_Bool (s l)) [
        | inl e ↦ inr (in_more s t l ls (λ x. e) same)
        | inr e ↦ elim (cases_Bool (t l)) [
          | inl d ↦ inl (omega (arith, bit_false (s l) e, bit_true (t l) d, among_more-le s t f ls))
          | inr d ↦ inr (in_more s t l ls (λ x. absurd (both_ways (t l) d x)) same)
        ]
      ]
    ]

-- ---- rounds

module _ (next : Label → Labels) (labels : List Label) where
  -- the set is closed under the step, among the labels
  abbrev IsClosed : Labels → Type 0
  IsClosed set =
      (l m : Label) → IsAmong l labels → IsAmong m labels → IsTrue (set l) → IsTrue (next l m)
      → IsTrue (set m)

  -- a round keeps what the set has
  one_more-keeps : (set : Labels) (l : Label) → IsTrue (set l) → IsTrue (one_more next labels set l)
  one_more-keeps set l e = or_left (set l) (list_any (λ (m : Label). set m && next m l) labels) e

  -- .. and adds what a step from it leads to
  one_more-adds : (set : Labels) (l m : Label) → IsAmong l labels → IsTrue (set l)
      → IsTrue (next l m) → IsTrue (one_more next labels set m)
  one_more-adds set l m a e n =
      or_right (set m) (list_any (λ (k : Label). set k && next k m) labels)
      (some_among (λ (k : Label). set k && next k m) labels l a (and_from (set l) (next l m) e n))

  -- rounds keep what they start with
  rounds-keep : (start : Labels) (n : ℕ) (l : Label) → IsTrue (start l)
      → IsTrue (rounds next labels start n l)
  rounds-keep start zero l e = e
  rounds-keep start (suc n) l e =
      one_more-keeps (rounds next labels start n) l (rounds-keep start n l e)

  -- a round that adds none of the labels leaves the set closed
  closed_where_same : (set : Labels) → IsIn (one_more next labels set) set labels → IsClosed set
  closed_where_same set f l m a b e n = f m b (one_more-adds set l m a e n)

  -- a closed set has no more of the labels after a round
  closed-same : (set : Labels) → IsClosed set → IsIn (one_more next labels set) set labels
  closed-same set c m b e =
      elim (or_cases (set m) (list_any (λ (k : Label). set k && next k m) labels) e) [
        | inl x ↦ x
        | inr r ↦
            let (l, a, t) = among_some (λ (k : Label). set k && next k m) labels r in
            let (s, n) = and_parts (set l) (next l m) t in
            c l m a b s n
      ]

  -- a closed set stays closed
  closed_more : (set : Labels) → IsClosed set → IsClosed (one_more next labels set)
  closed_more set c l m a b e n = one_more-keeps set m (c l m a b (closed-same set c l a e) n)

  -- after n rounds the set is closed, or has n labels
  settles : (start : Labels) (n : ℕ) → IsClosed (rounds next labels start n)
      ⊎ (n ≤ among (rounds next labels start n) labels)
  settles start zero = inr (omega arith)
  settles start (suc n) =
      elim (settles start n) [
        | inl c ↦ inl (closed_more (rounds next labels start n) c)
        | inr few ↦ elim (grows_or_stays (rounds next labels start n)
            (one_more next labels (rounds next labels start n))
            (one_more-keeps (rounds next labels start n)) labels) [
              | inl more ↦ inr (omega (arith, few, more))
              | inr same ↦ inl (closed_more (rounds next labels start n)
                  (closed_where_same (rounds next labels start n) same))
            ]
      ]

  -- what a walk starts with is reached
  pub reached-start : (start : Labels) (l : Label) → IsTrue (start l)
      → IsTrue (reached next labels start l)
  reached-start start l e = rounds-keep start (length labels) l e

  -- what is reached is closed under the step, among the labels
  pub reached-next : (start : Labels) (l m : Label) → IsAmong l labels → IsAmong m labels
      → IsTrue (reached next labels start l) → IsTrue (next l m)
      → IsTrue (reached next labels start m)
  reached-next start l m a b e n =
      elim (settles start (length labels)) [
        | inl c ↦ c l m a b e n
        | inr all ↦ among_all (reached next labels start) labels
            (omega (arith, all, among-le (reached next labels start) labels)) m b
      ]
