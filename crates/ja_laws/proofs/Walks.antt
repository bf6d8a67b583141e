-- What a walk reaches is the least set of labels that has its start and is kept by its step.
use Rattle.std.specs.Prelude.{◌≡◌, ◌⊎◌, ◌≤◌, ◌+◌, ◌&&◌, Bool, true, false, ℕ, zero, suc, length, IsTrue, List, [], ◌∷◌}
use Rattle.std.specs.List.{list_any}
use Rattle.std.proofs.Common.{refl, sym, subst, arith, inl, inr}
use Rattle.std.proofs.lemmas.Bool.{or_left, or_right, or_cases, and_parts, and_from, false≢true, cases_Bool, both_ways}
use Rattle.ja_base.specs.declared.ids.Label.{Label}
use Rattle.ja_abstract.specs.AbstractValue.{Labels, same_label}
use Rattle.ja_abstract.specs.Resolved.{one_more, rounds, reached}
use Rattle.ja_abstract.proofs.Labels.{IsAmong, same_label-true, some_among, among_some}
use Rattle.ja_abstract.proofs.Rounds.{bit, among, IsIn, among-le, grows_or_stays}
use Rattle.ja_laws.specs.AbstractLaws.{HasWalk, IsLeastWalk}

-- where as many of a list are in a set as there are, each one is
first_full : (b : Bool) (n k : ℕ) → bit b + n ≡ suc k → n ≤ k → IsTrue b × (n ≡ k)
first_full true n k e l = (refl, omega arith)
first_full false n k e l = absurd (omega arith)

all_in : (set : Labels) (ls : List Label) → among set ls ≡ length ls → (l : Label) → IsAmong l ls
    → IsTrue (set l)
all_in set [] e l a = absurd (false≢true a)
all_in set (m ∷ ms) e l a =
    let (first, rest) =
    first_full (set m) (among set ms) (length ms) (omega arith) (among-le set ms) in
    elim (or_cases (same_label l m) (list_any (same_label l) ms) a) [
      | inl s ↦ subst (λ k. IsTrue (set k)) (sym (same_label-true l m s)) first
      | inr r ↦ all_in set ms rest l r
    ]

module _ (next : Label → Labels) (labels : List Label) where
  -- the set isn't left by a step from one of the labels
  abbrev IsKept : Labels → Type 0
  IsKept set =
      (l m : Label) → IsAmong l labels → IsTrue (set l) → IsTrue (next l m) → IsTrue (set m)

  -- a round adds none of the labels
  abbrev IsSettled : Labels → Type 0
  IsSettled set = IsIn (one_more next labels set) set labels

  more-has : (set : Labels) (l : Label) → IsTrue (set l) → IsTrue (one_more next labels set l)
  more-has set l h = or_left (set l) (list_any (λ (m : Label). set m && next m l) labels) h

  more-follows : (set : Labels) (l m : Label) → IsAmong l labels → IsTrue (set l)
      → IsTrue (next l m) → IsTrue (one_more next labels set m)
  more-follows set l m a h n =
      or_right (set m) (list_any (λ (k : Label). set k && next k m) labels)
      (some_among (λ (k : Label). set k && next k m) labels l a (and_from (set l) (next l m) h n))

  -- what a set has after a round more, one has that has it and isn't left
  more-within : (set other : Labels) → IsKept other
      → ((l : Label) → IsTrue (set l) → IsTrue (other l)) → (m : Label)
      → IsTrue (one_more next labels set m) → IsTrue (other m)
  more-within set other kept within m h =
      elim (or_cases (set m) (list_any (λ (k : Label). set k && next k m) labels) h) [
        | inl s ↦ within m s
        | inr r ↦
            let (l, a, t) = among_some (λ (k : Label). set k && next k m) labels r in
            let (s, n) = and_parts (set l) (next l m) t in
            kept l m a (within l s) n
      ]

  -- a set that isn't left is settled, and one that is settled isn't left after a round more
  kept-settled : (set : Labels) → IsKept set → IsSettled set
  kept-settled set kept l a h = more-within set set kept (λ k s. s) l h

  settled-kept : (set : Labels) → IsSettled set → IsKept (one_more next labels set)
  settled-kept set settled l m a h n = more-follows set l m a (settled l a h) n

  more-kept : (set : Labels) → IsKept set → IsKept (one_more next labels set)
  more-kept set kept = settled-kept set (kept-settled set kept)

  -- after n rounds from some label the set is settled, or has more than n labels
  settles : (start : Labels) → 1 ≤ among start labels → (n : ℕ)
      → IsSettled (rounds next labels start n)
      ⊎ (n + 1 ≤ among (rounds next labels start n) labels)
  settles start some zero = inr (omega (arith, some))
  settles start some (suc n) =
      elim (settles start some n) [
        | inl settled ↦
            inl (kept-settled (rounds next labels start (suc n))
            (settled-kept (rounds next labels start n) settled))
        | inr few ↦ elim (grows_or_stays (rounds next labels start n)
            (rounds next labels start (suc n)) (more-has (rounds next labels start n)) labels) [
              | inl more ↦ inr (omega (arith, few, more))
              | inr same ↦ inl (kept-settled (rounds next labels start (suc n))
                  (settled-kept (rounds next labels start n) same))
            ]
      ]

  -- where the start has none of the labels, no round adds one
  rounds-kept : (start : Labels) → IsKept start → (n : ℕ) → IsKept (rounds next labels start n)
  rounds-kept start kept zero = kept
  rounds-kept start kept (suc n) =
      more-kept (rounds next labels start n) (rounds-kept start kept n)

  -- a label of the list that is in the set is counted
  counted : (set : Labels) (ls : List Label) (l : Label) → IsAmong l ls → IsTrue (set l)
      → 1 ≤ among set ls
  counted set [] l a h = absurd (false≢true a)
  counted set (m ∷ ms) l a h =
      elim (or_cases (same_label l m) (list_any (same_label l) ms) a) [
        | inl s ↦
            let first : IsTrue (set m) = subst (λ k. IsTrue (set k)) (same_label-true l m s) h in
            subst (λ b. 1 ≤ bit b + among set ms) (sym first) (omega arith)
        | inr r ↦ omega (arith, counted set ms l r h)
      ]

  -- as many rounds as there are labels, from some of them
  kept_after : (start : Labels) → 1 ≤ among start labels → (n : ℕ) → n ≡ length labels
      → IsKept (rounds next labels start n)
  kept_after start some zero e = absurd (omega (arith, among-le start labels))
  kept_after start some (suc n) e =
      elim (settles start some n) [
        | inl settled ↦ settled-kept (rounds next labels start n) settled
        | inr all ↦ settled-kept (rounds next labels start n)
            (λ l a h. all_in (rounds next labels start n) labels
            (omega (arith, all, among-le (rounds next labels start n) labels)) l a)
      ]

  reached-kept : (start : Labels) → IsKept (reached next labels start)
  reached-kept start =
      elim (cases_Bool (list_any start labels)) [
        | inl some ↦
            let (l, a, h) = among_some start labels some in
            kept_after start (counted start labels l a h) (length labels) refl
        | inr none ↦ rounds-kept start
            (λ l m a h n. absurd (both_ways (list_any start labels) none
            (some_among start labels l a h))) (length labels)
      ]

  -- rounds have what they start with, and nothing more than a set that has it and isn't left
  rounds-has : (start : Labels) (n : ℕ) (l : Label) → IsTrue (start l)
      → IsTrue (rounds next labels start n l)
  rounds-has start zero l h = h
  rounds-has start (suc n) l h = more-has (rounds next labels start n) l (rounds-has start n l h)

  rounds-within : (start other : Labels) → HasWalk next labels start other → (n : ℕ) (l : Label)
      → IsTrue (rounds next labels start n l) → IsTrue (other l)
  rounds-within start other has zero l h = has.starts l h
  rounds-within start other has (suc n) l h =
      more-within (rounds next labels start n) other has.follows
      (rounds-within start other has n) l h

  pub walk_least : (start : Labels) → IsLeastWalk next labels start (reached next labels start)
  walk_least start = record {
    has = record { starts = rounds-has start (length labels); follows = reached-kept start };
    least = λ other has. rounds-within start other has (length labels);
  }
