-- The turns of a list: `many` goes on by one turn, and what it reads is `Many`.
use Rattle.std.proofs.Common.{◌≡◌, ℕ, zero, suc, ◌≤◌, List, [], ◌∷◌, ◌++◌, length, Option, Some, None, refl, sym, ap, ◌∙◌, subst, le_refl, append-nil, append_assoc, arith}
use Rattle.ja_grammar.specs.declared.fault.Refusal.{Refusal}
use Rattle.ja_grammar.specs.Input.{Tokens, Outcome, Done, Refused, Parser, and_then, ◌>>=◌, after_turn, many_from, many}
use Rattle.ja_grammar.specs.Productions.{Rule, Many}
use Rattle.ja_grammar.proofs.Outcomes.{done_value, done_rest, bind_inverse}
use Rattle.ja_grammar.proofs.Good.{Follow, Reason, Sample, GoodAt, Closed, pure_good, bind_good}
use Rattle.ja_grammar.proofs.Steps.{end_sample}

-- each turn that goes on takes a token, and none goes on where no token is left
pub record Turns {A : Type 0} (turn : A → Parser (Option A)) : Type 0 where
  pub takes : (a : A) (i : Tokens) (b : A) (r : Tokens) → turn a i ≡ Done (Some b) r
      → suc (length r) ≤ length i
  pub ends : (a : A) → turn a [] ≡ Done None []

-- ---- one turn

-- more turns than tokens change nothing
more_turns : {A : Type 0} (turn : A → Parser (Option A)) → Turns turn
    → (n m : ℕ) (a : A) (i : Tokens) → length i ≤ n → length i ≤ m
    → many_from turn n a i ≡ many_from turn m a i
unfolding many_from
more_turns turn T zero zero a i h h' = refl
more_turns turn T zero (suc m) a [] h h' = rw (T.ends a) refl
more_turns turn T zero (suc m) a (t ∷ i) h h' = absurd (omega arith)
more_turns turn T (suc n) zero a [] h h' = rw (T.ends a) refl
more_turns turn T (suc n) zero a (t ∷ i) h h' = absurd (omega arith)
more_turns {A} turn T (suc n) (suc m) a i h h' = go (more_turns turn T n m) (turn a i) refl
  where
    go : ((b : A) (r : Tokens) → length r ≤ n → length r ≤ m
        → many_from turn n b r ≡ many_from turn m b r) → (o : Outcome (Option A)) → turn a i ≡ o
        → and_then o (after_turn a (many_from turn n))
        ≡ and_then o (after_turn a (many_from turn m))
    go ih (Done None r) e = refl
    go ih (Done (Some b) r) e = let fewer = T.takes a i b r e in ih b r (omega arith) (omega arith)
    go ih (Refused why r) e = refl

-- a list is one turn, and the rest of the list
pub many_once : {A : Type 0} (turn : A → Parser (Option A)) → Turns turn → (a : A) (i : Tokens)
    → many turn a i ≡ (turn a >>= after_turn a (many turn)) i
unfolding many_from
many_once {A} turn T a i =
    more_turns turn T (length i) (suc (length i)) a i (le_refl (length i)) (omega arith)
    ∙ go (turn a i) refl
  where
    go : (o : Outcome (Option A)) → turn a i ≡ o
        → and_then o (after_turn a (many_from turn (length i)))
        ≡ and_then o (after_turn a (many turn))
    go (Done None r) e = refl
    go (Done (Some b) r) e = let fewer = T.takes a i b r e in
        more_turns turn T (length i) (length r) b r (omega arith) (le_refl (length r))
    go (Refused why r) e = refl

-- the same of the parsers
pub many_is_once : {A : Type 0} (turn : A → Parser (Option A)) → Turns turn → (a : A)
    → many turn a ≡ (turn a >>= after_turn a (many turn))
many_is_once turn T a = λ n. λ i. many_once turn T a i n

-- a list ends where a turn does
pub many_end : {A : Type 0} (turn : A → Parser (Option A)) (a : A) (r : Tokens)
    → turn a r ≡ Done None r → many turn a r ≡ Done a r
unfolding many_from
many_end turn a [] e = refl
many_end turn a (t ∷ r) e = rw e refl

-- a list goes on where a turn does
pub many_goes : {A : Type 0} (turn : A → Parser (Option A)) → Turns turn → (a b : A) (i m : Tokens)
    → turn a i ≡ Done (Some b) m → many turn a i ≡ many turn b m
many_goes turn T a b i m e =
    many_once turn T a i ∙ ap (λ o. and_then o (after_turn a (many turn))) e

-- ---- the place

-- asked of a turn that goes on
abbrev pub OfSome : {A : Type 0} → (A → Type 0) → Option A → Type 0
OfSome V None = ⊥
OfSome V (Some a) = V a

-- A list of turns: the general form. `V` is asked of what completes a turn, `sample` completes the
-- list behind it.
pub many_good_with : {U : Tokens} {O : Refusal} {A : Type 0} {F G : Follow} {V W : A → Type 0}
    {J : Reason O} (turn next_turn : A → Parser (Option A)) → Closed J → Turns turn
    → Turns next_turn
    → ((a : A) (i : Tokens) → GoodAt U J (turn a) (next_turn a) F (OfSome V) i)
    → ((a : A) → V a → Sample U (many next_turn a) F G W)
    → (a : A) (i : Tokens) → GoodAt U J (many turn a) (many next_turn a) G W i
many_good_with {U} {O} {A} {F} {G} {V} {W} {J} turn next_turn closed T T' good sample a i =
    by (length i) a i (le_refl (length i))
  where
    samples : (a : A) (o : Option A) → OfSome V o → Sample U (after_turn a (many next_turn) o) F G W
    samples a None v = absurd v
    samples a (Some b) v = sample b v

    once : (a : A) (i : Tokens) → ((o : Option A) (r : Tokens) → turn a i ≡ Done o r
        → GoodAt U J (after_turn a (many turn) o) (after_turn a (many next_turn) o) G W r)
        → GoodAt U J (many turn a) (many next_turn a) G W i
    once a i second =
        subst (λ p. GoodAt U J p (many next_turn a) G W i) (sym (many_is_once turn T a))
        (subst (λ q. GoodAt U J (turn a >>= after_turn a (many turn)) q G W i)
        (sym (many_is_once next_turn T' a))
        (bind_good i closed (good a i) second (samples a)))

    by : (n : ℕ) (a : A) (i : Tokens) → length i ≤ n
        → GoodAt U J (many turn a) (many next_turn a) G W i
    by zero a i few = once a i second
      where
        second : (o : Option A) (r : Tokens) → turn a i ≡ Done o r
            → GoodAt U J (after_turn a (many turn) o) (after_turn a (many next_turn) o) G W r
        second None r e = pure_good J G W a r
        second (Some b) r e = absurd (let fewer = T.takes a i b r e in omega arith)
    by (suc n) a i few = once a i (second (by n))
      where
        second : ((b : A) (r : Tokens) → length r ≤ n
            → GoodAt U J (many turn b) (many next_turn b) G W r)
            → (o : Option A) (r : Tokens) → turn a i ≡ Done o r
            → GoodAt U J (after_turn a (many turn) o) (after_turn a (many next_turn) o) G W r
        second ih None r e = pure_good J G W a r
        second ih (Some b) r e = let fewer = T.takes a i b r e in ih b r (omega arith)

-- a list of turns that ends where F follows
pub many_good : {U : Tokens} {O : Refusal} {A : Type 0} {F : Follow} {W : A → Type 0} {J : Reason O}
    (turn next_turn : A → Parser (Option A)) → Closed J → Turns turn → Turns next_turn
    → ((a : A) (i : Tokens) → GoodAt U J (turn a) (next_turn a) F (OfSome W) i)
    → ((a : A) (tail : Tokens) → F tail → next_turn a tail ≡ Done None tail)
    → (a : A) (i : Tokens) → GoodAt U J (many turn a) (many next_turn a) F W i
many_good turn next_turn closed T T' good ends a i = many_good_with turn next_turn closed T T' good
    (λ b w. end_sample b w (λ tail h. h) (λ tail h. many_end next_turn b tail (ends b tail h))) a i

-- ---- what is read

-- what one item after the other makes of a value
abbrev pub folded : {A X : Type 0} → (A → X → A) → A → List X → A
folded step a [] = a
folded step a (x ∷ xs) = folded step (step a x) xs

-- pushing one after the other appends
pub folded_push : {X : Type 0} (found xs : List X)
    → folded (λ found x. found ++ x ∷ []) found xs ≡ found ++ xs
folded_push found [] = sym (append-nil found)
folded_push found (x ∷ xs) = folded_push (found ++ x ∷ []) xs ∙ append_assoc found (x ∷ []) xs

-- a list of the grammar is read
pub many_all : {A X : Type 0} {One : Rule X} {Stop : Tokens → Type 0} (turn : A → Parser (Option A))
    (step : A → X → A) → Turns turn
    → ((a : A) (i : Tokens) (x : X) (m : Tokens) → One i x m → turn a i ≡ Done (Some (step a x)) m)
    → ((a : A) (r : Tokens) → Stop r → turn a r ≡ Done None r)
    → (a : A) (i : Tokens) (xs : List X) (r : Tokens) → Many One Stop i xs r
    → many turn a i ≡ Done (folded step a xs) r
many_all turn step T one stop a i xs r (Many.none h) = many_end turn a r (stop a r h)
many_all turn step T one stop a i xs r (Many.more {m = m} {x = x} {xs = ys} h t) =
    many_goes turn T a (step a x) i m (one a i x m h)
    ∙ many_all turn step T one stop (step a x) m ys r t

-- what is read is a list of the grammar
pub many_is : {A X : Type 0} {One : Rule X} {Stop : Tokens → Type 0} (turn : A → Parser (Option A))
    (step : A → X → A) → Turns turn
    → ((a : A) (i : Tokens) (b : A) (m : Tokens) → turn a i ≡ Done (Some b) m
    → (x : X) × One i x m × (b ≡ step a x))
    → ((a : A) (i m : Tokens) → turn a i ≡ Done None m → (i ≡ m) × Stop m)
    → (a : A) (i : Tokens) (b : A) (r : Tokens) → many turn a i ≡ Done b r
    → (xs : List X) × Many One Stop i xs r × (b ≡ folded step a xs)
many_is {A} {X} {One} {Stop} turn step T one stop a i b r e =
    by (length i) a i (le_refl (length i)) e
  where
    Found : A → Tokens → Type 0
    Found a i = (xs : List X) × Many One Stop i xs r × (b ≡ folded step a xs)

    turned : (a : A) (i : Tokens) → ((c : A) (m : Tokens) → turn a i ≡ Done (Some c) m
        → many turn c m ≡ Done b r → Found c m) → many turn a i ≡ Done b r → Found a i
    turned a i rest e = go s.0 s.1 s.2 s.3
      where
        s : (o : Option A) × (m : Tokens) × (turn a i ≡ Done o m)
            × (after_turn a (many turn) o m ≡ Done b r)
        s = bind_inverse (turn a) (after_turn a (many turn)) i (sym (many_once turn T a i) ∙ e)

        go : (o : Option A) (m : Tokens) → turn a i ≡ Done o m
            → after_turn a (many turn) o m ≡ Done b r → Found a i
        go None m h k =
            let t = stop a i m h in (
              [],
              subst (λ x. Many One Stop x [] r) (sym (t.0 ∙ done_rest k))
                  (Many.none (subst Stop (done_rest k) t.1)),
              sym (done_value k),
            )
        go (Some c) m h k =
            let x = one a i c m h in
            let f = rest c m h k in
            (x.0 ∷ f.0, Many.more x.1 f.1, f.2 ∙ ap (λ y. folded step y f.0) x.2)

    by : (n : ℕ) (a : A) (i : Tokens) → length i ≤ n → many turn a i ≡ Done b r → Found a i
    by zero a i few e =
        turned a i (λ c m h k. absurd (let fewer = T.takes a i c m h in omega arith)) e
    by (suc n) a i few e =
        turned a i (λ c m h k. let fewer = T.takes a i c m h in by n c m (omega arith) k) e
