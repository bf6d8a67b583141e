-- Two readings by different rules: they give the same, unless the first refuses for want of what
-- the second doesn't ask, and then the second gets at least as far.
use Rattle.std.proofs.Common.{◌≡◌, ◌⊎◌, ℕ, zero, suc, ◌≤◌, Bool, true, false, List, [], ◌∷◌, length, Option, Some, None, if◌then◌else◌, refl, ap, subst, inl, inr, le_refl, le_trans}
use Rattle.ja_lex.specs.declared.token.Token.{Token}
use Rattle.ja_syntax.specs.declared.symbol.Symbol.{Symbol}
use Rattle.ja_syntax.specs.declared.symbol.Symbol.TheVariants.{Comma}
use Rattle.ja_syntax.specs.Symbols.{same_symbol}
use Rattle.ja_grammar.specs.declared.fault.Refusal.{Refusal}
use Rattle.ja_grammar.specs.declared.fault.Refusal.TheVariants.{Unexpected, Deep}
use Rattle.ja_grammar.specs.declared.part.ExpressionPart.{ExpressionPart}
use Rattle.ja_grammar.specs.declared.part.StatementPart.{StatementPart}
use Rattle.ja_grammar.specs.Contexts.{Context}
use Rattle.ja_grammar.specs.Input.{Tokens, next, symbol, behind, Outcome, Done, Refused, Parser, and_then, pure, look, Rules, enter, opening, after_turn, many_from, many, until_by, until, after_comma, separated, listed_by, listed}
use Rattle.ja_grammar.specs.Language.{is_level}
use Rattle.ja_grammar.specs.Productions.{HasRoom}
use Rattle.ja_grammar.specs.ReadExpression.{Below}
use Rattle.ja_grammar.proofs.Agree.{BelowTakes}
use Rattle.ja_grammar.proofs.Outcomes.{refused_not_done, entered, rest_of}
use Rattle.ja_grammar.proofs.Shrinks.{Leaves, Shrinks, behind_shrinks, pure_shrinks, value_leaves, expect_shrinks, after_turn_shrinks, many_from_shrinks, until_turn_shrinks, comma_turn_shrinks, many_shrinks}

-- which refusals the second reading doesn't make: by the refusal and the tokens that are left
abbrev pub Lenient : Type 1
Lenient = Refusal → Tokens → Type 0

-- the second reading gives the same, unless the first refuses so; then it leaves no more
pub data Refines {A : Type 0} (C : Lenient) (o u : Outcome A) : Type 0 where
  same : o ≡ u → Refines C o u
  refused : {why : Refusal} {r : Tokens} → C why r → o ≡ Refused why r
      → length (rest_of u) ≤ length r → Refines C o u

-- a rule is asked by both, or by none, or by the first alone, and then the refusal is lenient
abbrev pub Asks : Lenient → Rules → Rules → Refusal → Tokens → Type 0
Asks C g g' why i = (g why i ≡ g' why i) ⊎ ((g why i ≡ true) × (g' why i ≡ false) × C why i)

-- rules are asked so before any tokens
abbrev pub AsksEach : Lenient → Rules → Rules → Type 0
AsksEach C g g' = (why : Refusal) (i : Tokens) → Asks C g g' why i

-- the rules, and the parts one level below, where a token that counts was entered
pub record RefinesBelow (C : Lenient) (g g' : Rules) (b b' : Below) : Type 0 where
  pub asks : AsksEach C g g'
  pub expression : (i : Tokens) → HasRoom g i → (p : ExpressionPart) (j : Tokens)
      → Refines C (b.expression p j) (b'.expression p j)
  pub statement : (why : Refusal) (i : Tokens) → is_level why ≡ true → g why i ≡ false
      → (c : Context) (p : StatementPart) (j : Tokens)
      → Refines C (b.statement c p j) (b'.statement c p j)
  pub takes : BelowTakes b'

-- ---- steps

-- one after the other
pub bind_refines : {A B : Type 0} {C : Lenient} {o u : Outcome A} {f h : A → Parser B} {c : Bool}
    → Refines C o u → ((a : A) (r : Tokens) → o ≡ Done a r → Refines C (f a r) (h a r))
    → ((a : A) (r : Tokens) → Leaves c (h a r) r) → Refines C (and_then o f) (and_then u h)
bind_refines {A} {B} {C} {o} {u} {f} {h} (same e) second within =
    subst (λ x. Refines C (and_then o f) (and_then x h)) e (go o second)
  where
    go : (x : Outcome A) → ((a : A) (r : Tokens) → x ≡ Done a r → Refines C (f a r) (h a r))
        → Refines C (and_then x f) (and_then x h)
    go (Done a r) s = s a r refl
    go (Refused why r) s = same refl
bind_refines {A} {B} {u = u} {f = f} {h = h} (refused {r = r} c e least) second within =
    refused c (ap (λ x. and_then x f) e) (go u least)
  where
    go : (x : Outcome A) → length (rest_of x) ≤ length r
        → length (rest_of (and_then x h)) ≤ length r
    go (Done a m) q = le_trans (within a m).within q
    go (Refused v m) q = q

-- the same first, and then by each
pub then_refines : {A B : Type 0} {C : Lenient} (o : Outcome A) {f h : A → Parser B}
    → ((a : A) (r : Tokens) → o ≡ Done a r → Refines C (f a r) (h a r))
    → Refines C (and_then o f) (and_then o h)
then_refines (Done a r) second = second a r refl
then_refines (Refused why r) second = same refl

-- the same behind
pub tail_refines : {A B : Type 0} {C : Lenient} {o u : Outcome A} {f : A → Parser B} {c : Bool}
    → Refines C o u → ((a : A) (r : Tokens) → Leaves c (f a r) r)
    → Refines C (and_then o f) (and_then u f)
tail_refines h within = bind_refines h (λ a r _. same refl) within

-- a value behind
pub value_refines : {A B : Type 0} {C : Lenient} {o u : Outcome A} (f : A → B) → Refines C o u
    → Refines C (and_then o (λ a. pure (f a))) (and_then u (λ a. pure (f a)))
value_refines f h = tail_refines h (λ a r. pure_shrinks)

-- by a rule
pub unless_refines : {A : Type 0} {C : Lenient} (g g' : Rules) (why : Refusal) (i : Tokens)
    {o u : Outcome A} → Asks C g g' why i
    → (g why i ≡ false → Refines C o u) → length (rest_of u) ≤ length i
    → Refines C (if g why i then Refused why i else o) (if g' why i then Refused why i else u)
unless_refines {A} {C} g g' why i {o} {u} (inl e) second least =
    subst (λ x. Refines C (if g why i then Refused why i else o) (if x then Refused why i else u)) e
    (go (g why i) second)
  where
    go : (x : Bool) → (x ≡ false → Refines C o u)
        → Refines C (if x then Refused why i else o) (if x then Refused why i else u)
    go true s = same refl
    go false s = s refl
unless_refines {A = A} g g' why i {o = o} {u = u} (inr e) second least =
    refused e.2 (ap (λ x. if x then Refused why i else o) e.0) (go (g' why i))
  where
    go : (x : Bool) → length (rest_of {A = A} (if x then Refused why i else u)) ≤ length i
    go true = le_refl (length i)
    go false = least

-- a token that counts
pub enter_refines : {C : Lenient} (g g' : Rules) (i : Tokens) → Asks C g g' Deep i
    → Refines C (enter g i) (enter g' i)
unfolding enter
enter_refines g g' i asks = unless_refines g g' Deep i asks (λ _. same refl) (behind_shrinks i)

pub opening_refines : {C : Lenient} (g g' : Rules) (k : Symbol) (i : Tokens) → Asks C g g' Deep i
    → Refines C (opening g k i) (opening g' k i)
unfolding opening
opening_refines {C} g g' k i asks = go (same_symbol (next i) k)
  where
    go : (x : Bool) → Refines C (if x then enter g i else Refused Unexpected i)
        (if x then enter g' i else Refused Unexpected i)
    go true = enter_refines g g' i asks
    go false = same refl

-- what opened had a level left
pub opened : (g : Rules) (k : Symbol) (i : Tokens) {t : Token} {r : Tokens}
    → opening g k i ≡ Done t r → HasRoom g i
unfolding opening
opened g k i {t} {r} e = go (same_symbol (next i) k) e
  where
    go : (x : Bool) → (if x then enter g i else Refused Unexpected i) ≡ Done t r → HasRoom g i
    go true h = entered g i h
    go false h = absurd (refused_not_done h)

-- ---- lists

module _ {A : Type 0} {C : Lenient} (turn turn' : A → Parser (Option A))
    (h : (a : A) (i : Tokens) → Refines C (turn a i) (turn' a i))
    (within : (a : A) → Shrinks (turn' a)) where
  pub many_from_refines : (n : ℕ) (a : A) (i : Tokens)
      → Refines C (many_from turn n a i) (many_from turn' n a i)
  unfolding many_from
  many_from_refines zero a i = same refl
  many_from_refines (suc n) a i =
      bind_refines (h a i) (λ o r _. go (many_from_refines n) o r)
      (λ o r. after_turn_shrinks (many_from_shrinks within n) a o r)
    where
      go : ((b : A) (r : Tokens) → Refines C (many_from turn n b r) (many_from turn' n b r))
          → (o : Option A) (r : Tokens)
          → Refines C (after_turn a (many_from turn n) o r) (after_turn a (many_from turn' n) o r)
      go ih None r = same refl
      go ih (Some b) r = ih b r

  pub many_refines : (a : A) (i : Tokens) → Refines C (many turn a i) (many turn' a i)
  many_refines a i = many_from_refines (length i) a i

module _ {A : Type 0} {C : Lenient} {c : Bool} (item item' : Parser A)
    (h : (i : Tokens) → Refines C (item i) (item' i))
    (within : (i : Tokens) → Leaves c (item' i) i) where
  pub until_refines : (ends : Symbol → Bool) (i : Tokens)
      → Refines C (until ends item i) (until ends item' i)
  unfolding until
  until_refines ends i =
      many_refines (λ found. look (λ t. until_by item found (ends (symbol t))))
      (λ found. look (λ t. until_by item' found (ends (symbol t))))
      (λ found j. go found j (ends (next j))) (until_turn_shrinks within ends) [] i
    where
      go : (found : List A) (j : Tokens) (x : Bool)
          → Refines C (until_by item found x j) (until_by item' found x j)
      go found j true = same refl
      go found j false = value_refines _ (h j)

  pub separated_refines : (i : Tokens) → Refines C (separated item i) (separated item' i)
  unfolding separated
  separated_refines i =
      bind_refines (h i) (λ x r _. many_refines
      (λ found. look (λ t. after_comma item found (same_symbol (symbol t) Comma)))
      (λ found. look (λ t. after_comma item' found (same_symbol (symbol t) Comma)))
      (λ found j. go found j (same_symbol (next j) Comma)) (comma_turn_shrinks within) (x ∷ [])
      r)
      (λ x r. many_shrinks (comma_turn_shrinks within) (x ∷ []) r)
    where
      go : (found : List A) (j : Tokens) (x : Bool)
          → Refines C (after_comma item found x j) (after_comma item' found x j)
      go found j false = same refl
      go found j true = value_refines _ (h (behind j))

  pub listed_refines : (close : Symbol) (i : Tokens)
      → Refines C (listed close item i) (listed close item' i)
  unfolding listed
  listed_refines close i = go (same_symbol (next i) close)
    where
      go : (x : Bool) → Refines C (listed_by close item x i) (listed_by close item' x i)
      go true = same refl
      go false =
          tail_refines (separated_refines i) (λ xs r. value_leaves _ (expect_shrinks close r))
