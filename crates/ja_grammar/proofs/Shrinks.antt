-- How many tokens are left: what each step of a rule leaves, and each list.
use Rattle.std.proofs.Common.{◌≡◌, ◌≢◌, ℕ, zero, suc, ◌≤◌, Bool, true, false, ◌||◌, List, [], ◌∷◌, ◌++◌, length, Option, Some, None, if◌then◌else◌, refl, sym, ap, ◌∙◌, subst, le_refl, le_trans, suc-le-suc, le-add_left, lt-suc_self, le_of_lt, arith}
use Rattle.std.proofs.lemmas.List.{length-append}
use Rattle.ja_syntax.specs.declared.symbol.Symbol.{Symbol}
use Rattle.ja_syntax.specs.declared.symbol.Symbol.TheVariants.{End, Comma}
use Rattle.ja_syntax.specs.Symbols.{same_symbol}
use Rattle.ja_grammar.specs.declared.fault.Refusal.{Refusal}
use Rattle.ja_grammar.specs.declared.fault.Refusal.TheVariants.{Unexpected, Deep}
use Rattle.ja_grammar.specs.Input.{Tokens, head, next, behind, Outcome, Done, Refused, Parser, and_then, ◌>>=◌, pure, refuse, look, Rules, take_token, enter, opening, expect, symbol, after_turn, many_from, many, until_by, until, after_comma, separated, listed_by, listed}
use Rattle.ja_grammar.proofs.Outcomes.{refused_not_done, comma_not_end, cons_of, same_symbol_true, rest_of}

-- so many, or one more
abbrev pub fewer : Bool → ℕ → ℕ
fewer true n = suc n
fewer false n = n

-- What an outcome leaves of these tokens: refused or not, no more than there were (within); and
-- a value, of a rule that takes a token, fewer (leaves).
pub record Leaves {A : Type 0} (takes : Bool) (o : Outcome A) (i : Tokens) : Type 0 where
  pub within : length (rest_of o) ≤ length i
  pub leaves : (a : A) (r : Tokens) → o ≡ Done a r → fewer takes (length r) ≤ length i

-- a rule takes a token of every text
abbrev pub Takes : {A : Type 0} → Parser A → Type 0
Takes p = (i : Tokens) → Leaves true (p i) i

-- or it adds none
abbrev pub Shrinks : {A : Type 0} → Parser A → Type 0
Shrinks p = (i : Tokens) → Leaves false (p i) i

-- an outcome, refused or not, leaves fewer
pub record Moves {A : Type 0} (p : Parser A) (i : Tokens) : Type 0 where
  pub moves : suc (length (rest_of (p i))) ≤ length i

-- ---- what is known of the rest

-- no more tokens in the rest are no more behind a value
pub shrinks_by : {A : Type 0} {o : Outcome A} {i : Tokens} → length (rest_of o) ≤ length i
    → Leaves false o i
shrinks_by {i = i} h = record {
  within = h;
  leaves = λ a r e. subst (λ o. length (rest_of o) ≤ length i) e h;
}

-- what takes doesn't grow
pub takes_shrinks : {A : Type 0} {takes : Bool} {o : Outcome A} {i : Tokens} → Leaves takes o i
    → Leaves false o i
takes_shrinks h = shrinks_by h.within

-- what is left behind some tokens
pub split_within : (w r : Tokens) {i : Tokens} → i ≡ w ++ r → length r ≤ length i
split_within w r e = rw (ap length e, length-append w r) (le-add_left (length r) (length w))

-- ---- steps

-- nothing is read
pub pure_shrinks : {A : Type 0} {a : A} {i : Tokens} → Leaves false (Done a i) i
pure_shrinks {i = i} = shrinks_by (le_refl (length i))

-- a refusal gives no value
pub refuse_leaves : {A : Type 0} {takes : Bool} {why : Refusal} {i : Tokens}
    → Leaves takes (refuse {A = A} why i) i
refuse_leaves {i = i} = record {
  within = le_refl (length i);
  leaves = λ a r e. absurd (refused_not_done e);
}

-- the tokens behind the next one are no more
pub behind_shrinks : (i : Tokens) → length (behind i) ≤ length i
behind_shrinks [] = le_refl 0
behind_shrinks (t ∷ i) = le_of_lt (lt-suc_self (length i))

-- what reads so behind the next token
pub behind_leaves : {A : Type 0} {takes : Bool} {o : Outcome A} {i : Tokens}
    → Leaves takes o (behind i) → Leaves takes o i
behind_leaves {i = i} h = record {
  within = le_trans h.within (behind_shrinks i);
  leaves = λ a r e. le_trans (h.leaves a r e) (behind_shrinks i);
}

-- .. where that is not the end
pub behind_takes : {A : Type 0} {takes : Bool} {o : Outcome A} {i : Tokens} → next i ≢ End
    → Leaves takes o (behind i) → Leaves true o i
behind_takes {i = i} more h = record {
  within = le_trans h.within (behind_shrinks i);
  leaves = λ a r e. subst (λ x. suc (length r) ≤ length x) (sym (cons_of i more))
      (suc-le-suc ((takes_shrinks h).leaves a r e));
}

-- the next token is taken, for a value
pub token_shrinks : {A : Type 0} {a : A} {i : Tokens} → Leaves false (Done a (behind i)) i
token_shrinks = behind_leaves pure_shrinks

pub token_takes : {A : Type 0} {a : A} {i : Tokens} → next i ≢ End
    → Leaves true (Done a (behind i)) i
token_takes more = behind_takes more pure_shrinks

-- by a rule
pub unless_leaves : {A : Type 0} {takes : Bool} (g : Rules) (why : Refusal) {o : Outcome A}
    {i : Tokens} → Leaves takes o i → Leaves takes (if g why i then Refused why i else o) i
unless_leaves {takes = takes} g why {o} {i} h = go (g why i)
  where
    go : (x : Bool) → Leaves takes (if x then Refused why i else o) i
    go true = refuse_leaves
    go false = h

pub enter_shrinks : (g : Rules) → Shrinks (enter g)
unfolding enter
enter_shrinks g i = unless_leaves g Deep token_shrinks

pub enter_takes : (g : Rules) (i : Tokens) → next i ≢ End → Leaves true (enter g i) i
unfolding enter
enter_takes g i more = unless_leaves g Deep (token_takes more)

-- a token with this symbol, or none
symbol_leaves : {A : Type 0} {takes : Bool} (k : Symbol) {o : Outcome A} (i : Tokens)
    → (next i ≡ k → Leaves takes o i)
    → Leaves takes (if same_symbol (next i) k then o else Refused Unexpected i) i
symbol_leaves {takes = takes} k {o} i h = go (same_symbol (next i) k) refl
  where
    go : (x : Bool) → same_symbol (next i) k ≡ x
        → Leaves takes (if x then o else Refused Unexpected i) i
    go true e = h (same_symbol_true (next i) k e)
    go false e = refuse_leaves

pub expect_shrinks : (k : Symbol) → Shrinks (expect k)
unfolding expect
expect_shrinks k i = symbol_leaves k i (λ is. token_shrinks)

pub expect_takes : (k : Symbol) → k ≢ End → Takes (expect k)
unfolding expect
expect_takes k more i = symbol_leaves k i (λ is. token_takes (λ e. more (sym is ∙ e)))

pub opening_takes : (g : Rules) (k : Symbol) → k ≢ End → Takes (opening g k)
unfolding opening
opening_takes g k more i =
    symbol_leaves k i (λ is. enter_takes g i (λ e. more (sym is ∙ e)))

-- ---- one after the other

both : (c d : Bool) (n m l : ℕ) → fewer d n ≤ m → fewer c m ≤ l → fewer (c || d) n ≤ l
both true true n m l h h' = omega arith
both true false n m l h h' = omega arith
both false true n m l h h' = omega arith
both false false n m l h h' = omega arith

-- the whole takes where a part does
pub bind_leaves : {A B : Type 0} {c d : Bool} {o : Outcome A} {f : A → Parser B} {i : Tokens}
    → Leaves c o i → ((a : A) (r : Tokens) → Leaves d (f a r) r) → Leaves (c || d) (and_then o f) i
bind_leaves {c = c} {d = d} {o = Done a m} first second = record {
  within = le_trans (second a m).within first.within;
  leaves = λ b r e. both c d _ _ _ ((second a m).leaves b r e) (first.leaves a m refl);
}
bind_leaves {o = Refused why m} first second = record {
  within = first.within;
  leaves = λ b r e. absurd (refused_not_done e);
}

-- a part, and then a value
pub value_leaves : {A B : Type 0} {c : Bool} {o : Outcome A} (f : A → B) {i : Tokens}
    → Leaves c o i → Leaves c (and_then o (λ a. pure (f a))) i
value_leaves {c = true} f h = bind_leaves h (λ a r. pure_shrinks)
value_leaves {c = false} f h = bind_leaves h (λ a r. pure_shrinks)

-- ---- lists

-- what goes on behind a turn
pub after_turn_shrinks : {A : Type 0} {go : A → Parser A} → ((a : A) → Shrinks (go a))
    → (a : A) (o : Option A) → Shrinks (after_turn a go o)
after_turn_shrinks again a None r = pure_shrinks
after_turn_shrinks again a (Some b) r = again b r

module _ {A : Type 0} {turn : A → Parser (Option A)} (h : (a : A) → Shrinks (turn a)) where
  pub many_from_shrinks : (n : ℕ) (a : A) → Shrinks (many_from turn n a)
  unfolding many_from
  many_from_shrinks zero a i = pure_shrinks
  many_from_shrinks (suc n) a i =
      bind_leaves (h a i) (after_turn_shrinks (many_from_shrinks n) a)

  pub many_shrinks : (a : A) → Shrinks (many turn a)
  many_shrinks a i = many_from_shrinks (length i) a i

module _ {A : Type 0} {c : Bool} {item : Parser A} (h : (i : Tokens) → Leaves c (item i) i) where
  pub until_turn_shrinks : (ends : Symbol → Bool) (found : List A)
      → Shrinks (look (λ t. until_by item found (ends (symbol t))))
  until_turn_shrinks ends found i = go (ends (next i))
    where
      go : (x : Bool) → Leaves false (until_by item found x i) i
      go true = pure_shrinks
      go false = value_leaves _ (takes_shrinks (h i))

  pub until_shrinks : (ends : Symbol → Bool) → Shrinks (until ends item)
  unfolding until
  until_shrinks ends i = many_shrinks (until_turn_shrinks ends) [] i

  -- a comma and an item
  pub comma_takes : (found : List A) (i : Tokens) → next i ≡ Comma
      → Leaves true (after_comma item found true i) i
  comma_takes found i is =
      behind_takes (λ e. comma_not_end (sym is ∙ e)) (value_leaves _ (h (behind i)))

  pub comma_turn_shrinks : (found : List A)
      → Shrinks (look (λ t. after_comma item found (same_symbol (symbol t) Comma)))
  comma_turn_shrinks found i = go (same_symbol (next i) Comma)
    where
      go : (x : Bool) → Leaves false (after_comma item found x i) i
      go false = pure_shrinks
      go true = behind_leaves (value_leaves _ (takes_shrinks (h (behind i))))

  pub separated_shrinks : Shrinks (separated item)
  unfolding separated
  separated_shrinks i =
      bind_leaves (takes_shrinks (h i)) (λ x r. many_shrinks comma_turn_shrinks (x ∷ []) r)

  -- .. with a closing token
  pub listed_takes : (close : Symbol) → close ≢ End → Takes (listed close item)
  unfolding listed
  listed_takes close more i = go (same_symbol (next i) close) refl
    where
      go : (x : Bool) → same_symbol (next i) close ≡ x → Leaves true (listed_by close item x i) i
      go true e = token_takes (λ ends. more (sym (same_symbol_true (next i) close e) ∙ ends))
      go false e =
          bind_leaves (separated_shrinks i) (λ xs r. value_leaves _ (expect_takes close more r))

pub separated_takes : {A : Type 0} {item : Parser A} → Takes item → Takes (separated item)
unfolding separated
separated_takes h i = bind_leaves (h i) (λ x r. many_shrinks (comma_turn_shrinks h) (x ∷ []) r)

-- ---- outcomes of both kinds

-- where the first part moves, the whole does
pub bind_moves : {A B : Type 0} {p : Parser A} {f : A → Parser B} (i : Tokens) → Moves p i
    → ((a : A) (r : Tokens) → p i ≡ Done a r → Leaves false (f a r) r) → Moves (p >>= f) i
bind_moves {A} {B} {p} {f} i first second = record { moves = go (p i) refl first.moves }
  where
    go : (o : Outcome A) → p i ≡ o → suc (length (rest_of o)) ≤ length i
        → suc (length (rest_of (and_then o f))) ≤ length i
    go (Done a m) e h = le_trans {m = suc (length m)} (suc-le-suc (second a m e).within) h
    go (Refused why m) e h = h

-- a token that is not the end is taken
pub take_moves : (i : Tokens) → next i ≢ End → Moves take_token i
take_moves i more =
    record { moves = (token_takes {a = head i} more).leaves (head i) (behind i) refl }
