-- What is read as a member or call doesn't depend on the next token, as long as that goes on with
-- no member or call (11.2).
use Rattle.std.proofs.Common.{◌≡◌, ◌≢◌, ℕ, zero, suc, ◌≤◌, ◌<◌, Bool, true, false, not, List, [], ◌∷◌, ◌++◌, length, Option, Some, None, refl, sym, ap, ◌∙◌, subst, append_assoc, le_refl, arith}
use Rattle.ja_base.specs.declared.ids.Place.{Place}
use Rattle.ja_lex.specs.declared.token.Token.{Token}
use Rattle.ja_prim.specs.declared.primitive.Primitive.{Primitive}
use Rattle.ja_syntax.specs.declared.symbol.Symbol.{Symbol}
use Rattle.ja_syntax.specs.declared.symbol.Symbol.TheVariants as k
use Rattle.ja_syntax.specs.declared.tree.Expression.{Expression}
use Rattle.ja_syntax.specs.declared.tree.Expression.TheVariants as e
use Rattle.ja_syntax.specs.declared.tree.Suffix.TheVariants as suffix
use Rattle.ja_syntax.specs.Symbols.{same_symbol}
use Rattle.ja_grammar.specs.declared.fault.Refusal.{Refusal}
use Rattle.ja_grammar.specs.declared.fault.Refusal.TheVariants.{Unexpected, RegExp}
use Rattle.ja_grammar.specs.declared.part.ExpressionPart.TheVariants as part
use Rattle.ja_grammar.specs.declared.part.StatementPart.TheVariants as of_statement
use Rattle.ja_grammar.specs.Contexts.{function_context}
use Rattle.ja_grammar.specs.Forms.{name_of, literal_of, begins_property, begins_suffix, chained}
use Rattle.ja_grammar.specs.Input.{Tokens, head, next, symbol, Done, Parser, and_then, ◌>>=◌, ◌>>◌, pure, refuse, look, Rules, strict, unless, take_token, enter, expect, after_turn, many, until_by, until, listed_by, listed}
use Rattle.ja_grammar.specs.Language.{is_level}
use Rattle.ja_grammar.specs.Productions.{At}
use Rattle.ja_grammar.specs.ReadExpression.{Below, is_close_brace, is_close_bracket, element, property, function_body, function, array, object, parenthesized, literal, literal_by, primary, primary_by, chain_head, head_by, dotted, indexed, property_suffix, property_suffix_by, arguments, any_suffix, any_suffix_by, member, created, created_by, left_hand}
use Rattle.ja_grammar.proofs.ChainGood.{chain_head_good, member_good}
use Rattle.ja_grammar.proofs.Closing.{end_no_property, end_no_suffix, brace_closes, parenthesis_closes, literal_more}
use Rattle.ja_grammar.proofs.Ends.{split_one}
use Rattle.ja_grammar.proofs.ExpressionTakes.{element_takes, property_takes, chain_head_takes, property_suffix_takes, any_suffix_takes}
use Rattle.ja_grammar.proofs.Good.{Follow, Reason, Sample, GoodAt, Any, Closed, weaken_good}
use Rattle.ja_grammar.proofs.Levels.{EndsExpression}
use Rattle.ja_grammar.proofs.Lists.{separated_good}
use Rattle.ja_grammar.proofs.LiteralGood.{brace_ends_statement, function_name_good, parameters_good, element_good, property_good, property_sample}
use Rattle.ja_grammar.proofs.Opening.{opening_inverse}
use Rattle.ja_grammar.proofs.Outcomes.{same_done, done_value, done_rest, refused_not_done, cons_of, same_symbol_true, bind_inverse, then_is, expect_inverse, expect_done, unless_inverse, enter_inverse, enter_done, entered}
use Rattle.ja_grammar.proofs.Roomier.{Roomier, enters, lower, expects, takes_one, opens, below_sample}
use Rattle.ja_grammar.proofs.Shrinks.{Leaves, Takes}
use Rattle.ja_grammar.proofs.Strict.{strict_room, room_strict, strict_never}
use Rattle.ja_grammar.proofs.Turns.{many_once}
use Rattle.ja_grammar.proofs.Until.{until_turn, until_turns, until_ends, until_goes, until_good}

-- ---- what is said

-- `p` took a token last: it reads the same, whatever follows
pub record Seals {A : Type 0} (p : Parser A) (i : Tokens) (a : A) (r : Tokens) : Type 0 where
  pub first : Token
  pub more : Tokens
  pub split : i ≡ first ∷ (more ++ r)
  pub same : (x : Tokens) → p (first ∷ (more ++ x)) ≡ Done a x

-- it does so with each value
pub record SealedAt {A : Type 0} (p : Parser A) (i : Tokens) : Type 0 where
  pub seals : (a : A) (r : Tokens) → p i ≡ Done a r → Seals p i a r

-- `p` reads the same, whatever follows of which F holds
pub record Keeps {A : Type 0} (F : Follow) (p : Parser A) (i : Tokens) (a : A) (r : Tokens) : Type
    0 where
  pub before : Tokens
  pub split : i ≡ before ++ r
  pub same : (x : Tokens) → F x → p (before ++ x) ≡ Done a x

-- it does so with each value behind which F holds
pub record KeptAt {A : Type 0} (F : Follow) (p : Parser A) (i : Tokens) : Type 0 where
  pub keeps : (a : A) (r : Tokens) → p i ≡ Done a r → F r → Keeps F p i a r

-- ---- steps

-- a refusal gives no value
refuse_sealed : {A : Type 0} (why : Refusal) (i : Tokens) → SealedAt (refuse {A = A} why) i
refuse_sealed why i = record { seals = λ a r e. absurd (refused_not_done e) }

-- a token that is not the end is taken
take_sealed : (i : Tokens) → next i ≢ k.End → SealedAt take_token i
take_sealed i more =
    record {
      seals = λ t r e. same_done (λ t r. Seals take_token i t r) e
          (record { first = head i; more = []; split = cons_of i more; same = λ x. refl });
    }

-- what is expected is taken
expect_sealed : (κ : Symbol) (i : Tokens) → κ ≢ k.End → SealedAt (expect κ) i
expect_sealed κ i more =
    record {
      seals = λ t r e. let s = expect_inverse κ i more e in
          record { first = t; more = []; split = s.0; same = λ x. expect_done κ t x s.1 };
    }

-- a token that counts is taken
enter_sealed : (d : ℕ) (i : Tokens) → next i ≢ k.End → SealedAt (enter (strict d)) i
enter_sealed d i more = record {
  seals = λ t r e.
      let s = enter_inverse (strict d) i more e in
      record {
        first = t;
        more = [];
        split = s.1;
        same = λ x. enter_done (strict d) t x (strict_room d (t ∷ x) (room_strict d i s.0));
      };
}

-- by the next token
look_sealed : {A : Type 0} (f : Token → Parser A) (i : Tokens) → SealedAt (f (head i)) i
    → SealedAt (look f) i
look_sealed f i h = record {
  seals = λ a r e.
      let s = h.seals a r e in
      record {
        first = s.first;
        more = s.more;
        split = s.split;
        same = λ x. ap (λ t. f t (s.first ∷ (s.more ++ x))) (sym (ap head s.split)) ∙ s.same x;
      };
}

-- a value at the end
pure_sealed : {A B : Type 0} {p : Parser A} (f : A → B) (i : Tokens) → SealedAt p i
    → SealedAt (p >>= (λ a. pure (f a))) i
pure_sealed {p = p} f i h = record {
  seals = λ b r e.
      let s = bind_inverse p (λ a. pure (f a)) i e in
      let t = h.seals s.0 s.1 s.2 in
      same_done (λ b r. Seals (p >>= (λ a. pure (f a))) i b r) s.3
      (record {
        first = t.first;
        more = t.more;
        split = t.split;
        same = λ x. ap (λ o. and_then o (λ a. pure (f a))) (t.same x);
      });
}

-- tokens, and at least one behind them
behind_seals : {A : Type 0} {p : Parser A} {i r : Tokens} {a : A} (v : Tokens) (t : Token)
    (w : Tokens) → i ≡ v ++ (t ∷ (w ++ r)) → ((x : Tokens) → p (v ++ (t ∷ (w ++ x))) ≡ Done a x)
    → Seals p i a r
behind_seals [] t w split same = record { first = t; more = w; split = split; same = same }
behind_seals {p = p} {r = r} (u ∷ v) t w split same = record {
  first = u;
  more = v ++ (t ∷ w);
  split = split ∙ ap (λ x. u ∷ x) (sym (append_assoc v (t ∷ w) r));
  same = λ x. ap (λ y. p (u ∷ y)) (append_assoc v (t ∷ w) x) ∙ same x;
}

-- One after the other: the next token of the first part is the first that the second takes.
bind_sealed : {O : Refusal} {J : Reason O} {A B : Type 0} {p q : Parser A} {f : A → Parser B}
    {F : Follow} {V : A → Type 0} (i : Tokens)
    → GoodAt [] J p q F V i → ((a : A) (r : Tokens) → p i ≡ Done a r → SealedAt (f a) r)
    → SealedAt (p >>= f) i
bind_sealed {p = p} {f = f} i first second = record {
  seals = λ b r e.
      let s = bind_inverse p f i e in
      let u = first.done s.0 s.1 s.2 in
      let v = (second s.0 s.1 s.2).seals b r s.3 in
      behind_seals u.before v.first v.more (u.split ∙ ap (λ x. u.before ++ x) v.split)
      (λ x. ap (λ o. and_then o f) (u.local (v.first ∷ (v.more ++ x)) (ap head v.split))
      ∙ v.same x);
}

-- what is read the same whatever follows
sealed_kept : {A : Type 0} {F : Follow} {p : Parser A} {i : Tokens} → SealedAt p i → KeptAt F p i
sealed_kept h =
    record {
      keeps = λ a r e _. let s = h.seals a r e in
          record { before = s.first ∷ s.more; split = s.split; same = λ x _. s.same x };
    }

-- a value at the end
then_kept : {A B : Type 0} {F : Follow} {p : Parser A} (f : A → B) (i : Tokens) → KeptAt F p i
    → KeptAt F (p >>= (λ a. pure (f a))) i
then_kept {F = F} {p = p} f i h = record {
  keeps = λ b r e ends.
      let s = bind_inverse p (λ a. pure (f a)) i e in
      let t = h.keeps s.0 s.1 s.2 (subst F (sym (done_rest s.3)) ends) in
      same_done (λ b r. Keeps F (p >>= (λ a. pure (f a))) i b r) s.3
      (record {
        before = t.before;
        split = t.split;
        same = λ x g. ap (λ o. and_then o (λ a. pure (f a))) (t.same x g);
      });
}

-- by the next token, of what takes one
look_kept : {A : Type 0} {F : Follow} (f : Token → Parser A) (i : Tokens) → KeptAt F (f (head i)) i
    → Leaves true (f (head i) i) i → KeptAt F (look f) i
look_kept {A} {F} f i h takes =
    record {
      keeps = λ a r e ends. let s = h.keeps a r e ends in
          go a r (takes.leaves a r e) s.before s.split s.same;
    }
  where
    go : (a : A) (r : Tokens) → suc (length r) ≤ length i → (w : Tokens) → i ≡ w ++ r
        → ((x : Tokens) → F x → f (head i) (w ++ x) ≡ Done a x) → Keeps F (look f) i a r
    go a r fewer [] split same = absurd (let n = ap length split in omega (arith, fewer, n))
    go a r fewer (t ∷ w) split same =
        record {
          before = t ∷ w;
          split = split;
          same = λ x g. ap (λ u. f u (t ∷ (w ++ x))) (sym (ap head split)) ∙ same x g;
        }

-- One after the other: the second part takes a token, or F holds behind the first.
bind_kept : {O : Refusal} {J : Reason O} {A B : Type 0} {p q : Parser A} {f : A → Parser B}
    {F G : Follow} {V : A → Type 0} (i : Tokens)
    → GoodAt [] J p q G V i → KeptAt F p i → ((a : A) (r : Tokens) → p i ≡ Done a r
    → KeptAt F (f a) r) → KeptAt F (p >>= f) i
bind_kept {A = A} {B = B} {p = p} {f = f} {F = F} i first kept second = record {
  keeps = λ b r e ends.
      let s = bind_inverse p f i e in
      let v = (second s.0 s.1 s.2).keeps b r s.3 ends in
      go s.0 s.1 b r s.2 ends v.before v.split v.same;
}
  where
    go : (a : A) (m : Tokens) (b : B) (r : Tokens) → p i ≡ Done a m → F r → (w : Tokens)
        → m ≡ w ++ r → ((x : Tokens) → F x → f a (w ++ x) ≡ Done b x) → Keeps F (p >>= f) i b r
    go a m b r e ends [] split same =
        let u = kept.keeps a m e (subst F (sym split) ends) in
        record {
          before = u.before;
          split = u.split ∙ ap (λ x. u.before ++ x) split;
          same = λ x h. ap (λ o. and_then o f) (u.same x h) ∙ same x h;
        }
    go a m b r e ends (t ∷ w) split same =
        let u = first.done a m e in
        record {
          before = u.before ++ (t ∷ w);
          split = u.split ∙ ap (λ x. u.before ++ x) split ∙ sym (append_assoc u.before (t ∷ w) r);
          same =
              λ x h. ap (p >>= f) (append_assoc u.before (t ∷ w) x)
              ∙ ap (λ o. and_then o f) (u.local (t ∷ (w ++ x)) (ap head split)) ∙ same x h;
        }

-- ---- lists

-- a list with its closing token
listed_sealed : {A : Type 0} {F : Follow} {W : A → Type 0} {O : Refusal} {J : Reason O}
    (close : Symbol) (item next_item : Parser A) → close ≢ k.End → close ≢ k.Comma → Closed J
    → Takes item → Takes next_item
    → ((i : Tokens) → GoodAt [] J item next_item F W i)
    → Sample [] next_item Any F W
    → ((tail : Tokens) → next tail ≡ close → F tail)
    → (i : Tokens) → SealedAt (listed close item) i
unfolding listed
listed_sealed {A} {J = J} close item next_item more other closed takes takes' good sample follows
    i = look_sealed (λ t. listed_by close item (same_symbol (symbol t) close)) i
    (go (same_symbol (next i) close) refl)
  where
    Closes : Follow
    Closes tail = next tail ≡ close

    go : (found : Bool) → same_symbol (next i) close ≡ found
        → SealedAt (listed_by close item found) i
    go true e =
        pure_sealed (λ _. []) i (take_sealed i
        (λ ends. more (sym (same_symbol_true (next i) close e) ∙ ends)))
    go false e =
        bind_sealed {J = J} i (separated_good {G = Closes} item next_item closed takes takes' good
        sample follows (λ tail h comma. other (sym h ∙ comma)) i)
        (λ xs r _. pure_sealed (λ _. xs) r (expect_sealed close r more))

-- items up to a symbol, where F holds before it: each of them takes a token last
until_kept : {A : Type 0} {F : Follow} (ends : Symbol → Bool) (item : Parser A) → ends k.End ≡ true
    → Takes item → ((i : Tokens) → SealedAt item i) → ((x : Tokens) → F x → ends (next x) ≡ true)
    → (found : List A) (i : Tokens) → KeptAt F (many (until_turn ends item) found) i
until_kept {A} {F} ends item last takes sealed stops found i =
    by (length i) found i (le_refl (length i))
  where
    all : List A → Parser (List A)
    all found = many (until_turn ends item) found

    -- an item, and the list behind it
    goes : (found : List A) (i : Tokens) {x : A} {m : Tokens} {xs : List A} {r : Tokens}
        → ends (next i) ≡ false → Seals item i x m → Keeps F (all (found ++ x ∷ [])) m xs r
        → Keeps F (all found) i xs r
    goes found i {x = x} {m = m} {r = r} at u v =
        record { before = before; split = split; same = λ y h. goes_on y ∙ v.same y h }
      where
        before : Tokens
        before = u.first ∷ (u.more ++ v.before)

        split : i ≡ before ++ r
        split =
            u.split ∙ ap (λ y. u.first ∷ y) (ap (λ y. u.more ++ y) v.split
            ∙ sym (append_assoc u.more v.before r))

        goes_on : (y : Tokens) → all found (before ++ y) ≡ all (found ++ x ∷ []) (v.before ++ y)
        goes_on y =
            until_goes ends item last takes found (before ++ y) (v.before ++ y) x
            (ap (λ t. ends (symbol t)) (sym (ap head u.split)) ∙ at)
            (ap (λ z. item (u.first ∷ z)) (append_assoc u.more v.before y) ∙ u.same (v.before ++ y))

    ended : (found : List A) (i : Tokens) → Keeps F (all found) i found i
    ended found i =
        record { before = []; split = refl; same = λ x h. until_ends ends item found x (stops x h) }

    turned : (found : List A) (i : Tokens) → ((ys : List A) (m : Tokens) → suc (length m) ≤ length i
        → KeptAt F (all ys) m) → KeptAt F (all found) i
    turned found i again = record { keeps = λ xs r e f. go xs r e f (ends (next i)) refl }
      where
        go : (xs : List A) (r : Tokens) → all found i ≡ Done xs r → F r → (b : Bool)
            → ends (next i) ≡ b → Keeps F (all found) i xs r
        go xs r e f true at =
            same_done (λ xs r. Keeps F (all found) i xs r)
            (sym (until_ends ends item found i at) ∙ e) (ended found i)
        go xs r e f false at =
            then_is (until_turn ends item found) (after_turn found all) i
            (sym (many_once (until_turn ends item) (until_turns ends item last takes) found i)
            ∙ e) (λ o n q _.
            then_is item (λ x. pure (Some (found ++ x ∷ []))) i
            (sym (ap (λ b. until_by item found b i) at) ∙ q) (λ x m q _.
            goes found i at ((sealed i).seals x m q)
            ((again (found ++ x ∷ []) m ((takes i).leaves x m q)).keeps xs r
            (sym (until_goes ends item last takes found i m x at q) ∙ e) f)))

    by : (n : ℕ) (found : List A) (i : Tokens) → length i ≤ n → KeptAt F (all found) i
    by zero found i few = turned found i (λ ys m fewer. absurd (omega (arith, few, fewer)))
    by (suc n) found i few = turned found i (λ ys m fewer. by n ys m (omega (arith, few, fewer)))

-- ---- what a part ends by

-- what goes on with no member or call
abbrev NoSuffix : Follow
NoSuffix r = begins_suffix (next r) ≡ false

no_property : (κ : Symbol) → begins_suffix κ ≡ false → begins_property κ ≡ false
unfolding begins_suffix begins_property
no_property k.Dot h = h
no_property k.OpenBracket h = h
no_property _ h = refl

no_arguments : begins_suffix k.OpenParenthesis ≡ false → ⊥
unfolding begins_suffix
no_arguments h = cc h

-- a closing token, and then a value
closes_sealed : {A : Type 0} (κ : Symbol) (a : A) (i : Tokens) → κ ≢ k.End
    → SealedAt (expect κ >> pure a) i
closes_sealed κ a i more = pure_sealed (λ _. a) i (expect_sealed κ i more)

-- the next token, and then a value
takes_sealed : {A : Type 0} (a : A) (i : Tokens) → next i ≢ k.End
    → SealedAt (take_token >> pure a) i
takes_sealed a i more = pure_sealed (λ _. a) i (take_sealed i more)

-- a rule that is always asked gives no value
unless_sealed : {A : Type 0} (d : ℕ) (why : Refusal) (p : Parser A) (i : Tokens)
    → is_level why ≡ false → SealedAt (unless (strict d) why p) i
unless_sealed d why p i level =
    record {
      seals = λ a r e. absurd (strict_never d why i level
          (unless_inverse (strict d) why p i e).0);
    }

module _ {O : Refusal} {J : Reason O} {d : ℕ} {g' : Rules} {b b' : Below}
    (h : Roomier J d g' b b') where
  -- a level is left behind a token that was entered
  room : (i : Tokens) {t : Token} {r : Tokens} → enter (strict d) i ≡ Done t r → 0 < d
  room i q = room_strict d i (entered (strict d) i q)

  -- ---- functions, array and object literals

  function_body_sealed : (i : Tokens) → SealedAt (function_body (strict d) b) i
  unfolding function_body
  function_body_sealed i = bind_sealed i (opens h k.OpenBrace i (λ e. cc e) (λ e. cc e))
      (λ t r q. bind_sealed r (statements (room_strict d i
      (opening_inverse (strict d) k.OpenBrace i (λ e. cc e) q).0) r)
      (λ body m _. closes_sealed k.CloseBrace body m (λ e. cc e)))
    where
      statements : 0 < d → (r : Tokens) → GoodAt [] J
          (until is_close_brace (b.statement function_context (of_statement.Whole 0 true)))
          (until is_close_brace (b'.statement function_context (of_statement.Whole 0 true)))
          (At k.CloseBrace) Any r
      statements some r =
          until_good is_close_brace (b.statement function_context (of_statement.Whole 0 true))
          (b'.statement function_context (of_statement.Whole 0 true)) h.reasons.closed refl
          (h.takes.statement function_context (of_statement.Whole 0 true))
          (h.takes_more.statement function_context (of_statement.Whole 0 true))
          (λ i _. weaken_good i brace_ends_statement (λ x w. w) (λ why w r j. j)
          ((h.good some).statement [] function_context (record { all = tt })
          (of_statement.Whole 0 true) i)) (λ tail at. ap is_close_brace at) r

  function_sealed : (required : Bool) (i : Tokens) → SealedAt (function (strict d) b required) i
  unfolding function
  function_sealed required i = bind_sealed i (expects h k.Function i (λ e. cc e))
      (λ t r _. bind_sealed r (function_name_good h required r)
      (λ x m _. bind_sealed m (parameters_good h m)
      (λ xs n _. pure_sealed (λ body. record {
        name = x;
        parameters = xs;
        body = body;
        place = t.place;
      }) n (function_body_sealed n))))

  array_sealed : (i : Tokens) → next i ≢ k.End → next i ≢ k.Colon → SealedAt (array (strict d) b) i
  unfolding array
  array_sealed i more other = bind_sealed i (enters h i more other)
      (λ t r q. bind_sealed r
      (until_good is_close_bracket (element (strict d) b) (element g' b') h.reasons.closed refl
      (element_takes (strict d) h.takes) (element_takes g' h.takes_more)
      (λ j _. element_good h (room i q) j) (λ tail at. ap is_close_bracket at) r)
      (λ xs m _. closes_sealed k.CloseBracket (e.Array xs t.place) m (λ e. cc e)))

  object_sealed : (i : Tokens) → next i ≢ k.End → next i ≢ k.Colon
      → SealedAt (object (strict d) b) i
  unfolding object
  object_sealed i more other = bind_sealed i (enters h i more other)
      (λ t r q. pure_sealed (λ xs. e.Object xs t.place) r
      (listed_sealed {F = EndsExpression} {J = J} k.CloseBrace (property (strict d) b)
      (property g' b') (λ e. cc e) (λ e. cc e) h.reasons.closed
      (property_takes (strict d) h.takes) (property_takes g' h.takes_more)
      (property_good h (room i q)) (property_sample h) (λ tail at. brace_closes (next tail) at) r))

  -- ---- primary expressions

  parenthesized_sealed : (i : Tokens) → next i ≢ k.End → next i ≢ k.Colon
      → SealedAt (parenthesized (strict d) b) i
  unfolding parenthesized
  parenthesized_sealed i more other = bind_sealed i (enters h i more other)
      (λ t r q. bind_sealed r ((lower h i q).expression [] (part.Whole false) r)
      (λ x m _. closes_sealed k.CloseParenthesis x m (λ e. cc e)))

  literal_sealed : (i : Tokens) → SealedAt (literal (strict d) b) i
  unfolding literal
  literal_sealed i =
      look_sealed (λ t. literal_by (strict d) b t (literal_of t)) i (go (literal_of (head i)) refl)
    where
      go : (found : Option Primitive) → literal_of (head i) ≡ found
          → SealedAt (literal_by (strict d) b (head i) found) i
      go None is = refuse_sealed Unexpected i
      go (Some v) is = takes_sealed (e.Literal v (head i).place) i (literal_more (head i) v is)

  primary_sealed : (i : Tokens) → SealedAt (primary (strict d) b) i
  unfolding primary
  primary_sealed i = look_sealed (λ t. primary_by (strict d) b t (symbol t)) i (go (next i) refl)
    where
      go : (κ : Symbol) → next i ≡ κ → SealedAt (primary_by (strict d) b (head i) κ) i
      go k.This is = takes_sealed (e.This (head i).place) i (λ ends. cc (is, ends))
      go k.Name is = takes_sealed (e.Name (name_of (head i))) i (λ ends. cc (is, ends))
      go k.OpenBracket is = array_sealed i (λ ends. cc (is, ends)) (λ other. cc (is, other))
      go k.OpenBrace is = object_sealed i (λ ends. cc (is, ends)) (λ other. cc (is, other))
      go k.OpenParenthesis is =
          parenthesized_sealed i (λ ends. cc (is, ends)) (λ other. cc (is, other))
      go k.Function is = pure_sealed (λ f. e.Function f) i (function_sealed false i)
      go k.Divide is = unless_sealed d RegExp (take_token >> pure (e.This (head i).place)) i refl
      go k.DivideAssign is =
          unless_sealed d RegExp (take_token >> pure (e.This (head i).place)) i refl
      go _ is = literal_sealed i

  -- ---- suffixes

  dotted_sealed : (i : Tokens) → next i ≢ k.End → SealedAt (dotted (strict d) b) i
  unfolding dotted
  dotted_sealed i more =
      bind_sealed i (takes_one h i more) (λ t r _.
      pure_sealed (λ u. suffix.Member (name_of u) t.place) r (expect_sealed k.Name r (λ e. cc e)))

  indexed_sealed : (i : Tokens) → next i ≢ k.End → next i ≢ k.Colon
      → SealedAt (indexed (strict d) b) i
  unfolding indexed
  indexed_sealed i more other = bind_sealed i (enters h i more other)
      (λ t r q. bind_sealed r ((lower h i q).expression [] (part.Whole false) r)
      (λ x m _. closes_sealed k.CloseBracket (suffix.Index x t.place) m (λ e. cc e)))

  property_suffix_sealed : (i : Tokens) → SealedAt (property_suffix (strict d) b) i
  unfolding property_suffix
  property_suffix_sealed i =
      look_sealed (λ t. property_suffix_by (strict d) b (symbol t)) i (go (next i) refl)
    where
      go : (κ : Symbol) → next i ≡ κ → SealedAt (property_suffix_by (strict d) b κ) i
      go k.Dot is = dotted_sealed i (λ ends. cc (is, ends))
      go k.OpenBracket is = indexed_sealed i (λ ends. cc (is, ends)) (λ other. cc (is, other))
      go _ is = refuse_sealed Unexpected i

  arguments_sealed : (i : Tokens) → next i ≢ k.End → next i ≢ k.Colon
      → SealedAt (arguments (strict d) b) i
  unfolding arguments
  arguments_sealed i more other = bind_sealed i (enters h i more other)
      (λ t r q. listed_sealed {F = EndsExpression} {J = J} k.CloseParenthesis
      (b.expression (part.Assignment false)) (b'.expression (part.Assignment false)) (λ e. cc e)
      (λ e. cc e) h.reasons.closed
      (h.takes.expression (part.Assignment false)) (h.takes_more.expression (part.Assignment false))
      ((lower h i q).expression [] (part.Assignment false)) (below_sample h (part.Assignment false))
      (λ tail at. parenthesis_closes (next tail) at) r)

  any_suffix_sealed : (i : Tokens) → SealedAt (any_suffix (strict d) b) i
  unfolding any_suffix
  any_suffix_sealed i =
      look_sealed (λ t. any_suffix_by (strict d) b t (symbol t)) i (go (next i) refl)
    where
      go : (κ : Symbol) → next i ≡ κ → SealedAt (any_suffix_by (strict d) b (head i) κ) i
      go k.OpenParenthesis is =
          pure_sealed (λ xs. suffix.Call xs (head i).place) i
          (arguments_sealed i (λ ends. cc (is, ends)) (λ other. cc (is, other)))
      go _ is = property_suffix_sealed i

  -- ---- chains

  -- what stands behind `new`
  created_below : (some : 0 < d) (place : Place) (i : Tokens)
      → KeptAt NoSuffix (b.expression (part.Created place)) i
  created_below some place i = record {
    keeps = λ v m e ends.
        let s = ((h.good some).expression [] (part.Created place) i).done v m e in
        record {
          before = s.before;
          split = s.split;
          same = λ x f. (h.ahead some).created place s.before m x v ends f
              (sym (ap (b.expression (part.Created place)) s.split) ∙ e);
        };
  }

  chain_head_kept : (i : Tokens) → KeptAt NoSuffix (chain_head (strict d) b) i
  unfolding chain_head
  chain_head_kept i =
      look_kept (λ t. head_by (strict d) b t (symbol t)) i (go (next i) refl)
      (chain_head_takes (strict d) h.takes i)
    where
      go : (κ : Symbol) → next i ≡ κ → KeptAt NoSuffix (head_by (strict d) b (head i) κ) i
      go k.New is =
          bind_kept i (enters h i (λ ends. cc (is, ends)) (λ other. cc (is, other)))
          (sealed_kept (enter_sealed d i (λ ends. cc (is, ends))))
          (λ t r q. created_below (room i q) (head i).place r)
      go _ is = sealed_kept (primary_sealed i)

  members_kept : (i : Tokens) → KeptAt NoSuffix
      (until (λ found. not (begins_property found)) (property_suffix (strict d) b)) i
  unfolding until
  members_kept i =
      until_kept (λ found. not (begins_property found)) (property_suffix (strict d) b)
      end_no_property (property_suffix_takes (strict d) h.takes) property_suffix_sealed
      (λ x ends. ap not (no_property (next x) ends)) [] i

  suffixes_kept : (i : Tokens) → KeptAt NoSuffix
      (until (λ found. not (begins_suffix found)) (any_suffix (strict d) b)) i
  unfolding until
  suffixes_kept i =
      until_kept (λ found. not (begins_suffix found)) (any_suffix (strict d) b) end_no_suffix
      (any_suffix_takes (strict d) h.takes) any_suffix_sealed (λ x ends. ap not ends) [] i

  member_kept : (i : Tokens) → KeptAt NoSuffix (member (strict d) b) i
  unfolding member
  member_kept i =
      bind_kept i (chain_head_good h i) (chain_head_kept i)
      (λ x r _. then_kept (chained x) r (members_kept r))

  created_kept : (place : Place) (i : Tokens) → KeptAt NoSuffix (created (strict d) b place) i
  unfolding created
  created_kept place i = bind_kept i (member_good h i) (member_kept i) (λ x r _. behind x r)
    where
      by : Expression → Token → Parser Expression
      by x t = created_by (strict d) b place x (symbol t)

      alone : (x : Expression) (κ : Symbol) → begins_suffix κ ≡ false
          → created_by (strict d) b place x κ ≡ pure (e.New x [] place)
      alone x k.OpenParenthesis ends = absurd (no_arguments ends)
      alone x _ ends = refl

      called : (x : Expression) (i : Tokens) → next i ≡ k.OpenParenthesis → SealedAt (look (by x)) i
      called x i is =
          look_sealed (by x) i (subst (λ κ. SealedAt (created_by (strict d) b place x κ) i) (sym is)
          (pure_sealed (λ xs. e.New x xs place) i
          (arguments_sealed i (λ ends. cc (is, ends)) (λ other. cc (is, other)))))

      behind : (x : Expression) (i : Tokens) → KeptAt NoSuffix (look (by x)) i
      behind x i = record { keeps = go (next i) refl }
        where
          go : (κ : Symbol) → next i ≡ κ → (v : Expression) (r : Tokens)
              → created_by (strict d) b place x (next i) i ≡ Done v r → NoSuffix r
              → Keeps NoSuffix (look (by x)) i v r
          go k.OpenParenthesis is v r e ends = (sealed_kept (called x i is)).keeps v r e ends
          go _ is v r e ends =
              let t = sym (ap (λ κ. created_by (strict d) b place x κ i) is) ∙ e in
              record {
                before = [];
                split = done_rest t;
                same = λ y f. ap (λ p. p y) (alone x (next y) f)
                    ∙ ap (λ a. Done a y) (done_value t);
              }

  left_hand_kept : (i : Tokens) → KeptAt NoSuffix (left_hand (strict d) b) i
  unfolding left_hand
  left_hand_kept i =
      bind_kept i (chain_head_good h i) (chain_head_kept i)
      (λ x r _. then_kept (chained x) r (suffixes_kept r))

  -- ---- the laws

  -- the tokens before the same rest
  ahead : {p : Parser Expression} (w m x : Tokens) (v : Expression) → KeptAt NoSuffix p (w ++ m)
      → NoSuffix m → NoSuffix x → p (w ++ m) ≡ Done v m → p (w ++ x) ≡ Done v x
  ahead {p = p} w m x v h ends ends' e = let s = h.keeps v m e ends in
      subst (λ y. p (y ++ x) ≡ Done v x) (split_one s.before w m s.split refl) (s.same x ends')

  pub left_hand_ahead : (w m x : Tokens) (v : Expression) → begins_suffix (next m) ≡ false
      → begins_suffix (next x) ≡ false
      → left_hand (strict d) b (w ++ m) ≡ Done v m → left_hand (strict d) b (w ++ x) ≡ Done v x
  left_hand_ahead w m x v ends ends' e = ahead w m x v (left_hand_kept (w ++ m)) ends ends' e

  -- behind `new`
  pub created_ahead : (place : Place) (w m x : Tokens) (v : Expression)
      → begins_suffix (next m) ≡ false → begins_suffix (next x) ≡ false
      → created (strict d) b place (w ++ m) ≡ Done v m
      → created (strict d) b place (w ++ x) ≡ Done v x
  created_ahead place w m x v ends ends' e =
      ahead w m x v (created_kept place (w ++ m)) ends ends' e
