-- What the place laws of every rule take for granted, and the steps and samples that they share.
use Rattle.std.proofs.Common.{◌≡◌, ◌≢◌, ℕ, ◌<◌, Bool, true, false, not, [], ◌∷◌, ◌++◌, if◌then◌else◌, refl, sym, ap, ◌∙◌, subst}
use Rattle.ja_base.specs.declared.ids.Place.{Place}
use Rattle.ja_lex.specs.declared.token.Token.{Token}
use Rattle.ja_syntax.specs.declared.symbol.Symbol.{Symbol}
use Rattle.ja_syntax.specs.declared.symbol.Symbol.TheVariants.{End, Colon}
use Rattle.ja_syntax.specs.Symbols.{same_symbol}
use Rattle.ja_grammar.specs.declared.fault.Refusal.{Refusal}
use Rattle.ja_grammar.specs.declared.fault.Refusal.TheVariants.{Unexpected, DeepLabel}
use Rattle.ja_grammar.specs.declared.part.ExpressionPart.{ExpressionPart}
use Rattle.ja_grammar.specs.Input.{Tokens, next, symbol, Done, Refused, Parser, and_then, ◌>>=◌, ◌>>◌, pure, refuse, take_token, enter, opening, expect, Rules, strict}
use Rattle.ja_grammar.specs.Language.{is_level, is_same}
use Rattle.ja_grammar.specs.Productions.{Is, HasRoom}
use Rattle.ja_grammar.specs.ReadExpression.{Below}
use Rattle.ja_grammar.proofs.Agree.{BelowTakes}
use Rattle.ja_grammar.proofs.Good.{Follow, Reason, Sample, GoodAt, Any, unexpected_stays, pure_good, refuse_good, bind_good, look_good}
use Rattle.ja_grammar.proofs.Levels.{Reasons, Ahead, BelowGood, BelowSamples, follow_of}
use Rattle.ja_grammar.proofs.Outcomes.{expect_done, enter_done, entered, same_symbol_true, same_symbol_is}
use Rattle.ja_grammar.proofs.Real.{IsRealAfter, covers_nothing, reals_more}
use Rattle.ja_grammar.proofs.Strict.{room_strict}
use Rattle.ja_grammar.proofs.Steps.{pure_sample, bind_sample, take_good, enter_good, expect_good}

-- The parts one level below: b with d levels left, by the rules of the language, and b' with more,
-- without the rule of O. Where no level is left, nothing is known of b: no part is read by it.
pub record Roomier {O : Refusal} (J : Reason O) (d : ℕ) (g' : Rules) (b b' : Below) : Type 0 where
  pub reasons : Reasons J
  pub takes : BelowTakes b
  pub takes_more : BelowTakes b'
  pub good : 0 < d → BelowGood J b b'
  pub ahead : 0 < d → Ahead b
  pub samples : BelowSamples b'
  pub some : (i : Tokens) → HasRoom g' i
  pub some_label : (place : Place) (i : Tokens) → g' (DeepLabel place) i ≡ false
  pub asks : (why : Refusal) → is_level why ≡ false → (i : Tokens) → g' why i ≡ not (is_same O why)

-- ---- samples

-- one token and a value
pub token_sample : {U : Tokens} {A : Type 0} {F : Follow} {W : A → Type 0} (k : Symbol) (t : Token)
    → Is k t → IsRealAfter U t → ((tail : Tokens) → F (t ∷ tail)) → (a : A) → W a
    → Sample U (expect k >> pure a) F Any W
token_sample k t is real starts a w =
    record {
      more = t ∷ [];
      value = a;
      real = (real, tt);
      fits = w;
      follows = λ tail _. starts tail;
      reads = λ tail _. ap (λ o. and_then o (λ _. pure a)) (expect_done k t tail is);
    }

-- one token, and the rest
pub expected_sample : {U : Tokens} {A : Type 0} {F G H : Follow} {W : A → Type 0}
    (f : Token → Parser A) (k : Symbol) (t : Token) → Is k t → IsRealAfter U t
    → ((tail : Tokens) → F (t ∷ tail))
    → Sample U (f t) G H W → Sample U (expect k >>= f) F H W
expected_sample f k t is real starts s = record {
  more = t ∷ s.more;
  value = s.value;
  real = (real, s.real);
  fits = s.fits;
  follows = λ tail _. starts (s.more ++ tail);
  reads =
      λ tail ends. ap (λ o. and_then o f) (expect_done k t (s.more ++ tail) is) ∙ s.reads tail ends;
}

-- anything may come first
pub any_first : {U : Tokens} {A : Type 0} {q : Parser A} {F G : Follow} {W : A → Type 0}
    → Sample U q F G W → Sample U q Any G W
any_first s =
    record {
      more = s.more;
      value = s.value;
      real = s.real;
      fits = s.fits;
      follows = λ tail _. tt;
      reads = s.reads;
    }

-- a part, and then a value
pub then_pure : {U : Tokens} {A B : Type 0} {q : Parser A} {F G : Follow} {W : A → Type 0}
    (f : A → B) → Sample U q F G W → Sample U (q >>= (λ a. pure (f a))) F G Any
then_pure f s = bind_sample s (λ a _. pure_sample (f a) tt)

-- ---- steps

module _ {O : Refusal} {J : Reason O} {d : ℕ} {g' : Rules} {b b' : Below}
    (h : Roomier J d g' b b') where
  -- what is known of the parts, once a token was entered
  pub lower : (i : Tokens) {t : Token} {r : Tokens} → enter (strict d) i ≡ Done t r
      → BelowGood J b b'
  lower i q = h.good (room_strict d i (entered (strict d) i q))

module _ {U : Tokens} {O : Refusal} {J : Reason O} {d : ℕ} {g' : Rules} {b b' : Below}
    (h : Roomier J d g' b b') where
  pub enters : (i : Tokens) → next i ≢ End → next i ≢ Colon
      → GoodAt U J (enter (strict d)) (enter g') Any Any i
  enters i more other = enter_good J Any Any d g' i h.some more (h.reasons.deep i more other) tt

  pub expects : (k : Symbol) (i : Tokens) → k ≢ End → GoodAt U J (expect k) (expect k) Any Any i
  expects k i more =
      expect_good J Any Any k i more (λ _. h.reasons.free Unexpected [] i refl) (λ _. tt)

  pub takes_one : (i : Tokens) → next i ≢ End → GoodAt U J take_token take_token Any Any i
  takes_one i more = take_good J Any Any i more tt

  pub unexpected : {A : Type 0} (F : Follow) (W : A → Type 0) (i : Tokens)
      → GoodAt U J (refuse {A = A} Unexpected) (refuse Unexpected) F W i
  unexpected F W i =
      refuse_good J F W Unexpected i (unexpected_stays O) (h.reasons.free Unexpected [] i refl)

  -- a token, and then a value
  pub takes_pure : {A : Type 0} {F : Follow} {W : A → Type 0} (a : A) → W a → (i : Tokens)
      → next i ≢ End → GoodAt U J (take_token >> pure a) (take_token >> pure a) F W i
  takes_pure {F = F} {W = W} a w i more =
      bind_good i h.reasons.closed (take_good J F Any i more tt) (λ t r _. pure_good J F W a r)
      (λ t _. pure_sample a w)

  -- a closing token, and then a value
  pub closes_pure : {A : Type 0} {F : Follow} {W : A → Type 0} (k : Symbol) (a : A) → W a
      → (i : Tokens) → k ≢ End → GoodAt U J (expect k >> pure a) (expect k >> pure a) F W i
  closes_pure {F = F} {W = W} k a w i more =
      bind_good i h.reasons.closed (expect_good J F Any k i more
      (λ _. h.reasons.free Unexpected [] i refl) (λ _. tt)) (λ t r _. pure_good J F W a r)
      (λ t _. pure_sample a w)

  -- an opening token
  pub opens : (k : Symbol) (i : Tokens) → k ≢ End → k ≢ Colon
      → GoodAt U J (opening (strict d) k) (opening g' k) Any Any i
  unfolding opening
  opens k i more other =
      look_good (λ t. by (strict d) (same_symbol (symbol t) k))
      (λ t. by g' (same_symbol (symbol t) k)) i (go (same_symbol (next i) k) refl)
    where
      by : Rules → Bool → Parser Token
      by n found = λ i. if found then enter n i else Refused Unexpected i

      go : (found : Bool) → same_symbol (next i) k ≡ found
          → GoodAt U J (by (strict d) (same_symbol (next i) k)) (by g' (same_symbol (next i) k)) Any
          Any i
      go true e =
          subst (λ found. GoodAt U J (by (strict d) found) (by g' found) Any Any i) (sym e)
          (enters i (λ ends. more (sym (same_symbol_true (next i) k e) ∙ ends))
          (λ colon. other (sym (same_symbol_true (next i) k e) ∙ colon)))
      go false e =
          subst (λ found. GoodAt U J (by (strict d) found) (by g' found) Any Any i) (sym e)
          (unexpected Any Any i)

  -- a sample of an opening token
  pub opens_sample : {A : Type 0} {F G H : Follow} {W : A → Type 0} (f : Token → Parser A)
      (k : Symbol) (t : Token) → Is k t → IsRealAfter U t → ((tail : Tokens) → F (t ∷ tail))
      → Sample U (f t) G H W → Sample U (opening g' k >>= f) F H W
  unfolding opening
  opens_sample f k t is real starts s = record {
    more = t ∷ s.more;
    value = s.value;
    real = (real, s.real);
    fits = s.fits;
    follows = λ tail _. starts (s.more ++ tail);
    reads =
        λ tail ends. ap (λ found. and_then (if found then enter g' (t ∷ (s.more ++ tail))
        else Refused Unexpected (t ∷ (s.more ++ tail))) f) (same_symbol_is (symbol t) k is)
        ∙ ap (λ o. and_then o f) (enter_done g' t (s.more ++ tail) (h.some (t ∷ (s.more ++ tail))))
        ∙ s.reads tail ends;
  }

  -- a part one level below
  pub below_sample : (p : ExpressionPart) → Sample U (b'.expression p) Any (follow_of p) Any
  below_sample p = let s = h.samples.expression p in
      record {
        more = s.0;
        value = s.1;
        real = reals_more [] U (covers_nothing U) s.0 s.2;
        fits = tt;
        follows = λ tail _. tt;
        reads = s.3;
      }
