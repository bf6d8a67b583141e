-- Outcomes, tokens, and the steps that every rule is made of: what they give, and what must have
-- been there.
use Rattle.std.proofs.Common.{◌≡◌, ◌≢◌, Bool, true, false, [], ◌∷◌, ◌++◌, Option, Some, None, if◌then◌else◌, refl, sym, ap, ◌∙◌, subst}
use denote.Enum.Bare.{same_true, same_false, true_same}
use Rattle.ja_lex.specs.declared.token.Token.{Token}
use Rattle.ja_syntax.specs.contracts.symbol.Symbol.{the_type}
use Rattle.ja_syntax.specs.declared.symbol.Symbol.{Symbol}
use Rattle.ja_syntax.specs.declared.symbol.Symbol.TheVariants.{Comma, End}
use Rattle.ja_syntax.specs.Symbols.{symbol_of, same_symbol}
use Rattle.ja_grammar.specs.declared.fault.Refusal.{Refusal}
use Rattle.ja_grammar.specs.declared.fault.Refusal.TheVariants.{Unexpected, Deep}
use Rattle.ja_grammar.specs.Input.{Tokens, head, next, behind, symbol, Outcome, Done, Refused, Parser, and_then, ◌>>=◌, refuse, Rules, unless, take_token, enter, expect}
use Rattle.ja_grammar.specs.Productions.{Is, HasRoom}

-- ---- about outcomes and tokens

abbrev Says : {A : Type 0} → (A → Tokens → Type 0) → Outcome A → Type 0
Says P (Done a i) = P a i
Says P (Refused why i) = ⊥

abbrev SaysNo : {A : Type 0} → (Refusal → Tokens → Type 0) → Outcome A → Type 0
SaysNo P (Done a i) = ⊥
SaysNo P (Refused why i) = P why i

-- what holds of one value and its rest holds of the other
pub same_done : {A : Type 0} {a b : A} {i j : Tokens} (P : A → Tokens → Type 0)
    → Done a i ≡ Done b j → P a i → P b j
same_done P e h = subst (Says P) e h

-- what holds of one refusal and its rest holds of the other
pub same_refused : {A : Type 0} {v w : Refusal} {i j : Tokens} (P : Refusal → Tokens → Type 0)
    → refuse {A = A} v i ≡ refuse {A = A} w j → P v i → P w j
same_refused P e h = subst (SaysNo P) e h

-- a value is no refusal
pub done_not_refused : {A : Type 0} {a : A} {why : Refusal} {i j : Tokens}
    → Done a i ≡ Refused why j → ⊥
done_not_refused e = subst (Says (λ a i. Unit {0})) e tt

-- and a refusal no value
pub refused_not_done : {A : Type 0} {a : A} {why : Refusal} {i j : Tokens}
    → Refused why j ≡ Done a i → ⊥
refused_not_done e = subst (SaysNo (λ a i. Unit {0})) e tt

-- the next token, where tokens are taken before
pub head_behind : (w m r s : Tokens) → m ≡ w ++ r → head r ≡ head s → head m ≡ head (w ++ s)
head_behind [] m r s e h = ap head e ∙ h
head_behind (t ∷ w) m r s e h = ap head e

-- behind the last token is the end
pub end_is : next [] ≡ End
unfolding symbol_of
end_is = refl

-- tokens of which the next is not the end
pub cons_of : (i : Tokens) → next i ≢ End → i ≡ head i ∷ behind i
cons_of [] h = absurd (h end_is)
cons_of (t ∷ i) h = refl

-- where an outcome leaves off
abbrev pub rest_of : {A : Type 0} → Outcome A → Tokens
rest_of (Done a r) = r
rest_of (Refused why r) = r

-- ---- symbols

-- a symbol is the same as itself
pub same_symbol_refl : (k : Symbol) → same_symbol k k ≡ true
unfolding same_symbol
same_symbol_refl k = true_same the_type k k refl

-- what the test says
pub same_symbol_true : (j k : Symbol) → same_symbol j k ≡ true → j ≡ k
unfolding same_symbol
same_symbol_true j k e = same_true the_type tt j k e

pub same_symbol_false : (j k : Symbol) → same_symbol j k ≡ false → j ≢ k
unfolding same_symbol
same_symbol_false j k e = same_false the_type j k e

-- a comma is not the end
pub comma_not_end : Comma ≢ End
comma_not_end e = cc e

-- the value of a turn that goes on
pub some_value : {A : Type 0} {a b : A} → Some a ≡ Some b → a ≡ b
some_value {A} {a} e = subst of e refl
  where
    of : Option A → Type 0
    of None = ⊥
    of (Some x) = a ≡ x

-- the two ways round
pub same_symbol_is : (j k : Symbol) → j ≡ k → same_symbol j k ≡ true
same_symbol_is j k e = ap (λ x. same_symbol x k) e ∙ same_symbol_refl k

pub same_symbol_other : (j k : Symbol) → j ≢ k → same_symbol j k ≡ false
same_symbol_other j k other = go (same_symbol j k) refl
  where
    go : (b : Bool) → same_symbol j k ≡ b → same_symbol j k ≡ false
    go true e = absurd (other (same_symbol_true j k e))
    go false e = e

-- ---- one after the other

-- the first gives a value, and the second this outcome
pub then_done : {A B : Type 0} (f : A → Parser B) {o : Outcome A} {a : A} {m : Tokens}
    {u : Outcome B} → o ≡ Done a m → f a m ≡ u → and_then o f ≡ u
then_done f e h = ap (λ o. and_then o f) e ∙ h

-- the same, with the parser and what goes on written
pub bind_done : {A B : Type 0} (p : Parser A) (f : A → Parser B) {i : Tokens} {a : A} {m : Tokens}
    {u : Outcome B} → p i ≡ Done a m → f a m ≡ u → (p >>= f) i ≡ u
bind_done p f e h = ap (λ o. and_then o f) e ∙ h

-- where a whole gives a value, so did its first part
pub then_inverse : {A B : Type 0} (o : Outcome A) (f : A → Parser B) {b : B} {r : Tokens}
    → and_then o f ≡ Done b r
    → (a : A) × (m : Tokens) × (o ≡ Done a m) × (f a m ≡ Done b r)
then_inverse (Done a m) f e = (a, m, refl, e)
then_inverse (Refused why m) f e = absurd (refused_not_done e)

-- the same of the parser
pub bind_inverse : {A B : Type 0} (p : Parser A) (f : A → Parser B) (i : Tokens) {b : B}
    {r : Tokens} → (p >>= f) i ≡ Done b r
    → (a : A) × (m : Tokens) × (p i ≡ Done a m) × (f a m ≡ Done b r)
bind_inverse p f i e = then_inverse (p i) f e

-- the value and the rest of an outcome
pub done_value : {A : Type 0} {a b : A} {i j : Tokens} → Done a i ≡ Done b j → a ≡ b
done_value {a = a} e = same_done (λ x y. a ≡ x) e refl

pub done_rest : {A : Type 0} {a b : A} {i j : Tokens} → Done a i ≡ Done b j → i ≡ j
done_rest {i = i} e = same_done (λ x y. i ≡ y) e refl

-- ---- a token

-- a token with this symbol is taken
pub expect_done : (k : Symbol) (t : Token) (r : Tokens) → Is k t → expect k (t ∷ r) ≡ Done t r
unfolding expect
expect_done k t r is =
    ap (λ b. if b then Done t r else Refused Unexpected (t ∷ r)) (same_symbol_is (symbol t) k is)

-- any other is refused
pub expect_refused : (k : Symbol) (i : Tokens) → next i ≢ k → expect k i ≡ Refused Unexpected i
unfolding expect
expect_refused k i other =
    ap (λ b. if b then Done (head i) (behind i) else Refused Unexpected i)
    (same_symbol_other (next i) k other)

-- what was taken stood there
pub take_inverse : {t : Token} (i r : Tokens) → next i ≢ End → take_token i ≡ Done t r → i ≡ t ∷ r
take_inverse i r more e = cons_of i more ∙ same_done (λ x y. head i ∷ behind i ≡ x ∷ y) e refl

-- what was expected stood there
pub expect_inverse : (k : Symbol) (i : Tokens) {t : Token} {r : Tokens} → k ≢ End
    → expect k i ≡ Done t r → (i ≡ t ∷ r) × Is k t
unfolding expect
expect_inverse k i {t} {r} more e = go (same_symbol (next i) k) refl e
  where
    go : (b : Bool) → same_symbol (next i) k ≡ b
        → (if b then Done (head i) (behind i) else Refused Unexpected i) ≡ Done t r
        → (i ≡ t ∷ r) × Is k t
    go true is h =
        let at : next i ≡ k = same_symbol_true (next i) k is in
        (take_inverse i r (λ ends. more (sym at ∙ ends)) h, ap symbol (sym (done_value h)) ∙ at)
    go false is h = absurd (refused_not_done h)

-- where a rule isn't asked, reading goes on
pub unless_reads : {A : Type 0} (g : Rules) (why : Refusal) (p : Parser A) (i : Tokens)
    → g why i ≡ false → unless g why p i ≡ p i
unless_reads g why p i off = ap (λ b. if b then Refused why i else p i) off

-- where it is asked, it refuses
pub unless_refuses : {A : Type 0} (g : Rules) (why : Refusal) (p : Parser A) (i : Tokens)
    → g why i ≡ true → unless g why p i ≡ Refused why i
unless_refuses g why p i on = ap (λ b. if b then Refused why i else p i) on

-- what was read was read where the rule isn't asked
pub unless_inverse : {A : Type 0} (g : Rules) (why : Refusal) (p : Parser A) (i : Tokens) {a : A}
    {r : Tokens} → unless g why p i ≡ Done a r → (g why i ≡ false) × (p i ≡ Done a r)
unless_inverse g why p i {a} {r} e = go (g why i) refl e
  where
    go : (b : Bool) → g why i ≡ b → (if b then Refused why i else p i) ≡ Done a r
        → (g why i ≡ false) × (p i ≡ Done a r)
    go true is h = absurd (refused_not_done h)
    go false is h = (is, h)

-- where a level is left, entering takes the token
pub enter_done : (g : Rules) (t : Token) (r : Tokens) → HasRoom g (t ∷ r)
    → enter g (t ∷ r) ≡ Done t r
unfolding enter
enter_done g t r room = unless_reads g Deep take_token (t ∷ r) room

-- what entered had a level left
pub entered : (g : Rules) (i : Tokens) {t : Token} {r : Tokens} → enter g i ≡ Done t r → HasRoom g i
unfolding enter
entered g i e = (unless_inverse g Deep take_token i e).0

-- and took the next token
pub entered_token : (g : Rules) (i : Tokens) {t : Token} {r : Tokens} → enter g i ≡ Done t r
    → take_token i ≡ Done t r
unfolding enter
entered_token g i e = (unless_inverse g Deep take_token i e).1

-- what entered had a level left, and what it took stood there
pub enter_inverse : (g : Rules) (i : Tokens) {t : Token} {r : Tokens} → next i ≢ End
    → enter g i ≡ Done t r → HasRoom g i × (i ≡ t ∷ r)
enter_inverse g i {t} {r} more e = (entered g i e, take_inverse i r more (entered_token g i e))

-- ---- what must have been there, for what is to be shown

-- a whole gave a value
pub then_is : {A B : Type 0} {P : Type 0} (p : Parser A) (f : A → Parser B) (i : Tokens) {b : B}
    {r : Tokens} → (p >>= f) i ≡ Done b r
    → ((a : A) (m : Tokens) → p i ≡ Done a m → f a m ≡ Done b r → P) → P
then_is p f i e h = let s = bind_inverse p f i e in h s.0 s.1 s.2 s.3

-- a token with this symbol, and what follows, gave a value
pub expect_then : {B : Type 0} (P : Tokens → Type 0) (k : Symbol) (f : Token → Parser B) → k ≢ End
    → (i : Tokens) {b : B} {r : Tokens} → (expect k >>= f) i ≡ Done b r
    → ((t : Token) (m : Tokens) → Is k t → f t m ≡ Done b r → P (t ∷ m)) → P i
expect_then P k f more i e h =
    let s = bind_inverse (expect k) f i e in
    let t = expect_inverse k i more s.2 in
    subst P (sym t.0) (h s.0 s.1 t.1 s.3)
