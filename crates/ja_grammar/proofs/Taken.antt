-- The place laws of a rule that begins with a token which the reason of a refusal speaks of.
use Rattle.std.proofs.Common.{◌≡◌, ◌≢◌, inl, inr, true, false, [], ◌∷◌, ◌++◌, refl, sym, ap, ◌∙◌, subst}
use Rattle.ja_lex.specs.declared.token.Token.{Token}
use Rattle.ja_syntax.specs.declared.symbol.Symbol.TheVariants.{End}
use Rattle.ja_grammar.specs.declared.fault.Refusal.{Refusal}
use Rattle.ja_grammar.specs.Input.{Tokens, head, next, behind, Refused, Parser, ◌>>=◌, take_token}
use Rattle.ja_grammar.specs.Language.{is_level, is_same}
use Rattle.ja_grammar.proofs.Ends.{split_one}
use Rattle.ja_grammar.proofs.Good.{Follow, Reason, Closed, elsewhere, Instead, CompletesElsewhere, Sample, Stops, GoodAt, Closes, bind_good_by, weaken_good}
use Rattle.ja_grammar.proofs.Outcomes.{same_done, cons_of, take_inverse}
use Rattle.ja_grammar.proofs.Steps.{take_good}

-- the reason, once this token stands before what was read
abbrev pub taken_reason : {O : Refusal} → Reason O → Token → Reason O
taken_reason J t = record {
  right = λ why w r. J.right why (t ∷ w) r × ((u : Token) → elsewhere why u ≡ true → w ≢ []);
  taken = λ why u r h on. h.1 u on refl;
}

-- a reason that needs no token holds behind one
pub taken : {U : Tokens} {O : Refusal} {A : Type 0} {p q : Parser A} {F : Follow} {W : A → Type 0}
    {J : Reason O} (t : Token) (i : Tokens) → Closed J → GoodAt U J p q F W i
    → GoodAt U (taken_reason J t) p q F W i
taken {J = J} t i closed good =
    weaken_good i (λ tail ends. ends) (λ a w. w)
    (λ why w r h. (
      closed why (t ∷ []) w r h,
      λ u on none. J.taken why u r (subst (λ x. J.right why x r) none h) on,
    )) good

-- a token, and then what the reason speaks of it in
pub taken_good : {U : Tokens} {O : Refusal} {B : Type 0} (f g : Token → Parser B) {F G : Follow}
    {W : B → Type 0} {J : Reason O} (i : Tokens) → next i ≢ End
    → GoodAt U (taken_reason J (head i)) (f (head i)) (g (head i)) G W (behind i)
    → Sample U (g (head i)) F G W → GoodAt U J (take_token >>= f) (take_token >>= g) G W i
taken_good {U} {O} f g {F} {G} {W} {J} i more good sample =
    bind_good_by {f = f} {g = g} {F = F} {V = λ t. head i ≡ t} {K = J} {L = λ t. taken_reason J t} i
    (take_good J F (λ t. head i ≡ t) i more refl)
    (λ t r e. inl (same_done (λ t r. GoodAt U (taken_reason J t) (f t) (g t) G W r) e good))
    (λ t same. subst (λ t. Sample U (g t) F G W) same sample)
    (λ why w r h. h)
    step
  where
    step : (t : Token) (m : Tokens) (s : Stops U take_token take_token F (λ t. head i ≡ t) i t m)
        (why : Refusal) (v r : Tokens) → m ≡ v ++ r
        → (taken_reason J t).right why v r → J.right why (s.before ++ v) r
    step t m s why v r e h =
        subst (λ w. J.right why (w ++ v) r) (sym
        (split_one s.before (t ∷ []) m s.split
        (take_inverse i m more (ap take_token s.split ∙ s.local m refl)))) h.0

-- a token, and the rest, of which the reasons don't speak of it
pub token_good : {U : Tokens} {O : Refusal} {B : Type 0} (f g : Token → Parser B) {F G : Follow}
    {W : B → Type 0} {J : Reason O} (i : Tokens) → Closed J → next i ≢ End
    → GoodAt U J (f (head i)) (g (head i)) G W (behind i) → Sample U (g (head i)) F G W
    → GoodAt U J (take_token >>= f) (take_token >>= g) G W i
token_good f g i closed more good sample =
    taken_good f g i more (taken (head i) (behind i) closed good) sample

-- a token, and a rule that refuses at once what is next, whatever that is
pub token_closes : {U : Tokens} {O : Refusal} {B : Type 0} (f g : Token → Parser B) {F G : Follow}
    {W : B → Type 0} {J : Reason O} (i : Tokens) → Closed J → next i ≢ End → (why : Refusal)
    → is_level why ≡ false
    → elsewhere why (head (behind i)) ≡ true
    → ((x : Tokens) → elsewhere why (head x) ≡ true → f (head i) x ≡ Refused why x)
    → (is_same O why ≡ false → (x : Tokens) → elsewhere why (head x) ≡ true
    → g (head i) x ≡ Refused why x)
    → ((x : Tokens) → elsewhere why (head x) ≡ true → Instead why (behind i) x)
    → (is_same O why ≡ true → CompletesElsewhere U (g (head i)) G W why)
    → J.right why (head i ∷ []) (behind i)
    → Sample U (g (head i)) F G W → GoodAt U J (take_token >>= f) (take_token >>= g) G W i
token_closes {U} {O} {B} f g {F} {G} {W} {J} i closed more why level next_is refuses refuses_more
    instead goes right sample =
    bind_good_by {f = f} {g = g} {F = F} {V = λ t. head i ≡ t} {K = J} {L = λ t. J} i
    (take_good J F (λ t. head i ≡ t) i more refl)
    (λ t r e. inr (same_done (λ t r. Closes U J take_token take_token f g F G (λ t. head i ≡ t) W i
    t r) e closes))
    (λ t same. subst (λ t. Sample U (g t) F G W) same sample)
    (λ why w r h. h)
    (λ t m s why v r e h. closed why s.before v r h)
  where
    closes : Closes U J take_token take_token f g F G (λ t. head i ≡ t) W i (head i) (behind i)
    closes = record {
      why = why;
      level = level;
      next_is = next_is;
      ahead =
          λ s x on. let e = ap (λ w. take_token (w ++ x))
          (split_one s.before (head i ∷ []) (behind i) s.split (cons_of i more)) in (e, e);
      refuses = refuses;
      refuses_more = refuses_more;
      instead = instead;
      goes_on = goes;
      right =
          λ w e. subst (λ v. J.right why v (behind i))
          (split_one (head i ∷ []) w (behind i) (cons_of i more) e) right;
    }
