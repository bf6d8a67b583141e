-- Lists with commas between, and lists with a closing token.
use Rattle.std.proofs.Common.{◌≡◌, ◌≢◌, suc, ◌≤◌, Bool, true, false, List, [], ◌∷◌, ◌++◌, length, Option, Some, None, refl, sym, ap, ◌∙◌, subst}
use Rattle.ja_base.proofs.Options.{none_not_some}
use Rattle.ja_lex.specs.declared.token.Token.{Token}
use Rattle.ja_syntax.specs.declared.symbol.Symbol.{Symbol}
use Rattle.ja_syntax.specs.declared.symbol.Symbol.TheVariants.{Comma, End}
use Rattle.ja_syntax.specs.Symbols.{same_symbol}
use Rattle.ja_grammar.specs.declared.fault.Refusal.TheVariants.{Unexpected}
use Rattle.ja_grammar.specs.declared.fault.Refusal.{Refusal}
use Rattle.ja_grammar.specs.Input.{Tokens, head, next, behind, symbol, Done, Parser, ◌>>◌, pure, look, expect, many, after_comma, separated, listed_by, listed}
use Rattle.ja_grammar.specs.Productions.{Rule, Is, NotAt, Led, Separated, Listed}
use Rattle.ja_grammar.proofs.Real.{IsRealAfter}
use Rattle.ja_grammar.proofs.Outcomes.{end_is, comma_not_end, some_value, cons_of, done_value, done_rest, same_symbol_true, same_symbol_false, same_symbol_is, same_symbol_other, expect_done, expect_inverse, bind_done, bind_inverse, same_done}
use Rattle.ja_grammar.proofs.Shrinks.{Takes, comma_takes}
use Rattle.ja_grammar.proofs.Good.{Follow, Reason, Sample, GoodAt, Any, Closed, pure_good, bind_good, look_good}
use Rattle.ja_grammar.proofs.Steps.{pure_sample, bind_sample, end_sample, expect_sample, take_good, expect_good}
use Rattle.ja_grammar.proofs.Turns.{Turns, OfSome, many_good_with, many_end, many_all, many_is, folded_push}

-- no comma is the end
comma_more : (i : Tokens) → same_symbol (next i) Comma ≡ true → next i ≢ End
comma_more i e ends = absurd (comma_not_end (sym (same_symbol_true (next i) Comma e) ∙ ends))

-- a turn of a list with commas
abbrev pub comma_turn : {A : Type 0} → Parser A → List A → Parser (Option (List A))
comma_turn item found = look (λ t. after_comma item found (same_symbol (symbol t) Comma))

-- a turn ends where no comma comes, and goes on at one
no_comma : {A : Type 0} (item : Parser A) (found : List A) (r : Tokens) → NotAt Comma r
    → comma_turn item found r ≡ Done None r
no_comma item found r h = ap (λ b. after_comma item found b r) (same_symbol_other (next r) Comma h)

comma : {A : Type 0} (item : Parser A) (found : List A) (i : Tokens) → next i ≡ Comma
    → comma_turn item found i ≡ after_comma item found true i
comma item found i h = ap (λ b. after_comma item found b i) (same_symbol_is (next i) Comma h)

-- ---- tokens are left

-- each turn that goes on takes a token
comma_turns : {A : Type 0} (item : Parser A) → Takes item → Turns (comma_turn item)
comma_turns {A} item takes =
    record {
      takes = λ found i b r e. go found i b r (same_symbol (next i) Comma) refl e;
      ends = λ found. no_comma item found [] (λ e. comma_not_end (sym e ∙ end_is));
    }
  where
    go : (found : List A) (i : Tokens) (ys : List A) (r : Tokens) (b : Bool)
        → same_symbol (next i) Comma ≡ b → after_comma item found b i ≡ Done (Some ys) r
        → suc (length r) ≤ length i
    go found i ys r true at e =
        (comma_takes takes found i (same_symbol_true (next i) Comma at)).leaves (Some ys) r e
    go found i ys r false at e = absurd (none_not_some (done_value e))

-- ---- the place

-- a turn of a list with commas
comma_good : {U : Tokens} {A : Type 0} {F : Follow} {W : A → Type 0} {O : Refusal} {J : Reason O}
    (item next_item : Parser A) → Closed J → ((i : Tokens) → GoodAt U J item next_item F W i)
    → Sample U next_item Any F W
    → (found : List A) (i : Tokens) → GoodAt U J (comma_turn item found)
    (comma_turn next_item found) F (OfSome Any) i
comma_good {U} {A} {F} {W} {O} {J} item next_item closed good sample found i =
    look_good (λ t. after_comma item found (same_symbol (symbol t) Comma))
    (λ t. after_comma next_item found (same_symbol (symbol t) Comma)) i
    (go (same_symbol (next i) Comma) refl)
  where
    go : (b : Bool) → same_symbol (next i) Comma ≡ b
        → GoodAt U J (after_comma item found (same_symbol (next i) Comma))
        (after_comma next_item found (same_symbol (next i) Comma)) F (OfSome Any) i
    go true e =
        subst (λ b. GoodAt U J (after_comma item found b) (after_comma next_item found b) F
        (OfSome Any) i) (sym e)
        (bind_good i closed (take_good J Any Any i (comma_more i e) tt)
        (λ t r _. bind_good r closed (good r)
        (λ x m _. pure_good J F (OfSome Any) (Some (found ++ x ∷ [])) m)
        (λ x v. pure_sample (Some (found ++ x ∷ [])) tt))
        (λ t v. bind_sample sample (λ x w. pure_sample (Some (found ++ x ∷ [])) tt)))
    go false e =
        subst (λ b. GoodAt U J (after_comma item found b) (after_comma next_item found b) F
        (OfSome Any) i) (sym e) (pure_good J F (OfSome Any) None i)

-- Items with commas between: F may follow an item, and G the list.
pub separated_good : {U : Tokens} {A : Type 0} {F G : Follow} {W : A → Type 0} {O : Refusal}
    {J : Reason O} (item next_item : Parser A) → Closed J → Takes item → Takes next_item
    → ((i : Tokens) → GoodAt U J item next_item F W i)
    → Sample U next_item Any F W
    → ((tail : Tokens) → G tail → F tail) → ((tail : Tokens) → G tail → NotAt Comma tail)
    → (i : Tokens) → GoodAt U J (separated item) (separated next_item) G Any i
unfolding separated
separated_good {U} {A} {F} {G} {W} {O} {J} item next_item closed takes takes' good sample follows
    other i =
    bind_good i closed (good i)
    (λ x r _. many_good_with (comma_turn item) (comma_turn next_item) closed
    (comma_turns item takes) (comma_turns next_item takes')
    (comma_good item next_item closed good sample)
    rest (x ∷ []) r)
    (λ x v. rest (x ∷ []) tt)
  where
    rest : (xs : List A) → Unit {0} → Sample U (many (comma_turn next_item) xs) F G Any
    rest xs v =
        end_sample xs tt follows (λ tail h. many_end (comma_turn next_item) xs tail
        (no_comma next_item xs tail (other tail h)))

-- Any number of items and a closing token, as t: F may follow an item, and anything may follow the
-- list.
pub listed_good : {U : Tokens} {A : Type 0} {F G : Follow} {W : A → Type 0} {O : Refusal}
    {J : Reason O} (close : Symbol) (item next_item : Parser A) → close ≢ End → close ≢ Comma
    → Closed J → Takes item → Takes next_item
    → ((i : Tokens) → GoodAt U J item next_item F W i)
    → Sample U next_item Any F W
    → ((tail : Tokens) → next tail ≡ close → F tail)
    → (t : Token) → Is close t → IsRealAfter U t
    → ((r : Tokens) → NotAt close r → J.right Unexpected [] r)
    → (i : Tokens) → GoodAt U J (listed close item) (listed close next_item) G Any i
unfolding listed
listed_good {U} {A} {F} {G} {W} {O} {J} close item next_item more other closed takes takes' good
    sample follows t is real unexpected i =
    look_good (λ t. listed_by close item (same_symbol (symbol t) close))
    (λ t. listed_by close next_item (same_symbol (symbol t) close)) i
    (go (same_symbol (next i) close) refl)
  where
    Closes : Tokens → Type 0
    Closes tail = next tail ≡ close

    go : (b : Bool) → same_symbol (next i) close ≡ b
        → GoodAt U J (listed_by close item (same_symbol (next i) close))
        (listed_by close next_item (same_symbol (next i) close)) G Any i
    go true e =
        subst (λ b. GoodAt U J (listed_by close item b) (listed_by close next_item b) G Any i)
        (sym e)
        (bind_good i closed (take_good J G Any i
        (λ ends. more (sym (same_symbol_true (next i) close e) ∙ ends)) tt)
        (λ _ r _. pure_good J G Any [] r) (λ _ v. pure_sample [] tt))
    go false e =
        subst (λ b. GoodAt U J (listed_by close item b) (listed_by close next_item b) G Any i)
        (sym e)
        (bind_good i closed
        (separated_good {G = Closes} item next_item closed takes takes' good sample follows
        (λ tail h k. other (sym h ∙ k)) i)
        (λ xs r _. bind_good r closed (expect_good J G Any close r more (unexpected r) (λ _. tt))
        (λ _ m _. pure_good J G Any xs m) (λ _ v. pure_sample xs tt))
        (λ xs v. bind_sample {V = Any} (expect_sample close t is real tt (λ tail h. is))
        (λ _ w. pure_sample xs tt)))

-- one item completes a list
pub separated_sample : {U : Tokens} {A : Type 0} {E F G : Follow} {V : A → Type 0}
    {W : List A → Type 0} (item : Parser A) → Sample U item E F V → ((x : A) → W (x ∷ []))
    → ((tail : Tokens) → G tail → F tail) → ((tail : Tokens) → G tail → NotAt Comma tail)
    → Sample U (separated item) E G W
unfolding separated
separated_sample item sample w follows other = bind_sample sample
    (λ x _. end_sample (x ∷ []) (w x) follows
    (λ tail h. many_end (comma_turn item) (x ∷ []) tail
    (no_comma item (x ∷ []) tail (other tail h))))

-- the closing token t completes a list
pub listed_sample : {U : Tokens} {A : Type 0} {F G : Follow} {W : List A → Type 0} (close : Symbol)
    (item : Parser A) (t : Token) → Is close t → IsRealAfter U t → W []
    → ((tail : Tokens) → G tail → F (t ∷ tail)) → Sample U (listed close item) F G W
unfolding listed
listed_sample close item t is real w starts = record {
  more = t ∷ [];
  value = [];
  real = (real, tt);
  fits = w;
  follows = starts;
  reads =
      λ tail _. ap (λ b. listed_by close item b (t ∷ tail)) (same_symbol_is (symbol t) close is);
}

-- ---- what is read

-- items of the grammar are read
pub separated_all : {A : Type 0} (item : Parser A) (One : Rule A) → Takes item
    → ((i : Tokens) (x : A) (r : Tokens) → One i x r → item i ≡ Done x r)
    → (i : Tokens) (xs : List A) (r : Tokens) → Separated One i xs r → separated item i ≡ Done xs r
unfolding separated
separated_all {A} item One takes all i xs r (Separated.separated {m = m} {x = x} {xs = ys} h t) =
    bind_done item _ (all i x m h)
    (many_all (comma_turn item) push (comma_turns item takes) one
    (λ found r h. no_comma item found r h) (x ∷ []) m ys r t
    ∙ ap (λ ys. Done ys r) (folded_push (x ∷ []) ys))
  where
    push : List A → A → List A
    push found x = found ++ x ∷ []

    one : (found : List A) (i : Tokens) (x : A) (m : Tokens) → Led Comma One i x m
        → comma_turn item found i ≡ Done (Some (push found x)) m
    one found i x m (Led.led {t = t} {i = j} is h) =
        comma item found i is ∙ bind_done item _ (all j x m h) refl

-- what is read is items of the grammar
pub separated_is : {A : Type 0} (item : Parser A) (One : Rule A) → Takes item
    → ((i : Tokens) (x : A) (r : Tokens) → item i ≡ Done x r → One i x r)
    → (i : Tokens) (xs : List A) (r : Tokens) → separated item i ≡ Done xs r → Separated One i xs r
unfolding separated
separated_is {A} item One takes sound i xs r e =
    let s = bind_inverse item (λ x. many (comma_turn item) (x ∷ [])) i e in
    let t = many_is {Stop = NotAt Comma} (comma_turn item) push (comma_turns item takes) one stop
    (s.0 ∷ []) s.1 xs r s.3 in
    subst (λ ys. Separated One i ys r) (sym (t.2 ∙ folded_push (s.0 ∷ []) t.0))
    (Separated.separated (sound i s.0 s.1 s.2) t.1)
  where
    push : List A → A → List A
    push found x = found ++ x ∷ []

    one : (found : List A) (i : Tokens) (ys : List A) (m : Tokens)
        → comma_turn item found i ≡ Done (Some ys) m
        → (x : A) × Led Comma One i x m × (ys ≡ push found x)
    one found i ys m e = go (same_symbol (next i) Comma) refl e
      where
        go : (b : Bool) → same_symbol (next i) Comma ≡ b
            → after_comma item found b i ≡ Done (Some ys) m
            → (x : A) × Led Comma One i x m × (ys ≡ push found x)
        go true at h =
            let s = bind_inverse item (λ x. pure (Some (push found x))) (behind i) h in
            let o = cons_of i (comma_more i at) in (
              s.0,
              subst (λ j. Led Comma One j s.0 m) (sym o)
                  (Led.led (same_symbol_true (next i) Comma at)
                  (subst (λ j. One (behind i) s.0 j) (done_rest s.3) (sound (behind i) s.0 s.1 s.2))),
              sym (some_value (done_value s.3)),
            )
        go false at h = absurd (none_not_some (done_value h))

    stop : (found : List A) (i m : Tokens) → comma_turn item found i ≡ Done None m
        → (i ≡ m) × NotAt Comma m
    stop found i m e = go (same_symbol (next i) Comma) refl e
      where
        go : (b : Bool) → same_symbol (next i) Comma ≡ b → after_comma item found b i ≡ Done None m
            → (i ≡ m) × NotAt Comma m
        go true at h =
            let s = bind_inverse item (λ x. pure (Some (push found x))) (behind i) h in
            absurd (none_not_some (sym (done_value s.3)))
        go false at h =
            (done_rest h, subst (NotAt Comma) (done_rest h) (same_symbol_false (next i) Comma at))

-- a list of the grammar with its closing token is read
pub listed_all : {A : Type 0} (item : Parser A) (One : Rule A) → Takes item → (close : Symbol)
    → ((i : Tokens) (x : A) (r : Tokens) → One i x r → item i ≡ Done x r)
    → (i : Tokens) (xs : List A) (r : Tokens) → Listed close One i xs r
    → listed close item i ≡ Done xs r
unfolding listed
listed_all {A} item One takes close all i xs r (Listed.empty {t = t} is) =
    ap (λ b. listed_by close item b i) (same_symbol_is (symbol t) close is)
listed_all {A} item One takes close all i xs r (Listed.some {t = t} other h is) =
    ap (λ b. listed_by close item b i) (same_symbol_other (next i) close other)
    ∙ bind_done (separated item) _ (separated_all item One takes all i xs (t ∷ r) h)
    (bind_done (expect close) _ (expect_done close t r is) refl)

-- what is read is a list of the grammar with its closing token
pub listed_is : {A : Type 0} (item : Parser A) (One : Rule A) → Takes item → (close : Symbol)
    → close ≢ End
    → ((i : Tokens) (x : A) (r : Tokens) → item i ≡ Done x r → One i x r)
    → (i : Tokens) (xs : List A) (r : Tokens) → listed close item i ≡ Done xs r
    → Listed close One i xs r
unfolding listed
listed_is {A} item One takes close more sound i xs r e = go (same_symbol (next i) close) refl e
  where
    go : (b : Bool) → same_symbol (next i) close ≡ b → listed_by close item b i ≡ Done xs r
        → Listed close One i xs r
    go true at h =
        let o = cons_of i (λ ends. more (sym (same_symbol_true (next i) close at) ∙ ends)) in
        subst (λ j. Listed close One j xs r) (sym o)
        (same_done (λ ys m. Listed close One (head i ∷ behind i) ys m) h
        (Listed.empty (same_symbol_true (next i) close at)))
    go false at h =
        let s = bind_inverse (separated item) (λ xs. expect close >> pure xs) i h in
        let t = bind_inverse (expect close) (λ _. pure s.0) s.1 s.3 in
        let u = expect_inverse close s.1 more t.2 in
        same_done (λ ys m. Listed close One i ys m) t.3
        (Listed.some (same_symbol_false (next i) close at)
        (subst (λ j. Separated One i s.0 j) u.0
        (separated_is item One takes sound i s.0 s.1 s.2)) u.1)
