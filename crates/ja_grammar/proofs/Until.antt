-- Items up to a symbol: the laws of `until`. The end of the text is among the symbols that end it.
use Rattle.std.proofs.Common.{◌≡◌, suc, ◌≤◌, Bool, true, false, List, [], ◌∷◌, ◌++◌, length, Option, Some, None, refl, sym, ap, ◌∙◌, subst}
use Rattle.ja_base.proofs.Options.{none_not_some}
use Rattle.ja_syntax.specs.declared.symbol.Symbol.{Symbol}
use Rattle.ja_syntax.specs.declared.symbol.Symbol.TheVariants.{End}
use Rattle.ja_grammar.specs.declared.fault.Refusal.{Refusal}
use Rattle.ja_grammar.specs.Input.{Tokens, next, symbol, Done, Parser, and_then, pure, look, many, until_by, until}
use Rattle.ja_grammar.specs.Productions.{Rule, Many}
use Rattle.ja_grammar.proofs.Outcomes.{end_is, done_value, done_rest, some_value, bind_inverse}
use Rattle.ja_grammar.proofs.Shrinks.{Takes, value_leaves}
use Rattle.ja_grammar.proofs.Good.{Follow, Reason, Sample, GoodAt, Any, Closed, pure_good, bind_good, look_good}
use Rattle.ja_grammar.proofs.Steps.{pure_sample, end_sample}
use Rattle.ja_grammar.proofs.Turns.{Turns, OfSome, many_good_with, many_end, many_goes, many_all, many_is, folded_push}

-- a turn of the list
abbrev pub until_turn : {A : Type 0} → (Symbol → Bool) → Parser A → List A
    → Parser (Option (List A))
until_turn ends item found = look (λ t. until_by item found (ends (symbol t)))

-- a list of the grammar that is known to stop otherwise
pub many_stop : {X : Type 0} {One : Rule X} {Stop Other : Tokens → Type 0} (i : Tokens)
    (xs : List X) (r : Tokens) → Other r → Many One Stop i xs r → Many One Other i xs r
many_stop i xs r other (Many.none h) = Many.none other
many_stop i xs r other (Many.more {m = m} {xs = ys} h t) = Many.more h (many_stop m ys r other t)

-- what ends a list
pub many_last : {X : Type 0} {One : Rule X} {Stop : Tokens → Type 0} (i : Tokens) (xs : List X)
    (r : Tokens) → Many One Stop i xs r → Stop r
many_last i xs r (Many.none h) = h
many_last i xs r (Many.more {m = m} {xs = ys} h t) = many_last m ys r t

pub until_turns : {A : Type 0} (ends : Symbol → Bool) (item : Parser A) → ends End ≡ true
    → Takes item → Turns (until_turn ends item)
until_turns {A} ends item last takes = record {
  takes = λ found i ys r e. go found i ys r (ends (next i)) e;
  ends = λ found. ap (λ b. until_by item found b []) (ap ends end_is ∙ last);
}
  where
    go : (found : List A) (i : Tokens) (ys : List A) (r : Tokens) (b : Bool)
        → until_by item found b i ≡ Done (Some ys) r → suc (length r) ≤ length i
    go found i ys r true e = absurd (none_not_some (done_value e))
    go found i ys r false e = (value_leaves _ (takes i)).leaves (Some ys) r e

-- the list ends at once
pub until_ends : {A : Type 0} (ends : Symbol → Bool) (item : Parser A) (found : List A) (r : Tokens)
    → ends (next r) ≡ true → many (until_turn ends item) found r ≡ Done found r
until_ends ends item found r h =
    many_end (until_turn ends item) found r (ap (λ b. until_by item found b r) h)

-- the list goes on by an item
pub until_goes : {A : Type 0} (ends : Symbol → Bool) (item : Parser A) → ends End ≡ true
    → Takes item → (found : List A) (i m : Tokens) (x : A)
    → ends (next i) ≡ false → item i ≡ Done x m
    → many (until_turn ends item) found i ≡ many (until_turn ends item) (found ++ x ∷ []) m
until_goes ends item last takes found i m x h e =
    many_goes (until_turn ends item) (until_turns ends item last takes) found (found ++ x ∷ []) i m
    (ap (λ b. until_by item found b i) h ∙ ap (λ o. and_then o (λ x. pure (Some (found ++ x ∷ []))))
    e)

turn_good : {U : Tokens} {A : Type 0} {F : Follow} {O : Refusal} {J : Reason O}
    (ends : Symbol → Bool) (item next_item : Parser A) → Closed J
    → ((i : Tokens) → ends (next i) ≡ false → GoodAt U J item next_item F Any i)
    → (found : List A) (i : Tokens) → GoodAt U J (until_turn ends item found)
    (until_turn ends next_item found) F (OfSome Any) i
turn_good {U} {A} {F} {O} {J} ends item next_item closed good found i =
    look_good (λ t. until_by item found (ends (symbol t)))
    (λ t. until_by next_item found (ends (symbol t))) i (go (ends (next i)) refl)
  where
    go : (b : Bool) → ends (next i) ≡ b → GoodAt U J (until_by item found (ends (next i)))
        (until_by next_item found (ends (next i))) F (OfSome Any) i
    go true e =
        subst (λ b. GoodAt U J (until_by item found b) (until_by next_item found b) F (OfSome Any)
        i) (sym e) (pure_good J F (OfSome Any) None i)
    go false e =
        subst (λ b. GoodAt U J (until_by item found b) (until_by next_item found b) F (OfSome Any)
        i) (sym e)
        (bind_good i closed (good i e) (λ x r _.
        pure_good J F (OfSome Any) (Some (found ++ x ∷ [])) r)
        (λ x _. pure_sample (Some (found ++ x ∷ [])) tt))

-- Items up to a symbol: F may follow an item; `sample` completes the list behind any items.
pub until_good_with : {U : Tokens} {A : Type 0} {F G : Follow} {W : List A → Type 0} {O : Refusal}
    {J : Reason O} (ends : Symbol → Bool) (item next_item : Parser A) → Closed J → ends End ≡ true
    → Takes item → Takes next_item
    → ((i : Tokens) → ends (next i) ≡ false → GoodAt U J item next_item F Any i)
    → ((found : List A) → Sample U (many (until_turn ends next_item) found) F G W)
    → (i : Tokens) → GoodAt U J (until ends item) (until ends next_item) G W i
unfolding until
until_good_with {J = J} ends item next_item closed last takes takes' good sample i =
    many_good_with (until_turn ends item) (until_turn ends next_item) closed
    (until_turns ends item last takes) (until_turns ends next_item last takes')
    (turn_good ends item next_item closed good) (λ found _. sample found) [] i

-- items up to a symbol, where F follows
pub until_good : {U : Tokens} {A : Type 0} {F : Follow} {O : Refusal} {J : Reason O}
    (ends : Symbol → Bool) (item next_item : Parser A) → Closed J → ends End ≡ true → Takes item
    → Takes next_item
    → ((i : Tokens) → ends (next i) ≡ false → GoodAt U J item next_item F Any i)
    → ((tail : Tokens) → F tail → ends (next tail) ≡ true)
    → (i : Tokens) → GoodAt U J (until ends item) (until ends next_item) F Any i
until_good ends item next_item closed last takes takes' good stops i =
    until_good_with ends item next_item closed last takes takes' good
    (λ found. end_sample found tt (λ tail h. h)
    (λ tail h. until_ends ends next_item found tail (stops tail h))) i

-- a list that ends at once completes
pub until_sample : {U : Tokens} {A : Type 0} {F : Follow} (ends : Symbol → Bool) (item : Parser A)
    → ((tail : Tokens) → F tail → ends (next tail) ≡ true) → Sample U (until ends item) F F Any
unfolding until
until_sample ends item stops =
    end_sample [] tt (λ tail h. h) (λ tail h. until_ends ends item [] tail (stops tail h))

-- ---- what is read

module _ {A : Type 0} (ends : Symbol → Bool) (item : Parser A) (One : Rule A)
    (Stop : Tokens → Type 0) (takes : Takes item) (last : ends End ≡ true) where
  -- a list of the grammar is read
  pub until_all : ((r : Tokens) → Stop r → ends (next r) ≡ true)
      → ((i : Tokens) (x : A) (r : Tokens) → One i x r → ends (next i) ≡ false)
      → ((i : Tokens) (x : A) (r : Tokens) → One i x r → item i ≡ Done x r)
      → (i : Tokens) (xs : List A) (r : Tokens) → Many One Stop i xs r
      → until ends item i ≡ Done xs r
  unfolding until
  until_all stops starts reads i xs r h =
      many_all {Stop = Stop} (until_turn ends item) (λ found x. found ++ x ∷ [])
      (until_turns ends item last takes) goes
      (λ found r s. ap (λ b. until_by item found b r) (stops r s))
      [] i xs r h ∙ ap (λ ys. Done ys r) (folded_push [] xs)
    where
      goes : (found : List A) (i : Tokens) (x : A) (m : Tokens) → One i x m
          → until_turn ends item found i ≡ Done (Some (found ++ x ∷ [])) m
      goes found i x m one = ap (λ b. until_by item found b i) (starts i x m one)
          ∙ ap (λ o. and_then o (λ x. pure (Some (found ++ x ∷ [])))) (reads i x m one)

  -- what is read is a list of the grammar
  pub until_is : ((i : Tokens) (x : A) (r : Tokens) → ends (next i) ≡ false → item i ≡ Done x r
      → One i x r) → (i : Tokens) (xs : List A) (r : Tokens) → (ends (next r) ≡ true → Stop r)
      → until ends item i ≡ Done xs r → Many One Stop i xs r
  unfolding until
  until_is reads i xs r stop e =
      let s = many_is {One = One} {Stop = Ended} (until_turn ends item) (λ found x. found ++ x ∷ [])
      (until_turns ends item last takes) (λ found i ys m h.
      goes found i ys m (ends (next i)) refl h)
      (λ found i m h. stops found i m (ends (next i)) refl h) [] i xs r e in
      subst (λ ys. Many One Stop i ys r) (sym (s.2 ∙ folded_push [] s.0))
      (many_stop i s.0 r (stop (many_last i s.0 r s.1)) s.1)
    where
      Ended : Tokens → Type 0
      Ended m = ends (next m) ≡ true

      goes : (found : List A) (i : Tokens) (ys : List A) (m : Tokens) (b : Bool) → ends (next i) ≡ b
          → until_by item found b i ≡ Done (Some ys) m
          → (x : A) × One i x m × (ys ≡ found ++ x ∷ [])
      goes found i ys m true at h = absurd (none_not_some (done_value h))
      goes found i ys m false at h =
          let s = bind_inverse item (λ x. pure (Some (found ++ x ∷ []))) i h in (
            s.0,
            subst (One i s.0) (done_rest s.3) (reads i s.0 s.1 at s.2),
            sym (some_value (done_value s.3)),
          )

      stops : (found : List A) (i m : Tokens) (b : Bool) → ends (next i) ≡ b
          → until_by item found b i ≡ Done None m → (i ≡ m) × Ended m
      stops found i m true at h = (done_rest h, subst Ended (done_rest h) at)
      stops found i m false at h =
          let s = bind_inverse item (λ x. pure (Some (found ++ x ∷ []))) i h in
          absurd (none_not_some (sym (done_value s.3)))
