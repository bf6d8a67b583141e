-- The turns of a loop that reads a list.
use Rattle.std.proofs.Common.{◌≡◌, ℕ, zero, suc, ◌+◌, ◌-◌, ◌<◌, ◌≤◌, Bool, true, false, not, List, [], ◌∷◌, ◌++◌, length, Result, Ok, Err, refl, sym, ap, ◌∙◌, subst, arith}
use Rattle.std.specs.Result.{IsErr, IsErrAnd}
use Rattle.ja_syntax.specs.declared.symbol.Symbol.{Symbol}
use Rattle.ja_syntax.specs.declared.symbol.Symbol.TheVariants.{Comma}
use Rattle.ja_syntax.specs.Symbols.{same_symbol}
use Rattle.ja_grammar.specs.declared.fault.Refusal.{Refusal}
use Rattle.ja_grammar.specs.declared.fault.Stop.{Stop}
use Rattle.ja_grammar.specs.declared.fault.Stop.TheVariants.{Refused as IsRefused, Memory}
use Rattle.ja_grammar.specs.Input.{Tokens, Outcome, Done, Refused, Parser, look, symbol, next, behind, many_from, until_by, until, after_comma, separated}
use Rattle.ja_grammar.specs.code.Input.{Follows}

-- items up to a symbol that ends them, of which some were found, in at most n turns
unfoldable pub until_from : {A : Type 0} → (Symbol → Bool) → Parser A → ℕ → List A → Parser (List A)
until_from ends item n found =
    many_from (λ found. look (λ t. until_by item found (ends (symbol t)))) n found

-- items behind commas, behind those that were found, in at most n turns
unfoldable pub commas_from : {A : Type 0} → Parser A → ℕ → List A → Parser (List A)
commas_from item n found =
    many_from (λ found. look (λ t. after_comma item found (same_symbol (symbol t) Comma))) n found

-- the turn at a count is one, and those behind it
pub one_more : {X : Type 0} (f : ℕ → X) (n at : ℕ) → at < n → f (n - at) ≡ f (suc (n - (at + 1)))
one_more f n at below = let e : n - at ≡ suc (n - (at + 1)) = omega arith in ap f e

pub no_more : {X : Type 0} (f : ℕ → X) (n at : ℕ) → n ≤ at → f (n - at) ≡ f 0
no_more f n at done = let e : n - at ≡ 0 = omega arith in ap f e

pub same_error : {A B : Type 0} (o : Outcome A) (p : Outcome B) (r : Stop) (j : Tokens)
    → ((why : Refusal) → o ≡ Refused why j → p ≡ Refused why j)
    → Follows o (Err r) j → Follows p (Err r) j
same_error o p (IsRefused why) j f h = f why h
same_error o p Memory j f h = tt

pub not_false : {b : Bool} → b ≡ false → not b ≡ true
not_false h = rw h refl

pub not_true : {b : Bool} → b ≡ true → not b ≡ false
not_true h = rw h refl

-- what a `?` gives back is the callee's error
pub passed : {A : Type 0} (o : Outcome A) (result : Result A Stop) (r : Stop) (j : Tokens)
    → IsErr result × IsErrAnd result (λ e. e ≡ r)
    → Follows o (Err r) j → Follows o result j
passed o (Ok a) r j h f = cc h.0
passed o (Err q) r j h f = subst (λ z. Follows o (Err z) j) (sym h.1) f

module _ {A : Type 0} (ends : Symbol → Bool) (item : Parser A) where
  pub until_start : (n : ℕ) (i : Tokens) → n ≡ length i
      → until ends item i ≡ until_from ends item (n - 0) [] i
  unfolding until until_from
  until_start n i h = let e : n - 0 ≡ length i = omega (arith, h) in rw e refl

  pub until_stop : (whole : Outcome (List A)) (n : ℕ) (found : List A) (i : Tokens)
      → whole ≡ until_from ends item n found i → ends (next i) ≡ true
      → whole ≡ Done found i
  unfolding until_from many_from
  until_stop whole zero found i w h = w
  until_stop whole (suc n) found i w h = w ∙ rw h refl

  pub until_none : (whole : Outcome (List A)) (n at : ℕ) (found : List A) (i : Tokens)
      → whole ≡ until_from ends item (n - at) found i → n ≤ at
      → whole ≡ Done found i
  unfolding until_from many_from
  until_none whole n at found i w h = w ∙ no_more (λ n. until_from ends item n found i) n at h

  pub until_more : (whole : Outcome (List A)) (n at : ℕ) (found : List A) (i j : Tokens) (x : A)
      → whole ≡ until_from ends item (n - at) found i
      → at < n → ends (next i) ≡ false → item i ≡ Done x j
      → whole ≡ until_from ends item (n - (at + 1)) (found ++ x ∷ []) j
  unfolding until_from many_from
  until_more whole n at found i j x w below h e =
      w ∙ one_more (λ n. until_from ends item n found i) n at below ∙ rw (h, e) refl

  until_refused : (whole : Outcome (List A)) (n at : ℕ) (found : List A) (i j : Tokens)
      (why : Refusal) → whole ≡ until_from ends item (n - at) found i
      → at < n → ends (next i) ≡ false → item i ≡ Refused why j → whole ≡ Refused why j
  unfolding until_from many_from
  until_refused whole n at found i j why w below h e =
      w ∙ one_more (λ n. until_from ends item n found i) n at below ∙ rw (h, e) refl

  pub until_error : (whole : Outcome (List A)) (n at : ℕ) (found : List A) (i j : Tokens) (r : Stop)
      → whole ≡ until_from ends item (n - at) found i
      → at < n → ends (next i) ≡ false → Follows (item i) (Err r) j → Follows whole (Err r) j
  until_error whole n at found i j r w below h e =
      same_error (item i) whole r j (λ why q. until_refused whole n at found i j why w below h q) e

module _ {A : Type 0} (item : Parser A) where
  pub commas_start : (n : ℕ) (i j : Tokens) (x : A) → item i ≡ Done x j → n ≡ length j
      → separated item i ≡ commas_from item (n - 0) (x ∷ []) j
  unfolding separated commas_from
  commas_start n i j x e h = let q : n - 0 ≡ length j = omega (arith, h) in rw (q, e) refl

  commas_refused_first : (i j : Tokens) (why : Refusal) → item i ≡ Refused why j
      → separated item i ≡ Refused why j
  unfolding separated
  commas_refused_first i j why e = rw e refl

  pub commas_error_first : (i j : Tokens) (r : Stop) → Follows (item i) (Err r) j
      → Follows (separated item i) (Err r) j
  commas_error_first i j r e =
      same_error (item i) (separated item i) r j (λ why q. commas_refused_first i j why q) e

  pub commas_stop : (whole : Outcome (List A)) (n : ℕ) (found : List A) (i : Tokens)
      → whole ≡ commas_from item n found i
      → same_symbol (next i) Comma ≡ false → whole ≡ Done found i
  unfolding commas_from many_from
  commas_stop whole zero found i w h = w
  commas_stop whole (suc n) found i w h = w ∙ rw h refl

  pub commas_none : (whole : Outcome (List A)) (n at : ℕ) (found : List A) (i : Tokens)
      → whole ≡ commas_from item (n - at) found i → n ≤ at
      → whole ≡ Done found i
  unfolding commas_from many_from
  commas_none whole n at found i w h = w ∙ no_more (λ n. commas_from item n found i) n at h

  pub commas_more : (whole : Outcome (List A)) (n at : ℕ) (found : List A) (i b j : Tokens) (x : A)
      → whole ≡ commas_from item (n - at) found i
      → at < n → same_symbol (next i) Comma ≡ true → b ≡ behind i → item b ≡ Done x j
      → whole ≡ commas_from item (n - (at + 1)) (found ++ x ∷ []) j
  unfolding commas_from many_from
  commas_more whole n at found i b j x w below h q e =
      w ∙ one_more (λ n. commas_from item n found i) n at below ∙ rw (h, ap item (sym q) ∙ e) refl

  commas_refused : (whole : Outcome (List A)) (n at : ℕ) (found : List A) (i j : Tokens)
      (why : Refusal) → whole ≡ commas_from item (n - at) found i
      → at < n → same_symbol (next i) Comma ≡ true → item (behind i) ≡ Refused why j
      → whole ≡ Refused why j
  unfolding commas_from many_from
  commas_refused whole n at found i j why w below h e =
      w ∙ one_more (λ n. commas_from item n found i) n at below ∙ rw (h, e) refl

  pub commas_error : (whole : Outcome (List A)) (n at : ℕ) (found : List A) (i b j : Tokens)
      (r : Stop) → whole ≡ commas_from item (n - at) found i
      → at < n → same_symbol (next i) Comma ≡ true → b ≡ behind i → Follows (item b) (Err r) j
      → Follows whole (Err r) j
  commas_error whole n at found i b j r w below h z e =
      same_error (item b) whole r j (λ why q.
      commas_refused whole n at found i j why w below h (ap item (sym z) ∙ q)) e
