-- Tokens that are read as a statement at every level, and as each part of one: what completes a
-- text.
use Rattle.std.proofs.Common.{◌≡◌, ◌≢◌, ℕ, Bool, true, false, [], ◌∷◌, ◌++◌, None, refl, sym, ap, ◌∙◌}
use Rattle.ja_base.specs.declared.ids.Place.{Place}
use Rattle.ja_lex.specs.declared.token.Token.{Token}
use Rattle.ja_syntax.specs.declared.symbol.Symbol.{Symbol}
use Rattle.ja_syntax.specs.declared.symbol.Symbol.TheVariants as k
use Rattle.ja_syntax.specs.declared.tree.Expression.{Expression}
use Rattle.ja_syntax.specs.declared.tree.ForFirst.{ForFirst}
use Rattle.ja_syntax.specs.declared.tree.ForFirst.TheVariants as first
use Rattle.ja_syntax.specs.declared.tree.Statement.{Statement}
use Rattle.ja_syntax.specs.declared.tree.Statement.TheVariants as s
use Rattle.ja_grammar.specs.declared.part.ExpressionPart.TheVariants as of_expression
use Rattle.ja_grammar.specs.declared.part.StatementPart.{StatementPart}
use Rattle.ja_grammar.specs.declared.part.StatementPart.TheVariants as part
use Rattle.ja_grammar.specs.Contexts.{Context, loop_context}
use Rattle.ja_grammar.specs.Input.{Tokens, next, symbol, Done, Parser, and_then, ◌>>=◌, ◌>>◌, pure, look, opening, expect, Rules}
use Rattle.ja_grammar.specs.Productions.{Is, At, HasRoom}
use Rattle.ja_grammar.specs.ReadExpression.{Below, is_close_brace}
use Rattle.ja_grammar.specs.ReadStatement.{ended_by, ended, inner, block, bracketed, single_by, single, else_by, if_part, do_part, while_part, optional_by, optional, for_rest, for_by, for_part, statement_part}
use Rattle.ja_grammar.proofs.Real.{IsRealAfter, AreRealAfter}
use Rattle.ja_grammar.proofs.Closing.{parenthesis_closes}
use Rattle.ja_grammar.proofs.Good.{Follow, Sample, Any}
use Rattle.ja_grammar.proofs.Levels.{EndsExpression, ends_block, EndsStatement}
use Rattle.ja_grammar.proofs.Opening.{opening_done}
use Rattle.ja_grammar.proofs.Outcomes.{same_symbol_is}
use Rattle.ja_grammar.proofs.Roomier.{token_sample, expected_sample, then_pure}
use Rattle.ja_grammar.proofs.SampleTokens.{open_parenthesis, open_parenthesis_is, open_parenthesis_real, close_parenthesis, close_parenthesis_is, close_parenthesis_real, open_brace, open_brace_is, open_brace_real, close_brace, close_brace_is, close_brace_real, semicolon, semicolon_is, semicolon_real, while_word, while_word_is, while_word_real}
use Rattle.ja_grammar.proofs.Steps.{bind_sample, end_sample}
use Rattle.ja_grammar.proofs.Until.{until_sample}

-- ---- what ends a statement

-- neither `else` nor `finally` does
pub ends_no_else : (κ : Symbol) → ends_block κ ≡ true → κ ≢ k.Else
unfolding ends_block
ends_no_else κ h is = absurd (off (sym (ap ends_block is) ∙ h))
  where
    off : false ≡ true → ⊥
    off e = cc e

pub ends_no_finally : (κ : Symbol) → ends_block κ ≡ true → κ ≢ k.Finally
unfolding ends_block
ends_no_finally κ h is = absurd (off (sym (ap ends_block is) ∙ h))
  where
    off : false ≡ true → ⊥
    off e = cc e

pub brace_ends : (κ : Symbol) → κ ≡ k.CloseBrace → ends_block κ ≡ true
unfolding ends_block
brace_ends κ is = ap ends_block is

pub end_ends : (κ : Symbol) → κ ≡ k.End → ends_block κ ≡ true
unfolding ends_block
end_ends κ is = ap ends_block is

pub while_ends : (κ : Symbol) → κ ≡ k.While → ends_block κ ≡ true
unfolding ends_block
while_ends κ is = ap ends_block is

-- and then a value
pub ended_then_sample : {U : Tokens} {A : Type 0} {F H : Follow} (a : A)
    → ((tail : Tokens) → F (semicolon ∷ tail)) → Sample U (ended >> pure a) F H Any
unfolding ended
ended_then_sample a starts = record {
  more = semicolon ∷ [];
  value = a;
  real = (semicolon_real, tt);
  fits = tt;
  follows = λ tail _. starts tail;
  reads =
      λ tail _. ap (λ κ. and_then (ended_by κ semicolon.line_before (semicolon ∷ tail))
      (λ _. pure a)) semicolon_is;
}

-- the same, written out
pub semicolon_reads : {A : Type 0} (a : A) (tail : Tokens)
    → (ended >> pure a) (semicolon ∷ tail) ≡ Done a tail
unfolding ended
semicolon_reads a tail =
    ap (λ κ. and_then (ended_by κ semicolon.line_before (semicolon ∷ tail)) (λ _. pure a))
    semicolon_is

-- nothing more
pub pure_after : {U : Tokens} {A : Type 0} {H : Follow} (a : A) → Sample U (pure a) Any H Any
pure_after a = end_sample a tt (λ tail _. tt) (λ tail _. refl)

-- what anything may follow
pub any_after : {U : Tokens} {A : Type 0} {q : Parser A} {F H : Follow} {W : A → Type 0}
    → Sample U q F Any W → Sample U q F H W
any_after s =
    record {
      more = s.more;
      value = s.value;
      real = s.real;
      fits = s.fits;
      follows = λ tail _. s.follows tail tt;
      reads = λ tail _. s.reads tail tt;
    }

-- an opening token, and the rest
pub opened_sample : {U : Tokens} {A : Type 0} {G H : Follow} {W : A → Type 0} (g : Rules)
    → ((i : Tokens) → HasRoom g i) → (f : Token → Parser A) (κ : Symbol) (t : Token) → Is κ t
    → IsRealAfter U t
    → Sample U (f t) G H W → Sample U (opening g κ >>= f) Any H W
opened_sample g room f κ t is real s = record {
  more = t ∷ s.more;
  value = s.value;
  real = (real, s.real);
  fits = s.fits;
  follows = λ tail _. tt;
  reads =
      λ tail ends. ap (λ o. and_then o f) (opening_done g κ t (s.more ++ tail)
      (room (t ∷ (s.more ++ tail))) is) ∙ s.reads tail ends;
}

-- what follows an `if` without `else`
pub else_sample : {U : Tokens} (g : Rules) (b : Below) (c : Context) (place : Place)
    (x : Expression) (y : Statement)
    → Sample U (look (λ t. else_by g b c place x y (symbol t))) EndsStatement EndsStatement Any
else_sample g b c place x y =
    end_sample (s.If x y None place) tt (λ tail ends. ends)
    (λ tail ends. go tail (next tail) (ends_no_else (next tail) ends))
  where
    go : (tail : Tokens) (κ : Symbol) → κ ≢ k.Else
        → else_by g b c place x y κ tail ≡ Done (s.If x y None place) tail
    go tail k.Else other = absurd (other refl)
    go tail _ other = refl

-- a closing token, where an expression may stand
pub optional_sample : {U : Tokens} {H : Follow} (g : Rules) (b : Below) (close : Symbol) (t : Token)
    → Is close t → IsRealAfter U t → Sample U (optional g b close) Any H Any
unfolding optional
optional_sample g b close t is real = record {
  more = t ∷ [];
  value = None;
  real = (real, tt);
  fits = tt;
  follows = λ tail _. tt;
  reads =
      λ tail _. ap (λ a. optional_by g b close a (t ∷ tail)) (same_symbol_is (symbol t) close is);
}

-- the empty statement
pub single_sample : {U : Tokens} {H : Follow} (g : Rules) (b : Below) (c : Context) (labels : ℕ)
    (outermost : Bool) → Sample U (single g b c labels outermost) Any H Any
unfolding single
single_sample g b c labels outermost = record {
  more = semicolon ∷ [];
  value = s.Empty semicolon.place;
  real = (semicolon_real, tt);
  fits = tt;
  follows = λ tail _. tt;
  reads =
      λ tail _. ap (λ κ. single_by g b c labels outermost semicolon κ (semicolon ∷ tail))
      semicolon_is;
}

-- ---- the parts

module _ {U : Tokens} (g : Rules) (b : Below) (room : (i : Tokens) → HasRoom g i)
    (whole : Sample U (b.expression (of_expression.Whole false)) Any EndsExpression Any) where
  pub block_sample : (c : Context) → Sample U (block g b c) Any Any Any
  unfolding block
  block_sample c = opened_sample g room _ k.OpenBrace open_brace open_brace_is open_brace_real
      (bind_sample (until_sample {F = At k.CloseBrace} is_close_brace (inner g b c)
      (λ tail at. ap is_close_brace at))
      (λ xs _. token_sample k.CloseBrace close_brace close_brace_is close_brace_real
      (λ tail. close_brace_is) xs tt))

  pub bracketed_sample : Sample U (bracketed g b) Any Any Any
  unfolding bracketed
  bracketed_sample =
      opened_sample g room _ k.OpenParenthesis open_parenthesis open_parenthesis_is
      open_parenthesis_real
      (bind_sample whole (λ x _. token_sample k.CloseParenthesis close_parenthesis
      close_parenthesis_is close_parenthesis_real
      (λ tail. parenthesis_closes (symbol close_parenthesis) close_parenthesis_is) x tt))

  pub if_sample : (c : Context) (place : Place)
      → Sample U (if_part g b c place) Any EndsStatement Any
  unfolding if_part
  if_sample c place =
      bind_sample bracketed_sample (λ x _. bind_sample
      (single_sample {H = EndsStatement} g b c 0 false) (λ y _. else_sample g b c place x y))

  -- the `while` of a `do`
  pub while_sample : (place : Place) (x : Statement)
      → Sample U (expect k.While >>= (λ _. bracketed g b >>= (λ y. ended >> pure (s.Do x y place))))
      EndsStatement Any Any
  while_sample place x =
      expected_sample _ k.While while_word while_word_is while_word_real
      (λ tail. while_ends (symbol while_word) while_word_is)
      (bind_sample bracketed_sample (λ y _. ended_then_sample (s.Do x y place) (λ tail. tt)))

  pub do_sample : (c : Context) (place : Place) (labels : ℕ)
      → Sample U (do_part g b c place labels) Any Any Any
  unfolding do_part
  do_sample c place labels =
      bind_sample (single_sample {H = EndsStatement} g b (loop_context c labels) 0 false)
      (λ x _. while_sample place x)

  pub while_part_sample : (c : Context) (place : Place) (labels : ℕ)
      → Sample U (while_part g b c place labels) Any Any Any
  unfolding while_part
  while_part_sample c place labels =
      bind_sample bracketed_sample (λ x _. then_pure (λ y. s.While x y place)
      (single_sample {H = Any} g b (loop_context c labels) 0 false))

  pub for_rest_sample : (c : Context) (place : Place) (x : ForFirst Expression)
      → Sample U (for_rest g b c place x) Any Any Any
  unfolding for_rest
  for_rest_sample c place x =
      bind_sample (optional_sample {H = Any} g b k.Semicolon semicolon semicolon_is semicolon_real)
      (λ y _. bind_sample (optional_sample {H = Any} g b k.CloseParenthesis close_parenthesis
      close_parenthesis_is close_parenthesis_real)
      (λ z _. then_pure (λ w. s.For x y z w place) (single_sample {H = Any} g b c 0 false)))

  pub for_sample : (c : Context) (place : Place)
      → Sample U (look (λ t. for_by g b c place (symbol t))) Any Any Any
  for_sample c place = record {
    more = semicolon ∷ r.more;
    value = r.value;
    real = (semicolon_real, r.real);
    fits = tt;
    follows = λ tail _. tt;
    reads =
        λ tail _. ap (λ κ. for_by g b c place κ (semicolon ∷ (r.more ++ tail))) semicolon_is
        ∙ r.reads tail tt;
  }
    where
      r : Sample U (for_rest g b c place first.Nothing) Any Any Any
      r = for_rest_sample c place first.Nothing

  pub for_part_sample : (c : Context) (place : Place) (labels : ℕ)
      → Sample U (for_part g b c place labels) Any Any Any
  unfolding for_part
  for_part_sample c place labels =
      opened_sample g room _ k.OpenParenthesis open_parenthesis open_parenthesis_is
      open_parenthesis_real (for_sample (loop_context c labels) place)

  -- tokens, real behind any, that are read as the part
  pub statement_part_sample : (c : Context) (p : StatementPart)
      → (w : Tokens) × (v : Statement) × AreRealAfter U w
      × ((tail : Tokens) → EndsStatement tail
      → statement_part g b c p (w ++ tail) ≡ Done v tail)
  unfolding statement_part
  statement_part_sample c (part.Whole labels outermost) =
      let r = single_sample {H = Any} g b c labels outermost in
      (r.more, r.value, r.real, λ tail _. r.reads tail tt)
  statement_part_sample c (part.If place) = let r = if_sample c place in
      (r.more, r.value, r.real, r.reads)
  statement_part_sample c (part.Do place labels) = let r = do_sample c place labels in
      (r.more, r.value, r.real, λ tail _. r.reads tail tt)
  statement_part_sample c (part.While place labels) = let r = while_part_sample c place labels in
      (r.more, r.value, r.real, λ tail _. r.reads tail tt)
  statement_part_sample c (part.For place labels) = let r = for_part_sample c place labels in
      (r.more, r.value, r.real, λ tail _. r.reads tail tt)
