-- A name is an expression at every level: what completes a part.
use Rattle.std.proofs.Common.{◌≡◌, ◌≢◌, ℕ, zero, suc, Bool, true, false, not, is_none, List, [], ◌∷◌, refl, ap, ◌∙◌}
use Rattle.ja_lex.specs.declared.token.Token.{Token}
use Rattle.ja_syntax.specs.declared.symbol.Symbol.{Symbol}
use Rattle.ja_syntax.specs.declared.symbol.Symbol.TheVariants as k
use Rattle.ja_syntax.specs.declared.tree.Expression.{Expression}
use Rattle.ja_syntax.specs.declared.tree.Expression.TheVariants as e
use Rattle.ja_grammar.specs.Forms.{name_of, begins_suffix, begins_property, postfix_of, chained, operated, sequence}
use Rattle.ja_grammar.specs.Input.{Tokens, head, next, symbol, Done, Parser, and_then, ◌>>=◌, pure, look, until, many, separated, after_comma, Rules}
use Rattle.ja_grammar.specs.Productions.{Is, NotAt}
use Rattle.ja_grammar.specs.Operators.{binary_operator, unary_operator, prefix_update, assignment_operator, levels}
use Rattle.ja_grammar.specs.ReadExpression.{Below, primary, primary_by, chain_head, head_by, property_suffix, any_suffix, member, left_hand, postfix, postfix_by, unary, unary_by, operation, level, binary, conditional, conditional_by, assignment, assignment_by, whole, declared, declared_by, declared_name}
use Rattle.ja_grammar.proofs.Closing.{no_suffix_closes, no_binary_closes, no_assignment_closes, no_question_closes, no_postfix_closes, no_comma_closes}
use Rattle.ja_grammar.proofs.Good.{Sample, Any}
use Rattle.ja_grammar.proofs.Levels.{EndsExpression}
use Rattle.ja_grammar.proofs.Lists.{comma_turn}
use Rattle.ja_grammar.proofs.Outcomes.{same_symbol_other}
use Rattle.ja_grammar.proofs.SampleTokens.{name, name_is, name_real, name_is_free}
use Rattle.ja_grammar.proofs.Turns.{many_end}
use Rattle.ja_grammar.proofs.Until.{until_ends}

-- the expression
abbrev pub named : Expression
named = e.Name (name_of name)

-- a name is declared
pub declared_reads : (g : Rules) (tail : Tokens)
    → declared g (name ∷ tail) ≡ Done (name_of name) tail
unfolding declared
declared_reads g tail =
    ap (λ κ. declared_by g name κ (name ∷ tail)) name_is
    ∙ ap (λ b. declared_name g name b (name ∷ tail)) name_is_free

pub declared_sample : {U : Tokens} (g : Rules) → Sample U (declared g) Any Any Any
declared_sample g =
    record {
      more = name ∷ [];
      value = name_of name;
      real = (name_real, tt);
      fits = tt;
      follows = λ tail _. tt;
      reads = λ tail _. declared_reads g tail;
    }

-- the same parser, where the list that it begins with ends at once
until_none : {A B : Type 0} (ends : Symbol → Bool) (item : Parser A) (f : List A → Parser B)
    (r : Tokens) → ends (next r) ≡ true → (until ends item >>= f) r ≡ f [] r
unfolding until
until_none ends item f r h = ap (λ o. and_then o f) (until_ends ends item [] r h)

-- one item, and no comma behind it
separated_one : {A : Type 0} (item : Parser A) (i : Tokens) (x : A) (r : Tokens) → NotAt k.Comma r
    → item i ≡ Done x r → separated item i ≡ Done (x ∷ []) r
unfolding separated
separated_one item i x r h e = ap (λ o. and_then o (λ x. many (comma_turn item) (x ∷ []))) e
    ∙ many_end (comma_turn item) (x ∷ []) r
    (ap (λ b. after_comma item (x ∷ []) b r) (same_symbol_other (next r) k.Comma h))

module _ (g : Rules) (b : Below) (t : Token) (is : Is k.Name t) where
  pub primary_of_name : (tail : Tokens) → primary g b (t ∷ tail) ≡ Done (e.Name (name_of t)) tail
  unfolding primary
  primary_of_name tail = ap (λ κ. primary_by g b t κ (t ∷ tail)) is

  pub head_of_name : (tail : Tokens) → chain_head g b (t ∷ tail) ≡ Done (e.Name (name_of t)) tail
  unfolding chain_head
  head_of_name tail = ap (λ κ. head_by g b t κ (t ∷ tail)) is ∙ primary_of_name tail

  pub member_of_name : (tail : Tokens) → begins_property (next tail) ≡ false
      → member g b (t ∷ tail) ≡ Done (e.Name (name_of t)) tail
  unfolding member chained
  member_of_name tail ends =
      ap (λ o. and_then o (λ x. until (λ found. not (begins_property found)) (property_suffix g b)
      >>= (λ ss. pure (chained x ss)))) (head_of_name tail)
      ∙ until_none (λ found. not (begins_property found)) (property_suffix g b)
      (λ ss. pure (chained (e.Name (name_of t)) ss)) tail (ap not ends)

  pub left_hand_of_name : (tail : Tokens) → begins_suffix (next tail) ≡ false
      → left_hand g b (t ∷ tail) ≡ Done (e.Name (name_of t)) tail
  unfolding left_hand chained
  left_hand_of_name tail ends =
      ap (λ o. and_then o (λ x. until (λ found. not (begins_suffix found)) (any_suffix g b) >>=
      (λ ss. pure (chained x ss)))) (head_of_name tail)
      ∙ until_none (λ found. not (begins_suffix found)) (any_suffix g b)
      (λ ss. pure (chained (e.Name (name_of t)) ss)) tail (ap not ends)

  pub postfix_of_name : (tail : Tokens) → EndsExpression tail
      → postfix g b (t ∷ tail) ≡ Done (e.Name (name_of t)) tail
  unfolding postfix
  postfix_of_name tail ends =
      ap (λ o. and_then o (λ x. look (λ t. postfix_by g b x t (postfix_of t))))
      (left_hand_of_name tail (no_suffix_closes (next tail) ends))
      ∙ ap (λ o. postfix_by g b (e.Name (name_of t)) (head tail) o tail)
      (no_postfix_closes (head tail) ends)

  pub unary_of_name : (tail : Tokens) → EndsExpression tail
      → unary g b (t ∷ tail) ≡ Done (e.Name (name_of t)) tail
  unfolding unary unary_operator prefix_update
  unary_of_name tail ends =
      ap (λ κ. unary_by g b t (unary_operator κ) (prefix_update κ) (t ∷ tail)) is
      ∙ postfix_of_name tail ends

  pub binary_of_name : (no_in : Bool) (l : ℕ) (tail : Tokens) → EndsExpression tail
      → binary g b no_in l (t ∷ tail) ≡ Done (e.Name (name_of t)) tail
  unfolding binary level operated
  binary_of_name no_in zero tail ends = unary_of_name tail ends
  binary_of_name no_in (suc l) tail ends =
      ap (λ o. and_then o (λ x. until (λ found. is_none (binary_operator no_in (suc l) found))
      (operation g b no_in (suc l) (binary g b no_in l)) >>= (λ os. pure (operated t.place x os))))
      (binary_of_name no_in l tail ends)
      ∙ until_none (λ found. is_none (binary_operator no_in (suc l) found))
      (operation g b no_in (suc l) (binary g b no_in l))
      (λ os. pure (operated t.place (e.Name (name_of t)) os)) tail
      (ap is_none (no_binary_closes no_in (suc l) (next tail) ends))

  pub conditional_of_name : (no_in : Bool) (tail : Tokens) → EndsExpression tail
      → conditional g b no_in (t ∷ tail) ≡ Done (e.Name (name_of t)) tail
  unfolding conditional
  conditional_of_name no_in tail ends =
      ap (λ o. and_then o (λ x. look (λ u. conditional_by g b no_in t.place x (symbol u))))
      (binary_of_name no_in levels tail ends)
      ∙ go (next tail) (no_question_closes (next tail) ends)
    where
      go : (κ : Symbol) → κ ≢ k.Question → conditional_by g b no_in t.place (e.Name (name_of t)) κ
          tail ≡ Done (e.Name (name_of t)) tail
      go k.Question other = absurd (other refl)
      go _ other = refl

  pub assignment_of_name : (no_in : Bool) (tail : Tokens) → EndsExpression tail
      → assignment g b no_in (t ∷ tail) ≡ Done (e.Name (name_of t)) tail
  unfolding assignment
  assignment_of_name no_in tail ends =
      ap (λ o. and_then o (λ x. look (λ t. assignment_by g b no_in x t
      (assignment_operator (symbol t))))) (conditional_of_name no_in tail ends)
      ∙ ap (λ o. assignment_by g b no_in (e.Name (name_of t)) (head tail) o tail)
      (no_assignment_closes (next tail) ends)

  pub whole_of_name : (no_in : Bool) (tail : Tokens) → EndsExpression tail
      → whole g b no_in (t ∷ tail) ≡ Done (e.Name (name_of t)) tail
  unfolding whole sequence
  whole_of_name no_in tail ends = ap (λ o. and_then o (λ xs. pure (sequence t.place xs)))
      (separated_one (assignment g b no_in) (t ∷ tail) (e.Name (name_of t)) tail
      (no_comma_closes (next tail) ends) (assignment_of_name no_in tail ends))

-- the same of the sample
module _ (g : Rules) (b : Below) where
  pub member_name : (tail : Tokens) → begins_property (next tail) ≡ false
      → member g b (name ∷ tail) ≡ Done named tail
  member_name tail ends = member_of_name g b name name_is tail ends

  pub left_hand_name : (tail : Tokens) → begins_suffix (next tail) ≡ false
      → left_hand g b (name ∷ tail) ≡ Done named tail
  left_hand_name tail ends = left_hand_of_name g b name name_is tail ends

  pub unary_name : (tail : Tokens) → EndsExpression tail → unary g b (name ∷ tail) ≡ Done named tail
  unary_name tail ends = unary_of_name g b name name_is tail ends

  pub binary_name : (no_in : Bool) (l : ℕ) (tail : Tokens) → EndsExpression tail
      → binary g b no_in l (name ∷ tail) ≡ Done named tail
  binary_name no_in l tail ends = binary_of_name g b name name_is no_in l tail ends

  pub assignment_name : (no_in : Bool) (tail : Tokens) → EndsExpression tail
      → assignment g b no_in (name ∷ tail) ≡ Done named tail
  assignment_name no_in tail ends = assignment_of_name g b name name_is no_in tail ends

  pub whole_name : (no_in : Bool) (tail : Tokens) → EndsExpression tail
      → whole g b no_in (name ∷ tail) ≡ Done named tail
  whole_name no_in tail ends = whole_of_name g b name name_is no_in tail ends
