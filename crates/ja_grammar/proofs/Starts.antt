-- With which symbols no statement begins: so a list of statements ends there.
use Rattle.std.proofs.Common.{◌≡◌, ◌≢◌, ℕ, zero, suc, Bool, true, false, true≢false, None, refl, sym, ap, ◌∙◌}
use Rattle.ja_lex.specs.declared.token.Token.{Token}
use Rattle.ja_syntax.specs.declared.symbol.Symbol.{Symbol}
use Rattle.ja_syntax.specs.declared.symbol.Symbol.TheVariants as k
use Rattle.ja_syntax.specs.declared.tree.Expression.{Expression}
use Rattle.ja_syntax.specs.declared.tree.Statement.{Statement}
use Rattle.ja_grammar.specs.declared.part.ExpressionPart.TheVariants as of_expression
use Rattle.ja_grammar.specs.declared.part.StatementPart.TheVariants as part
use Rattle.ja_grammar.specs.Contexts.{Context}
use Rattle.ja_grammar.specs.Forms.{ends_clause, literal_of, literal_by}
use Rattle.ja_grammar.specs.Input.{Tokens, head, next, Done, Parser, ◌>>=◌, separated, Rules}
use Rattle.ja_grammar.specs.Operators.{unary_operator, prefix_update, levels}
use Rattle.ja_grammar.specs.ReadExpression.{Below, is_close_brace, is_close_bracket, literal, primary, primary_by, chain_head, head_by, left_hand, postfix, unary, unary_by, level, binary, conditional, assignment, whole}
use Rattle.ja_grammar.specs.ReadExpression as read
use Rattle.ja_grammar.specs.ReadStatement.{expression_statement, single, single_by, is_end}
use Rattle.ja_grammar.proofs.Outcomes.{refused_not_done, bind_inverse, same_symbol_other}

-- a list of statements may end with these
abbrev pub ends_list : Symbol → Bool
ends_list k.CloseBrace = true
ends_list k.Case = true
ends_list k.Default = true
ends_list k.End = true
ends_list _ = false

-- the statements and the assignment expressions one level below begin with none of them
pub record BelowStarts (b : Below) : Type 0 where
  pub expression : (no_in : Bool) (i : Tokens) (x : Expression) (r : Tokens)
      → b.expression (of_expression.Assignment no_in) i ≡ Done x r → ends_list (next i) ≡ false
  pub statement : (c : Context) (labels : ℕ) (outermost : Bool) (i : Tokens) (x : Statement)
      (r : Tokens) → b.statement c (part.Whole labels outermost) i ≡ Done x r
      → ends_list (next i) ≡ false

-- ---- the ends of the lists

pub no_close_brace : (κ : Symbol) → ends_list κ ≡ false → is_close_brace κ ≡ false
no_close_brace k.CloseBrace h = cc h
no_close_brace k.End h = cc h
no_close_brace _ h = refl

pub no_close_bracket : (κ : Symbol) → κ ≢ k.CloseBracket → κ ≢ k.End → is_close_bracket κ ≡ false
no_close_bracket k.CloseBracket h h' = absurd (h refl)
no_close_bracket k.End h h' = absurd (h' refl)
no_close_bracket _ h h' = refl

pub not_the_end : (κ : Symbol) → ends_list κ ≡ false → κ ≢ k.End
not_the_end κ h e = true≢false (sym (ap ends_list e) ∙ h)

pub no_end : (κ : Symbol) → ends_list κ ≡ false → is_end κ ≡ false
no_end κ h = same_symbol_other κ k.End (λ e. true≢false (sym (ap ends_list e) ∙ h))

pub no_clause_end : (κ : Symbol) → ends_list κ ≡ false → ends_clause κ ≡ false
unfolding ends_clause
no_clause_end k.CloseBrace h = cc h
no_clause_end k.Case h = cc h
no_clause_end k.Default h = cc h
no_clause_end k.End h = cc h
no_clause_end _ h = refl

-- ---- an expression does not begin with them

record RefusesAt {A : Type 0} (p : Parser A) (i : Tokens) : Type 0 where
  refuses : (a : A) (r : Tokens) → p i ≡ Done a r → ⊥

bind_refuses : {A B : Type 0} {p : Parser A} (f : A → Parser B) (i : Tokens) → RefusesAt p i
    → RefusesAt (p >>= f) i
bind_refuses {p = p} f i h =
    record { refuses = λ v r e. let s = bind_inverse p f i e in h.refuses s.0 s.1 s.2 }

no_literal : (κ : Symbol) (t : Token) → ends_list κ ≡ true → literal_by κ t ≡ None
no_literal k.CloseBrace t h = refl
no_literal k.Case t h = refl
no_literal k.Default t h = refl
no_literal k.End t h = refl
no_literal _ t h = cc h

no_unary_operator : (κ : Symbol) → ends_list κ ≡ true → unary_operator κ ≡ None
unfolding unary_operator
no_unary_operator k.CloseBrace h = refl
no_unary_operator k.Case h = refl
no_unary_operator k.Default h = refl
no_unary_operator k.End h = refl
no_unary_operator _ h = cc h

no_prefix_update : (κ : Symbol) → ends_list κ ≡ true → prefix_update κ ≡ None
unfolding prefix_update
no_prefix_update k.CloseBrace h = refl
no_prefix_update k.Case h = refl
no_prefix_update k.Default h = refl
no_prefix_update k.End h = refl
no_prefix_update _ h = cc h

module _ (g : Rules) (b : Below) (i : Tokens) (ends : ends_list (next i) ≡ true) where
  literal_refuses : RefusesAt (literal g b) i
  unfolding literal literal_of
  literal_refuses =
      record {
        refuses = λ a r e. refused_not_done
            (ap (λ o. read.literal_by g b (head i) o i) (sym (no_literal (next i) (head i) ends)) ∙ e);
      }

  primary_refuses : RefusesAt (primary g b) i
  unfolding primary
  primary_refuses = record { refuses = go (next i) ends }
    where
      go : (κ : Symbol) → ends_list κ ≡ true → (a : _) (r : Tokens)
          → primary_by g b (head i) κ i ≡ Done a r → ⊥
      go k.CloseBrace h = literal_refuses.refuses
      go k.Case h = literal_refuses.refuses
      go k.Default h = literal_refuses.refuses
      go k.End h = literal_refuses.refuses
      go _ h = cc h

  head_refuses : RefusesAt (chain_head g b) i
  unfolding chain_head
  head_refuses = record { refuses = go (next i) ends }
    where
      go : (κ : Symbol) → ends_list κ ≡ true → (a : _) (r : Tokens)
          → head_by g b (head i) κ i ≡ Done a r → ⊥
      go k.CloseBrace h = primary_refuses.refuses
      go k.Case h = primary_refuses.refuses
      go k.Default h = primary_refuses.refuses
      go k.End h = primary_refuses.refuses
      go _ h = cc h

  left_hand_refuses : RefusesAt (left_hand g b) i
  unfolding left_hand
  left_hand_refuses = bind_refuses _ i head_refuses

  postfix_refuses : RefusesAt (postfix g b) i
  unfolding postfix
  postfix_refuses = bind_refuses _ i left_hand_refuses

  unary_refuses : RefusesAt (unary g b) i
  unfolding unary
  unary_refuses = record {
    refuses = λ a r e. postfix_refuses.refuses a r
        (ap (λ o. unary_by g b (head i) None o i) (sym (no_prefix_update (next i) ends))
        ∙ ap (λ o. unary_by g b (head i) o (prefix_update (next i)) i)
        (sym (no_unary_operator (next i) ends)) ∙ e);
  }

  binary_refuses : (no_in : Bool) (l : ℕ) → RefusesAt (binary g b no_in l) i
  unfolding binary level
  binary_refuses no_in zero = unary_refuses
  binary_refuses no_in (suc l) =
      record { refuses = (bind_refuses _ i (binary_refuses no_in l)).refuses }

  conditional_refuses : (no_in : Bool) → RefusesAt (conditional g b no_in) i
  unfolding conditional
  conditional_refuses no_in =
      record { refuses = (bind_refuses _ i (binary_refuses no_in levels)).refuses }

  assignment_refuses : (no_in : Bool) → RefusesAt (assignment g b no_in) i
  unfolding assignment
  assignment_refuses no_in = bind_refuses _ i (conditional_refuses no_in)

  whole_refuses : (no_in : Bool) → RefusesAt (whole g b no_in) i
  unfolding whole separated
  whole_refuses no_in =
      record { refuses = (bind_refuses _ i (bind_refuses _ i (assignment_refuses no_in))).refuses }

  statement_refuses : RefusesAt (expression_statement g b) i
  unfolding expression_statement
  statement_refuses = record { refuses = (bind_refuses _ i (whole_refuses false)).refuses }

pub assignment_starts : (g : Rules) (b : Below) (no_in : Bool) (i : Tokens) (x : Expression)
    (r : Tokens) → assignment g b no_in i ≡ Done x r → ends_list (next i) ≡ false
assignment_starts g b no_in i x r e = go (ends_list (next i)) refl
  where
    go : (c : Bool) → ends_list (next i) ≡ c → ends_list (next i) ≡ false
    go true h = absurd ((assignment_refuses g b i h no_in).refuses x r e)
    go false h = h

-- nor does a statement
pub single_starts : (g : Rules) (b : Below) (c : Context) (labels : ℕ) (outermost : Bool)
    (i : Tokens) (x : Statement) (r : Tokens) → single g b c labels outermost i ≡ Done x r
    → ends_list (next i) ≡ false
unfolding single
single_starts g b c labels outermost i x r e = go (next i) refl e
  where
    go : (κ : Symbol) → next i ≡ κ → single_by g b c labels outermost (head i) κ i ≡ Done x r
        → ends_list (next i) ≡ false
    go k.CloseBrace h e = absurd ((statement_refuses g b i (ap ends_list h)).refuses x r e)
    go k.Case h e = absurd ((statement_refuses g b i (ap ends_list h)).refuses x r e)
    go k.Default h e = absurd ((statement_refuses g b i (ap ends_list h)).refuses x r e)
    go k.End h e = absurd ((statement_refuses g b i (ap ends_list h)).refuses x r e)
    go _ h e = ap ends_list h
