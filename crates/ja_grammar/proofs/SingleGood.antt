-- The place law of a statement (12).
use Rattle.std.proofs.Common.{◌≡◌, ◌≢◌, ℕ, suc, Bool, true, false, true≢false, not, [], ◌∷◌, ◌++◌, refl, sym, ap, ◌∙◌, arith, inl}
use Rattle.ja_lex.specs.declared.token.Token.{Token}
use Rattle.ja_syntax.specs.declared.symbol.Symbol.{Symbol}
use Rattle.ja_syntax.specs.declared.symbol.Symbol.TheVariants as k
use Rattle.ja_syntax.specs.declared.tree.Expression.{Expression}
use Rattle.ja_syntax.specs.declared.tree.Expression.TheVariants as e
use Rattle.ja_syntax.specs.declared.tree.Statement.{Statement}
use Rattle.ja_syntax.specs.declared.tree.Statement.TheVariants as s
use Rattle.ja_grammar.specs.declared.fault.Refusal.{Refusal}
use Rattle.ja_grammar.specs.declared.fault.Refusal.TheVariants.{Broken}
use Rattle.ja_grammar.specs.declared.part.StatementPart.{StatementPart}
use Rattle.ja_grammar.specs.declared.part.StatementPart.TheVariants as part
use Rattle.ja_grammar.specs.Contexts.{Context, labelled_context, has_label}
use Rattle.ja_grammar.specs.Forms.{word, name_of, is_label}
use Rattle.ja_grammar.specs.Input.{Tokens, head, next, behind, symbol, Done, Refused, Parser, and_then, ◌>>=◌, ◌>>◌, pure, look_second, separated, Rules, strict}
use Rattle.ja_grammar.specs.Language.{is_level, is_same}
use Rattle.ja_grammar.specs.Productions.{Is}
use Rattle.ja_grammar.specs.ReadExpression.{Below, assignment, whole}
use Rattle.ja_grammar.specs.ReadStatement.{ended, variable, variables, expression_statement, labelled, labelled_or_expression, function_statement, headed, single_by, single}
use Rattle.ja_grammar.proofs.BinaryGood.{assignment_good, assignment_sample, whole_good}
use Rattle.ja_grammar.proofs.BlockGood.{block_good, switch_good}
use Rattle.ja_grammar.proofs.Closing.{label_colon, no_comma_closes}
use Rattle.ja_grammar.proofs.ExpressionSamples.{whole_of_name}
use Rattle.ja_grammar.proofs.ExpressionTakes.{assignment_takes}
use Rattle.ja_grammar.proofs.Good.{Follow, Reason, elsewhere, Completes, CompletesWith, Sample, Refuses, GoodAt, Any, pure_good, bind_good, look_good}
use Rattle.ja_grammar.proofs.JumpGood.{is_out, semicolon_goes, variable_sample, ended_then_good, variable_good, continue_good, break_good, return_good, throw_good, labelled_good, labelled_moves, statement_sample, known_refused, known_reads}
use Rattle.ja_grammar.proofs.Levels.{EndsExpression, EndsStatement, AreNames}
use Rattle.ja_grammar.proofs.Lists.{separated_good, separated_sample}
use Rattle.ja_grammar.proofs.LiteralGood.{function_good}
use Rattle.ja_grammar.proofs.Outcomes.{same_refused, done_not_refused, cons_of}
use Rattle.ja_grammar.proofs.Real.{covers_front, reals_more}
use Rattle.ja_grammar.proofs.Roomier.{Roomier, enters, lower, unexpected, takes_pure}
use Rattle.ja_grammar.proofs.SampleTokens.{semicolon, semicolon_is, semicolon_real}
use Rattle.ja_grammar.proofs.Shrinks.{Takes, Moves}
use Rattle.ja_grammar.proofs.StatementSamples.{ended_then_sample, semicolon_reads, pure_after}
use Rattle.ja_grammar.proofs.StatementTakes.{variable_takes}
use Rattle.ja_grammar.proofs.Steps.{bind_sample, good_moves, look_second_good}
use Rattle.ja_grammar.proofs.Strict.{strict_asks}
use Rattle.ja_grammar.proofs.Taken.{token_good}
use Rattle.ja_grammar.proofs.TryGood.{try_good}

-- a name and what follows it are a label only where a colon follows
-- a name and a `;` are a statement
name_reads : (g : Rules) (b : Below) (t : Token) → Is k.Name t → (tail : Tokens)
    → expression_statement g b (t ∷ semicolon ∷ tail)
    ≡ Done (s.Expression (e.Name (name_of t)) t.place) tail
unfolding expression_statement
name_reads g b t is tail =
    ap (λ o. and_then o (λ x. ended >> pure (s.Expression x t.place)))
    (whole_of_name g b t is false (semicolon ∷ tail) (semicolon_goes tail))
    ∙ semicolon_reads (s.Expression (e.Name (name_of t)) t.place) tail

-- The token behind the next one is refused, where `q` may leave the rule out.
refused_behind : {U : Tokens} {O : Refusal} {A : Type 0} (J : Reason O) (F : Follow)
    (W : A → Type 0) (p q : Parser A) (i : Tokens) (why : Refusal) → is_level why ≡ false
    → ((u : Token) → elsewhere why u ≡ false) → next i ≢ k.End
    → J.right why (head i ∷ []) (behind i)
    → ((r : Tokens) → head (behind i) ≡ head r → p (head i ∷ r) ≡ Refused why r)
    → (is_same O why ≡ false → (r : Tokens) → head (behind i) ≡ head r
    → q (head i ∷ r) ≡ Refused why r)
    → Completes U q F W (head i ∷ []) → (is_same O why ≡ true
    → CompletesWith U q F W (head i ∷ []) why (behind i)) → GoodAt U J p q F W i
refused_behind {U} {O} {A} J F W p q i why level nowhere more right reads reads' one goes = record {
  done = λ a r e. absurd (done_not_refused (sym e ∙ at));
  refused = λ v r e. same_refused {A = A} (λ v r. Refuses U J p q F W i v r) (sym at ∙ e) (record {
    before = head i ∷ [];
    split = cons_of i more;
    whys = λ _. why;
    nearly = λ s _. refl;
    varies = λ s. inl refl;
    level = λ s. refl;
    local = reads;
    roomy = λ s same off. reads' (is_out O why level false off) s same;
    others = λ s on. absurd (true≢false (sym on ∙ nowhere (head s)));
    viable = one;
    goes_on = λ on. goes (is_out O why level true on);
    right = right;
  });
}
  where
    at : p i ≡ Refused why (behind i)
    at = ap p (cons_of i more) ∙ reads (behind i) refl

-- by a name and what follows it
abbrev by_two : (c : Context) (labels : ℕ) (g : Rules) (b : Below) → Token → Token
    → Parser Statement
by_two c labels g b t u = labelled_or_expression g b c labels (is_label (symbol t) (symbol u))

module _ (c : Context) (labels : ℕ) (i : Tokens) where
  at_colon : next i ≡ k.Name → is_label (next i) (next (behind i)) ≡ true
      → next (behind i) ≡ k.Colon
  at_colon is e =
      label_colon (next (behind i)) (ap (λ κ. is_label κ (next (behind i))) (sym is) ∙ e)

  -- a label is read where one is
  label_reads : (g : Rules) (b : Below) → is_label (next i) (next (behind i)) ≡ true → (r : Tokens)
      → head (behind i) ≡ head r
      → look_second (by_two c labels g b) (head i ∷ r) ≡ labelled g b c labels (head i ∷ r)
  label_reads g b label r same =
      ap (λ x. labelled_or_expression g b c labels x (head i ∷ r))
      (ap (λ u. is_label (next i) (symbol u)) (sym same) ∙ label)

  -- a `;` behind the name
  name_completes : (U : Tokens) (g : Rules) (b : Below) → next i ≡ k.Name
      → Completes U (look_second (by_two c labels g b)) EndsStatement Any (head i ∷ [])
  name_completes U g b is = (
    semicolon ∷ [],
    s.Expression (e.Name (name_of (head i))) (head i).place,
    tt,
    (semicolon_real, tt),
    λ tail _. ap (λ x. labelled_or_expression g b c labels x (head i ∷ semicolon ∷ tail))
        (ap (λ κ. is_label κ (symbol semicolon)) is ∙ ap (is_label k.Name) semicolon_is)
        ∙ name_reads g b (head i) is tail,
  )

module _ {U : Tokens} {O : Refusal} {J : Reason O} {d : ℕ} {g' : Rules} {b b' : Below}
    (h : Roomier J d g' b b') where
  -- ---- declarations and expressions

  pub declarations_good : (value next_value : Parser Expression) → Takes value → Takes next_value
      → ((i : Tokens) → GoodAt U J value next_value EndsExpression Any i)
      → Sample U next_value Any EndsExpression Any
      → (i : Tokens) → GoodAt U J (separated (variable (strict d) value))
      (separated (variable g' next_value)) EndsExpression Any i
  declarations_good value next_value takes takes' good sample i =
      separated_good {F = EndsExpression} {G = EndsExpression} (variable (strict d) value)
      (variable g' next_value) h.reasons.closed (variable_takes (strict d) takes)
      (variable_takes g' takes')
      (variable_good h value next_value good sample) (variable_sample g' next_value)
      (λ tail ends. ends) (λ tail ends. no_comma_closes (next tail) ends) i

  pub declarations_sample : (value : Parser Expression)
      → Sample U (separated (variable g' value)) Any EndsExpression Any
  declarations_sample value =
      separated_sample (variable g' value) (variable_sample g' value) (λ x. tt) (λ tail ends. ends)
      (λ tail ends. no_comma_closes (next tail) ends)

  variables_good : (i : Tokens) → next i ≡ k.Var
      → GoodAt U J (variables (strict d) b) (variables g' b') EndsStatement Any i
  unfolding variables
  variables_good i is =
      token_good (rest (strict d) b) (rest g' b') i h.reasons.closed (λ ends. cc (is, ends))
      (bind_good (behind i) h.reasons.closed
      (declarations_good (assignment (strict d) b false) (assignment g' b' false)
      (assignment_takes (strict d) h.takes false) (assignment_takes g' h.takes_more false)
      (assignment_good h false) (assignment_sample g' b' false) (behind i))
      (λ xs m _. ended_then_good h (s.Variables xs (head i).place) m)
      (λ xs _. ended_then_sample (s.Variables xs (head i).place) semicolon_goes))
      (bind_sample (declarations_sample (assignment g' b' false))
      (λ xs _. ended_then_sample (s.Variables xs (head i).place) semicolon_goes))
    where
      rest : (g : Rules) (b : Below) → Token → Parser Statement
      rest g b t =
          separated (variable g (assignment g b false)) >>=
          (λ xs. ended >> pure (s.Variables xs t.place))

  expression_statement_good : (i : Tokens)
      → GoodAt U J (expression_statement (strict d) b) (expression_statement g' b') EndsStatement
      Any i
  unfolding expression_statement
  expression_statement_good i =
      look_good (λ t. whole (strict d) b false >>= (λ x. ended >> pure (s.Expression x t.place)))
      (λ t. whole g' b' false >>= (λ x. ended >> pure (s.Expression x t.place))) i
      (bind_good i h.reasons.closed (whole_good h false i)
      (λ x m _. ended_then_good h (s.Expression x (head i).place) m)
      (λ x _. ended_then_sample (s.Expression x (head i).place) semicolon_goes))

  -- ---- a name begins a label or an expression

  module _ (c : Context) (names : AreNames U c) (labels : ℕ) (i : Tokens)
      (is : next i ≡ k.Name) where
    -- where no label is written inside itself
    fresh_good : (is_label (next i) (next (behind i)) ≡ true → has_label c (word (head i)) ≡ false)
        → GoodAt U J (look_second (by_two c labels (strict d) b))
        (look_second (by_two c labels g' b')) EndsStatement Any i
    fresh_good fresh =
        look_second_good (by_two c labels (strict d) b) (by_two c labels g' b') i
        (moves (is_label (next i) (next (behind i))) refl) (name_completes c labels i U g' b' is)
        (λ why u r. h.reasons.named why (head i) u r is)
        (good (is_label (next i) (next (behind i))) refl)
      where
        moves : (x : Bool) → is_label (next i) (next (behind i)) ≡ x
            → Moves (labelled_or_expression (strict d) b c labels x) i
        moves true e = labelled_moves h c names labels i is (at_colon c labels i is e) (fresh e)
        moves false f =
            good_moves i (head i ∷ semicolon ∷ [])
            (s.Expression (e.Name (name_of (head i))) (head i).place) []
            (expression_statement_good i) refl (name_reads (strict d) b (head i) is [])
            (omega arith)

        good : (x : Bool) → is_label (next i) (next (behind i)) ≡ x
            → GoodAt U J (labelled_or_expression (strict d) b c labels x)
            (labelled_or_expression g' b' c labels x) EndsStatement Any i
        good true e = labelled_good h c names labels i is (at_colon c labels i is e) (fresh e)
        good false e = expression_statement_good i

    -- where one is: it is refused at the `:`, unless that rule is left out
    known_good : has_label c (word (head i)) ≡ true → is_label (next i) (next (behind i)) ≡ true
        → GoodAt U J (look_second (by_two c labels (strict d) b))
        (look_second (by_two c labels g' b')) EndsStatement Any i
    known_good known label =
        refused_behind J EndsStatement Any (look_second (by_two c labels (strict d) b))
        (look_second (by_two c labels g' b')) i (Broken (head i).place) refl (λ u. refl)
        (λ ends. cc (is, ends))
        (h.reasons.free (Broken (head i).place) (head i ∷ []) (behind i) refl)
        (λ r same. label_reads c labels i (strict d) b label r same
        ∙ known_refused (strict d) b c labels (head i) r known
        (strict_asks d (Broken (head i).place) r refl))
        (λ kept r same. label_reads c labels i g' b' label r same
        ∙ known_refused g' b' c labels (head i) r known
        (h.asks (Broken (head i).place) refl r ∙ ap not kept))
        (name_completes c labels i U g' b' is)
        (λ out. (
          head (behind i) ∷ body.more,
          s.Labelled (name_of (head i)) body.value,
          tt,
          λ tail ends. (
            refl,
            label_reads c labels i g' b' label (head (behind i) ∷ (body.more ++ tail)) refl
                ∙ known_reads g' b' c labels (head i) (head (behind i)) (body.more ++ tail) known
                (h.asks (Broken (head i).place) refl (head (behind i) ∷ (body.more ++ tail))
                ∙ ap not out)
                (h.some_label (head i).place (head (behind i) ∷ (body.more ++ tail)))
                (body.reads tail ends),
          ),
          reals_more U (U ++ head i ∷ []) (covers_front U (head i ∷ [])) body.more body.real,
        ))
      where
        body : Sample U (b'.statement (labelled_context c (word (head i)))
            (part.Whole (suc labels) false)) Any EndsStatement Any
        body =
            statement_sample h (labelled_context c (word (head i))) (part.Whole (suc labels) false)

    name_good : GoodAt U J (look_second (by_two c labels (strict d) b))
        (look_second (by_two c labels g' b')) EndsStatement Any i
    name_good = at (has_label c (word (head i))) refl (is_label (next i) (next (behind i))) refl
      where
        at : (known : Bool) → has_label c (word (head i)) ≡ known → (label : Bool)
            → is_label (next i) (next (behind i)) ≡ label
            → GoodAt U J (look_second (by_two c labels (strict d) b))
            (look_second (by_two c labels g' b')) EndsStatement Any i
        at false e label f = fresh_good (λ _. e)
        at true e false f = fresh_good (λ g. cc (f, g))
        at true e true f = known_good e f

  -- ---- a statement

  function_statement_good : (outermost : Bool) (i : Tokens)
      → GoodAt U J (function_statement (strict d) b outermost) (function_statement g' b' outermost)
      EndsStatement Any i
  function_statement_good true i =
      bind_good i h.reasons.closed (function_good h true i)
      (λ f r _. pure_good J EndsStatement Any (s.Function f) r) (λ f _. pure_after (s.Function f))
  function_statement_good false i = unexpected h EndsStatement Any i

  headed_good : (c : Context) → AreNames U c → (p : StatementPart) (i : Tokens) → next i ≢ k.End
      → next i ≢ k.Colon → GoodAt U J (headed (strict d) b c p) (headed g' b' c p) EndsStatement Any
      i
  headed_good c names p i more other =
      bind_good i h.reasons.closed (enters h i more other)
      (λ t r q. (lower h i q).statement U c names p r) (λ t _. statement_sample h c p)

  pub single_good : (c : Context) → AreNames U c → (labels : ℕ) (outermost : Bool) (i : Tokens)
      → GoodAt U J (single (strict d) b c labels outermost) (single g' b' c labels outermost)
      EndsStatement Any i
  unfolding single
  single_good c names labels outermost i =
      look_good (λ t. single_by (strict d) b c labels outermost t (symbol t))
      (λ t. single_by g' b' c labels outermost t (symbol t)) i (go (next i) refl)
    where
      go : (κ : Symbol) → next i ≡ κ → GoodAt U J
          (single_by (strict d) b c labels outermost (head i) κ)
          (single_by g' b' c labels outermost (head i) κ) EndsStatement Any i
      go k.OpenBrace is =
          bind_good i h.reasons.closed (block_good h c names i)
          (λ xs r _. pure_good J EndsStatement Any (s.Block xs (head i).place) r)
          (λ xs _. pure_after (s.Block xs (head i).place))
      go k.Var is = variables_good i is
      go k.Semicolon is = takes_pure h (s.Empty (head i).place) tt i (λ ends. cc (is, ends))
      go k.If is =
          headed_good c names (part.If (head i).place) i (λ ends. cc (is, ends))
          (λ colon. cc (is, colon))
      go k.Do is =
          headed_good c names (part.Do (head i).place labels) i (λ ends. cc (is, ends))
          (λ colon. cc (is, colon))
      go k.While is =
          headed_good c names (part.While (head i).place labels) i (λ ends. cc (is, ends))
          (λ colon. cc (is, colon))
      go k.For is =
          headed_good c names (part.For (head i).place labels) i (λ ends. cc (is, ends))
          (λ colon. cc (is, colon))
      go k.Continue is = continue_good h c i is
      go k.Break is = break_good h c names i is
      go k.Return is = return_good h c i is
      go k.Switch is = switch_good h c names i is
      go k.Throw is = throw_good h i is
      go k.Try is = try_good h c names i is
      go k.Function is = function_statement_good outermost i
      go k.Name is = name_good c names labels i is
      go _ is = expression_statement_good i
