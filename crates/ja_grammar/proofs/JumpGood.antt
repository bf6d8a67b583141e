-- The place laws of what ends a statement, of declared variables, jumps and labels (7.9, 12.2, 12.7
-- to 12.9, 12.12, 12.13).
use Rattle.std.proofs.Common.{◌≡◌, ◌≢◌, inl, ℕ, suc, ◌<◌, if◌then◌else◌, Bool, true, false, true≢false, not, ◌&&◌, ◌||◌, List, [], ◌∷◌, ◌++◌, length, Option, Some, None, refl, sym, ap, ◌∙◌, subst, arith}
use Rattle.ja_base.specs.declared.ids.Place.{Place}
use Rattle.ja_lex.specs.declared.token.Token.{Token}
use Rattle.ja_syntax.specs.declared.symbol.Symbol.{Symbol}
use Rattle.ja_syntax.specs.declared.symbol.Symbol.TheVariants as k
use Rattle.ja_syntax.specs.declared.tree.Declaration.{Declaration}
use Rattle.ja_syntax.specs.declared.tree.Expression.{Expression}
use Rattle.ja_syntax.specs.declared.tree.Name.{Name}
use Rattle.ja_syntax.specs.declared.tree.Statement.{Statement}
use Rattle.ja_syntax.specs.declared.tree.Statement.TheVariants as s
use Rattle.ja_grammar.specs.declared.fault.Refusal.{Refusal}
use Rattle.ja_grammar.specs.declared.fault.Refusal.TheVariants.{Unexpected, DeepLabel, Broken, Alone, UnknownLabel}
use Rattle.ja_grammar.specs.declared.part.StatementPart.{StatementPart}
use Rattle.ja_grammar.specs.declared.part.StatementPart.TheVariants as part
use Rattle.ja_grammar.specs.Contexts.{Context, labelled_context, has_label, has_loop, may_break}
use Rattle.ja_grammar.specs.Forms.{word, name_of, is_name, is_label_behind, ends_statement, ends_return}
use Rattle.ja_grammar.specs.Input.{Tokens, head, next, behind, symbol, Done, Refused, Parser, and_then, ◌>>=◌, ◌>>◌, pure, look, look_second, take_token, Rules, strict}
use Rattle.ja_grammar.specs.Language.{is_level, is_same}
use Rattle.ja_grammar.specs.Productions.{At}
use Rattle.ja_grammar.specs.ReadExpression.{Below}
use Rattle.ja_grammar.specs.ReadStatement.{ended_by, ended, variable_by, variable, labelled_by, unlabelled_by, target_by, jump_target, without_target, enter_label, untargeted, continue, continue_by, break, break_by, returned, returned_by, return, return_by, thrown, thrown_by, throw, label, label_by, labelled}
use Rattle.ja_grammar.proofs.BinaryGood.{whole_good}
use Rattle.ja_grammar.proofs.Closing.{semicolon_closes}
use Rattle.ja_grammar.proofs.ExpressionSamples.{named, declared_sample, whole_name}
use Rattle.ja_grammar.proofs.Good.{Follow, Reason, Closed, lifted, elsewhere, CompletesWith, CompletesElsewhere, Sample, GoodAt, Any, unexpected_stays, pure_good, bind_good, bind_good_by, bind_good_in, look_good, is_jump}
use Rattle.ja_grammar.proofs.LabelNames.{labelled_names, break_label}
use Rattle.ja_grammar.proofs.Levels.{closes, EndsExpression, EndsStatement, AreNames}
use Rattle.ja_grammar.proofs.LiteralGood.{declared_good}
use Rattle.ja_grammar.proofs.Outcomes.{same_done, bind_inverse, done_value, rest_of, unless_reads, unless_refuses, unless_inverse}
use Rattle.ja_grammar.proofs.Real.{Has, covers_nothing, covers_first, reals_more}
use Rattle.ja_grammar.proofs.Roomier.{Roomier, then_pure, unexpected, takes_pure, takes_one}
use Rattle.ja_grammar.proofs.SampleTokens.{name, name_real, name_line, colon, colon_real, semicolon, semicolon_is, semicolon_real}
use Rattle.ja_grammar.proofs.Shrinks.{Leaves, Moves, bind_moves, take_moves}
use Rattle.ja_grammar.proofs.StatementSamples.{ended_then_sample, semicolon_reads}
use Rattle.ja_grammar.proofs.Steps.{pure_sample, bind_sample, end_sample, take_good, unless_good, level_good, second_refused, good_within}
use Rattle.ja_grammar.proofs.Strict.{strict_asks, strict_never, room_strict_label}
use Rattle.ja_grammar.proofs.Taken.{taken_reason, taken_good, token_good, token_closes}
use Rattle.ja_grammar.proofs.Walks.{enter_label_done, labelled_entered}

-- ---- what ends an expression

-- is no `=`
no_assign : (κ : Symbol) → closes κ ≡ true → κ ≢ k.Assign
unfolding closes
no_assign κ h is = absurd (off (sym (ap closes is) ∙ h))
  where
    off : false ≡ true → ⊥
    off e = cc e

-- is no label
no_label : (t : Token) → closes (symbol t) ≡ true → is_label_behind t ≡ false
unfolding closes is_label_behind
no_label t h = ap (λ b. b && not t.line_before) (go (symbol t) h)
  where
    go : (κ : Symbol) → closes κ ≡ true → is_name κ ≡ false
    go k.Name h = absurd (cc h)
    go _ h = refl

-- a label is not the end
label_more : (t : Token) → is_label_behind t ≡ true → symbol t ≢ k.End
unfolding is_label_behind
label_more t h ends = absurd (off (sym (ap (λ κ. is_name κ && not t.line_before) ends) ∙ h))
  where
    off : false ≡ true → ⊥
    off e = cc e

-- with a `;` no value follows a `return`
return_ends : (t : Token) → symbol t ≡ k.Semicolon → ends_return t ≡ true
unfolding ends_return
return_ends t is = ap (λ κ. t.line_before || ends_statement κ) is ∙ go t.line_before
  where
    go : (line : Bool) → (line || true) ≡ true
    go true = refl
    go false = refl

pub semicolon_goes : (tail : Tokens) → EndsExpression (semicolon ∷ tail)
semicolon_goes tail = semicolon_closes (symbol semicolon) semicolon_is

-- ---- samples

-- a variable without a value
variable_ends : (value : Parser Expression) (x : Name) (tail : Tokens) → EndsExpression tail
    → look (λ t. variable_by value x t (symbol t)) tail
    ≡ Done (record { name = x; initialiser = None }) tail
variable_ends value x tail ends = go (next tail) (no_assign (next tail) ends)
  where
    go : (κ : Symbol) → κ ≢ k.Assign → variable_by value x (head tail) κ tail
        ≡ Done (record { name = x; initialiser = None }) tail
    go k.Assign other = absurd (other refl)
    go _ other = refl

pub variable_sample : {U : Tokens} (g : Rules) (value : Parser Expression)
    → Sample U (variable g value) Any EndsExpression Any
unfolding variable
variable_sample g value =
    bind_sample (declared_sample g) (λ x _.
    end_sample _ tt (λ tail _. tt) (λ tail ends. variable_ends value x tail ends))

-- no label
alone_sample : {U : Tokens} (g : Rules) (allowed known : List ℕ → Bool) (t : Token)
    → Sample U (jump_target g allowed known true t.place) Any EndsExpression Any
unfolding jump_target
alone_sample g allowed known t =
    end_sample None tt (λ tail _. tt) (λ tail ends.
    ap (λ b. target_by g allowed known true t.place (head tail) b tail) (no_label (head tail) ends))

-- what follows a `break`
break_sample : {U : Tokens} (g : Rules) (c : Context) (t : Token) → AreNames U c
    → may_break c ≡ true → Sample U (jump_target g (has_label c) (has_label c) c.in_breakable
    t.place) Any EndsExpression Any
unfolding jump_target
break_sample {U} g c t names may = go c.in_breakable refl
  where
    go : (b : Bool) → c.in_breakable ≡ b → Sample U
        (jump_target g (has_label c) (has_label c) b t.place) Any EndsExpression Any
    go true off = alone_sample g (has_label c) (has_label c) t
    go false off = let u = break_label U c names may off in record {
      more = u.0 ∷ [];
      value = Some (name_of u.0);
      real = (u.1, tt);
      fits = tt;
      follows = λ tail _. tt;
      reads =
          λ tail _. ap (λ b. target_by g (has_label c) (has_label c) false t.place u.0 b
          (u.0 ∷ tail)) u.2
          ∙ ap (λ b. labelled_by g t.place u.0 b (has_label c (word u.0)) (u.0 ∷ tail)) u.3;
    }

-- no label where one is needed: refused, unless that rule isn't asked
alone_refuses : (g : Rules) (allowed known : List ℕ → Bool) (place : Place) (x : Tokens)
    → is_label_behind (head x) ≡ false → g (Alone place) x ≡ true
    → jump_target g allowed known false place x ≡ Refused (Alone place) x
unfolding jump_target
alone_refuses g allowed known place x none on =
    ap (λ b. target_by g allowed known false place (head x) b x) none
    ∙ unless_refuses g (Alone place) (pure None) x on

alone_reads : (g : Rules) (allowed known : List ℕ → Bool) (place : Place) (x : Tokens)
    → is_label_behind (head x) ≡ false → g (Alone place) x ≡ false
    → jump_target g allowed known false place x ≡ Done None x
unfolding jump_target
alone_reads g allowed known place x none off =
    ap (λ b. target_by g allowed known false place (head x) b x) none
    ∙ unless_reads g (Alone place) (pure None) x off

-- why the word of a jump is refused where there is nothing to leave: for one of two reasons
by_reason : (P : Refusal → Type 0) (c : Context) (t : Token) → P (UnknownLabel t.place)
    → P Unexpected → P (without_target c t)
unfolding without_target
by_reason P c t known wrong = go (is_label_behind t && not (has_label c (word t)))
  where
    go : (b : Bool) → P (if b then UnknownLabel t.place else Unexpected)
    go true = known
    go false = wrong

target_level : (c : Context) (t : Token) → is_level (without_target c t) ≡ false
target_level c t = by_reason (λ why. is_level why ≡ false) c t refl refl

-- a refusal that is no level's is lifted only where its rule is left out
pub is_out : (O why : Refusal) → is_level why ≡ false → (b : Bool) → lifted O why ≡ b
    → is_same O why ≡ b
is_out O why level b h = sym (ap (λ a. a || is_same O why) level) ∙ h

-- behind a token that the reason of the first part speaks of, one after the other
taken_bind : {U : Tokens} {O : Refusal} {A B : Type 0} {p q : Parser A} {f g : A → Parser B}
    {F G : Follow} {V : A → Type 0} {W : B → Type 0} {J : Reason O} (t : Token) (i : Tokens)
    → Closed J
    → GoodAt U (taken_reason J t) p q F V i
    → ((a : A) (r : Tokens) → p i ≡ Done a r → GoodAt U J (f a) (g a) G W r)
    → ((a : A) → V a → Sample U (g a) F G W)
    → GoodAt U (taken_reason J t) (p >>= f) (q >>= g) G W i
taken_bind {J = J} t i closed first second sample =
    bind_good_by {K = taken_reason J t} {L = λ a. J} i first (λ a r e. inl (second a r e)) sample
    (λ why w r h. h)
    (λ a m s why v r e h. (
      closed why (t ∷ s.before) v r h,
      λ u on none. J.taken why u r (subst (λ w. J.right why w r) (nothing s.before v none) h) on,
    ))
  where
    nothing : (w v : Tokens) → w ++ v ≡ [] → v ≡ []
    nothing [] v e = e
    nothing (u ∷ w) v e = cc e

module _ (g : Rules) (b : Below) where
  -- no value
  returned_sample : {U : Tokens} → Sample U (returned g b) Any (At k.Semicolon) Any
  unfolding returned
  returned_sample =
      end_sample None tt (λ tail _. tt) (λ tail at.
      ap (λ a. returned_by g b a tail) (return_ends (head tail) at))

  thrown_sample : {U : Tokens} → Sample U (thrown g b) Any EndsExpression Any
  unfolding thrown
  thrown_sample = record {
    more = name ∷ [];
    value = named;
    real = (name_real, tt);
    fits = tt;
    follows = λ tail _. tt;
    reads =
        λ tail ends. ap (λ a. thrown_by g b a (name ∷ tail)) name_line
        ∙ whole_name g b false tail ends;
  }

-- the rest of a label that is new
label_rest : (g : Rules) (b : Below) (c : Context) → Token → Parser Token
label_rest g b c t = label_by g b t (has_label c (word t)) >> pure t

-- the statement behind a label
abbrev labelled_behind : (b : Below) → Context → ℕ → Token → Parser Statement
labelled_behind b c labels t =
    b.statement (labelled_context c (word t)) (part.Whole (suc labels) false) >>=
    (λ x. pure (s.Labelled (name_of t) x))

module _ {U : Tokens} {O : Refusal} {J : Reason O} {d : ℕ} {g' : Rules} {b b' : Below}
    (h : Roomier J d g' b b') where
  -- ---- what ends a statement

  pub ended_good : (F : Follow) (i : Tokens) → GoodAt U J ended ended F Any i
  unfolding ended
  ended_good F i =
      look_good (λ t. ended_by (symbol t) t.line_before) (λ t. ended_by (symbol t) t.line_before) i
      (go (next i) (head i).line_before refl)
    where
      go : (κ : Symbol) (line : Bool) → next i ≡ κ
          → GoodAt U J (ended_by κ line) (ended_by κ line) F Any i
      go k.Semicolon line is = takes_pure h tt tt i (λ ends. cc (is, ends))
      go k.CloseBrace line is = pure_good J F Any tt i
      go k.End line is = pure_good J F Any tt i
      go _ true is = pure_good J F Any tt i
      go _ false is = unexpected h F Any i

  -- and then a statement
  pub ended_then_good : (x : Statement) (i : Tokens)
      → GoodAt U J (ended >> pure x) (ended >> pure x) EndsStatement Any i
  ended_then_good x i =
      bind_good i h.reasons.closed (ended_good EndsStatement i)
      (λ _ r _. pure_good J EndsStatement Any x r) (λ _ _. pure_sample x tt)

  -- ---- a declared variable

  pub variable_good : (value next_value : Parser Expression)
      → ((i : Tokens) → GoodAt U J value next_value EndsExpression Any i)
      → Sample U next_value Any EndsExpression Any
      → (i : Tokens) → GoodAt U J (variable (strict d) value) (variable g' next_value)
      EndsExpression Any i
  unfolding variable
  variable_good value next_value good sample i = bind_good i h.reasons.closed (declared_good h i)
      (λ x r _. look_good (λ t. variable_by value x t (symbol t))
      (λ t. variable_by next_value x t (symbol t)) r (go x r (next r) refl))
      (λ x _. end_sample _ tt (λ tail _. tt) (λ tail ends. variable_ends next_value x tail ends))
    where
      given : Name → Token → Expression → Declaration Expression
      given x t y = record { name = x; initialiser = Some (record { value = y; place = t.place }) }

      go : (x : Name) (r : Tokens) (κ : Symbol) → next r ≡ κ
          → GoodAt U J (variable_by value x (head r) κ) (variable_by next_value x (head r) κ)
          EndsExpression Any r
      go x r k.Assign is = bind_good r h.reasons.closed (takes_one h r (λ ends. cc (is, ends)))
          (λ t m _. bind_good m h.reasons.closed (good m)
          (λ y l _. pure_good J EndsExpression Any (given x (head r) y) l)
          (λ y _. pure_sample (given x (head r) y) tt))
          (λ t _. then_pure (given x (head r)) sample)
      go x r _ is = pure_good J EndsExpression Any _ r

  -- ---- jumps

  -- the label of a jump, where it may stand alone or a label comes next
  jump_target_good : (allowed known : List ℕ → Bool) (alone : Bool) (place : Place) (i : Tokens)
      → (is_label_behind (head i) ≡ false → alone ≡ true)
      → GoodAt U J (jump_target (strict d) allowed known alone place)
      (jump_target g' allowed known alone place) EndsExpression Any i
  unfolding jump_target
  jump_target_good allowed known alone place i may =
      look_good (λ u. target_by (strict d) allowed known alone place u (is_label_behind u))
      (λ u. target_by g' allowed known alone place u (is_label_behind u)) i
      (go (is_label_behind (head i)) refl)
    where
      take_label : Parser (Option Name)
      take_label = take_token >> pure (Some (name_of (head i)))

      labels : (x y : Bool) → is_label_behind (head i) ≡ true
          → GoodAt U J (labelled_by (strict d) place (head i) x y)
          (labelled_by g' place (head i) x y) EndsExpression Any i
      labels true y is = takes_pure h (Some (name_of (head i))) tt i (label_more (head i) is)
      labels false true is =
          unless_good J EndsExpression Any d g' (Broken place) take_label take_label i refl
          (h.asks (Broken place) refl) (h.reasons.free (Broken place) [] i refl)
          (λ out. (head i ∷ [], Some (name_of (head i)), tt, λ tail _. (refl, refl), tt))
      labels false false is = unexpected h EndsExpression Any i

      alones : (x : Bool) → x ≡ true → GoodAt U J (unlabelled_by (strict d) place x)
          (unlabelled_by g' place x) EndsExpression Any i
      alones true on = pure_good J EndsExpression Any None i
      alones false on = absurd (cc on)

      go : (x : Bool) → is_label_behind (head i) ≡ x
          → GoodAt U J (target_by (strict d) allowed known alone place (head i) x)
          (target_by g' allowed known alone place (head i) x) EndsExpression Any i
      go true is = labels (allowed (word (head i))) (known (word (head i))) is
      go false is = alones alone (may is)

  -- the word of a jump where there is nothing to leave
  untargeted_good : (jump : Token → Option Name → Statement) (c : Context) (i : Tokens)
      → GoodAt U J (look_second (λ t u. untargeted (strict d) b (jump t) c u))
      (look_second (λ t u. untargeted g' b' (jump t) c u)) EndsStatement Any i
  untargeted_good jump c i =
      second_refused J EndsStatement Any (without_target c)
      (look_second (λ t u. untargeted (strict d) b (jump t) c u))
      (look_second (λ t u. untargeted g' b' (jump t) c u)) i
      (λ u. by_reason (λ why. is_jump why ≡ true) c u refl refl) (target_level c)
      (λ u v. by_reason (λ why. elsewhere why v ≡ false) c u refl refl)
      (λ s. unless_refuses (strict d) (without_target c (head (behind s))) (rest s) s
      (strict_asks d (without_target c (head (behind s))) s (target_level c (head (behind s)))))
      (λ s off. unless_refuses g' (without_target c (head (behind s))) (rest s) s
      (asked s (head (behind s)) false off))
      goes (by_reason (λ why. J.right why [] i) c (head (behind i))
      (h.reasons.free (UnknownLabel (head (behind i)).place) [] i refl)
      (h.reasons.free Unexpected [] i refl))
    where
      rest : Tokens → Parser Statement
      rest s =
          take_token >> (take_token >> (ended >> pure
          (jump (head s) (Some (name_of (head (behind s)))))))

      asked : (s : Tokens) (u : Token) (b : Bool) → lifted O (without_target c u) ≡ b
          → g' (without_target c u) s ≡ not b
      asked s u b e =
          h.asks (without_target c u) (target_level c u) s
          ∙ ap not (is_out O (without_target c u) (target_level c u) b e)

      text : Tokens → Tokens
      text tail = head i ∷ head (behind i) ∷ semicolon ∷ tail

      -- both tokens are taken, and a `;`
      goes : lifted O (without_target c (head (behind i))) ≡ true
          → CompletesWith U (look_second (λ t u. untargeted g' b' (jump t) c u)) EndsStatement Any
          [] (without_target c (head (behind i))) i
      goes on =
          by_reason (λ why. lifted O why ≡ true
          → CompletesWith U (look_second (λ t u. untargeted g' b' (jump t) c u)) EndsStatement Any
          [] why i) c (head (behind i))
          (λ _. (
            head i ∷ head (behind i) ∷ semicolon ∷ [],
            jump (head i) (Some (name_of (head (behind i)))),
            tt,
            λ tail _. (
              (refl, refl),
              unless_reads g' (without_target c (head (behind i))) (rest i) (text tail)
                  (asked (text tail) (head (behind i)) true on)
                  ∙ semicolon_reads (jump (head i) (Some (name_of (head (behind i))))) tail,
            ),
            (semicolon_real, tt),
          ))
          (λ wrong. absurd (true≢false (sym wrong ∙ unexpected_stays O)))
          on

  pub continue_good : (c : Context) (i : Tokens) → next i ≡ k.Continue
      → GoodAt U J (continue (strict d) b c) (continue g' b' c) EndsStatement Any i
  unfolding continue
  continue_good c i is = go c.in_loop
    where
      rest : Rules → Token → Parser Statement
      rest g t =
          jump_target g (has_loop c) (has_label c) true t.place >>=
          (λ x. ended >> pure (s.Continue x t.place))

      go : (a : Bool) → GoodAt U J (continue_by (strict d) b c a) (continue_by g' b' c a)
          EndsStatement Any i
      go true = token_good (rest (strict d)) (rest g') i h.reasons.closed (λ ends. cc (is, ends))
          (bind_good (behind i) h.reasons.closed
          (jump_target_good (has_loop c) (has_label c) true (head i).place (behind i) (λ _. refl))
          (λ x m _. ended_then_good (s.Continue x (head i).place) m)
          (λ x _. ended_then_sample (s.Continue x (head i).place) semicolon_goes))
          (bind_sample (alone_sample g' (has_loop c) (has_label c) (head i))
          (λ x _. ended_then_sample (s.Continue x (head i).place) semicolon_goes))
      go false = untargeted_good (λ t x. s.Continue x t.place) c i

  pub break_good : (c : Context) → AreNames U c → (i : Tokens) → next i ≡ k.Break
      → GoodAt U J (break (strict d) b c) (break g' b' c) EndsStatement Any i
  unfolding break
  break_good c names i is = go (may_break c) refl
    where
      why : Refusal
      why = Alone (head i).place

      made : Option Name → Statement
      made x = s.Break x (head i).place

      rest : Rules → Token → Parser Statement
      rest g t =
          jump_target g (has_label c) (has_label c) c.in_breakable t.place >>=
          (λ x. ended >> pure (s.Break x t.place))

      unlabelled : (x : Tokens) → elsewhere why (head x) ≡ true → is_label_behind (head x) ≡ false
      unlabelled x on = no (is_label_behind (head x)) on
        where
          no : (b : Bool) → not b ≡ true → b ≡ false
          no true on = cc on
          no false on = refl

      -- no label comes next where one is needed
      refuses : (g : Rules) (x : Tokens) → c.in_breakable ≡ false → elsewhere why (head x) ≡ true
          → g why x ≡ true → rest g (head i) x ≡ Refused why x
      refuses g x off on asks =
          ap (λ a. and_then (jump_target g (has_label c) (has_label c) a (head i).place x)
          (λ x. ended >> pure (made x))) off
          ∙ ap (λ o. and_then o (λ x. ended >> pure (made x)))
          (alone_refuses g (has_label c) (has_label c) (head i).place x (unlabelled x on) asks)

      -- without that rule, a `;` will do
      goes : c.in_breakable ≡ false → is_same O why ≡ true
          → CompletesElsewhere U (rest g' (head i)) EndsStatement Any why
      goes off out = (
        semicolon ∷ [],
        made None,
        tt,
        λ tail _. (
          ap not none,
          ap (λ a. and_then (jump_target g' (has_label c) (has_label c) a (head i).place
              (semicolon ∷ tail)) (λ x. ended >> pure (made x))) off
              ∙ ap (λ o. and_then o (λ x. ended >> pure (made x)))
              (alone_reads g' (has_label c) (has_label c) (head i).place (semicolon ∷ tail) none
              (h.asks why refl (semicolon ∷ tail) ∙ ap not out))
              ∙ semicolon_reads (made None) tail,
        ),
        (semicolon_real, tt),
      )
        where
          none : is_label_behind semicolon ≡ false
          none = no_label semicolon (semicolon_closes (symbol semicolon) semicolon_is)

      sample : may_break c ≡ true → Sample U (rest g' (head i)) Any EndsStatement Any
      sample may =
          bind_sample (break_sample g' c (head i) names may)
          (λ x _. ended_then_sample (made x) semicolon_goes)

      follows : may_break c ≡ true → (is_label_behind (head (behind i)) ≡ false
          → c.in_breakable ≡ true) → GoodAt U J (take_token >>= rest (strict d))
          (take_token >>= rest g') EndsStatement Any i
      follows may alone =
          token_good (rest (strict d)) (rest g') i h.reasons.closed (λ ends. cc (is, ends))
          (bind_good (behind i) h.reasons.closed
          (jump_target_good (has_label c) (has_label c) c.in_breakable (head i).place (behind i)
          alone)
          (λ x m _. ended_then_good (made x) m)
          (λ x _. ended_then_sample (made x) semicolon_goes))
          (sample may)

      target : may_break c ≡ true → (a : Bool) → c.in_breakable ≡ a → (l : Bool)
          → is_label_behind (head (behind i)) ≡ l
          → GoodAt U J (take_token >>= rest (strict d)) (take_token >>= rest g') EndsStatement Any i
      target may true on l e = follows may (λ _. on)
      target may false off true e = follows may (λ none. cc (e, none))
      target may false off false e =
          token_closes (rest (strict d)) (rest g') i h.reasons.closed (λ ends. cc (is, ends)) why
          refl (ap not e)
          (λ x on. refuses (strict d) x off on (strict_asks d why x refl))
          (λ kept x on. refuses g' x off on (h.asks why refl x ∙ ap not kept))
          (λ x on. on) (goes off) (h.reasons.alone (head i).place (head i) (behind i) is (ap not e))
          (sample may)

      go : (a : Bool) → may_break c ≡ a → GoodAt U J (break_by (strict d) b c a)
          (break_by g' b' c a) EndsStatement Any i
      go true may = target may c.in_breakable refl (is_label_behind (head (behind i))) refl
      go false may = untargeted_good (λ t x. s.Break x t.place) c i

  returned_good : (i : Tokens) → GoodAt U J (returned (strict d) b) (returned g' b')
      (At k.Semicolon) Any i
  unfolding returned
  returned_good i =
      look_good (λ t. returned_by (strict d) b (ends_return t))
      (λ t. returned_by g' b' (ends_return t)) i (go (ends_return (head i)))
    where
      go : (a : Bool) → GoodAt U J (returned_by (strict d) b a) (returned_by g' b' a)
          (At k.Semicolon) Any i
      go true = pure_good J (At k.Semicolon) Any None i
      go false =
          bind_good i h.reasons.closed (whole_good h false i)
          (λ x r _. pure_good J (At k.Semicolon) Any (Some x) r)
          (λ x _. end_sample (Some x) tt (λ tail at. semicolon_closes (next tail) at)
          (λ tail at. refl))

  pub return_good : (c : Context) (i : Tokens) → next i ≡ k.Return
      → GoodAt U J (return (strict d) b c) (return g' b' c) EndsStatement Any i
  unfolding return
  return_good c i is = go c.in_function
    where
      rest : (g : Rules) (b : Below) → Token → Parser Statement
      rest g b t = returned g b >>= (λ x. ended >> pure (s.Return x t.place))

      go : (a : Bool) → GoodAt U J (return_by (strict d) b a) (return_by g' b' a) EndsStatement Any
          i
      go true =
          token_good (rest (strict d) b) (rest g' b') i h.reasons.closed (λ ends. cc (is, ends))
          (bind_good (behind i) h.reasons.closed (returned_good (behind i))
          (λ x m _. ended_then_good (s.Return x (head i).place) m)
          (λ x _. ended_then_sample (s.Return x (head i).place) (λ tail. semicolon_is)))
          (bind_sample (returned_sample g' b')
          (λ x _. ended_then_sample (s.Return x (head i).place) (λ tail. semicolon_is)))
      go false = unexpected h EndsStatement Any i

  thrown_good : (i : Tokens) → GoodAt U J (thrown (strict d) b) (thrown g' b') EndsExpression Any i
  unfolding thrown
  thrown_good i =
      look_good (λ t. thrown_by (strict d) b t.line_before) (λ t. thrown_by g' b' t.line_before) i
      (go (head i).line_before)
    where
      go : (a : Bool) → GoodAt U J (thrown_by (strict d) b a) (thrown_by g' b' a) EndsExpression Any
          i
      go true = unexpected h EndsExpression Any i
      go false = whole_good h false i

  pub throw_good : (i : Tokens) → next i ≡ k.Throw
      → GoodAt U J (throw (strict d) b) (throw g' b') EndsStatement Any i
  unfolding throw
  throw_good i is =
      token_good (rest (strict d) b) (rest g' b') i h.reasons.closed (λ ends. cc (is, ends))
      (bind_good (behind i) h.reasons.closed (thrown_good (behind i))
      (λ x m _. ended_then_good (s.Throw x (head i).place) m)
      (λ x _. ended_then_sample (s.Throw x (head i).place) semicolon_goes))
      (bind_sample (thrown_sample g' b') (λ x _.
      ended_then_sample (s.Throw x (head i).place) semicolon_goes))
    where
      rest : (g : Rules) (b : Below) → Token → Parser Statement
      rest g b t = thrown g b >>= (λ x. ended >> pure (s.Throw x t.place))

  -- ---- labels

  -- the `:` of a label
  colon_good : (i : Tokens) → next (behind i) ≡ k.Colon
      → GoodAt U (taken_reason J (head i)) (enter_label (strict d) (head i).place)
      (enter_label g' (head i).place) Any Any (behind i)
  unfolding enter_label
  colon_good i at =
      level_good (taken_reason J (head i)) Any Any d g' (DeepLabel (head i).place) take_token
      take_token (behind i) refl (h.some_label (head i).place)
      (λ none. (h.reasons.deep_label (head i) (behind i) at, λ u on. absurd (cc on)))
      (head (behind i) ∷ [], head (behind i), tt, λ tail _. (refl, refl), tt)
      (λ some. take_good (taken_reason J (head i)) Any Any (behind i) (λ ends. cc (at, ends)) tt)

  new_good : (c : Context) (i : Tokens) → next i ≡ k.Name → next (behind i) ≡ k.Colon
      → has_label c (word (head i)) ≡ false
      → GoodAt U (taken_reason J (head i)) (label_rest (strict d) b c (head i))
      (label_rest g' b' c (head i)) Any (λ t. head i ≡ t) (behind i)
  unfolding label_rest
  new_good c i is at new = good (has_label c (word (head i))) new
    where
      good : (x : Bool) → x ≡ false → GoodAt U (taken_reason J (head i))
          (label_by (strict d) b (head i) x >> pure (head i))
          (label_by g' b' (head i) x >> pure (head i)) Any (λ t. head i ≡ t) (behind i)
      good true off = absurd (cc off)
      good false off =
          taken_bind (head i) (behind i) h.reasons.closed (colon_good i at)
          (λ u m _. pure_good J Any (λ t. head i ≡ t) (head i) m) (λ u _. pure_sample (head i) refl)

  pub label_good : (c : Context) (i : Tokens) → next i ≡ k.Name → next (behind i) ≡ k.Colon
      → has_label c (word (head i)) ≡ false
      → GoodAt U J (label (strict d) b c) (label g' b' c) Any (λ t. head i ≡ t) i
  unfolding label label_rest
  label_good c i is at new =
      taken_good (label_rest (strict d) b c) (label_rest g' b' c) i (λ ends. cc (is, ends))
      (new_good c i is at new) (sample (has_label c (word (head i))) new)
    where
      sample : (x : Bool) → x ≡ false → Sample U (label_by g' b' (head i) x >> pure (head i)) Any
          Any (λ t. head i ≡ t)
      sample true off = absurd (cc off)
      sample false off = record {
        more = colon ∷ [];
        value = head i;
        real = (colon_real, tt);
        fits = refl;
        follows = λ tail _. tt;
        reads =
            λ tail _. ap (λ o. and_then o (λ _. pure (head i)))
            (enter_label_done g' (head i).place colon tail
            (h.some_label (head i).place (colon ∷ tail)));
      }

module _ {O : Refusal} {J : Reason O} {d : ℕ} {g' : Rules} {b b' : Below}
    (h : Roomier J d g' b b') where
  label_moves : (c : Context) (i : Tokens) → next i ≡ k.Name → next (behind i) ≡ k.Colon
      → has_label c (word (head i)) ≡ false → Moves (label (strict d) b c) i
  unfolding label label_rest
  label_moves c i is at new = bind_moves i (take_moves i (λ ends. cc (is, ends)))
      (λ t r e. same_done (λ t r. Leaves false (label_rest (strict d) b c t r) r) e
      (good_within (behind i) (new_good {U = []} h c i is at new)))

  -- what a label that was read says
  label_reads : (c : Context) (i : Tokens) (t : Token) (r : Tokens)
      → label (strict d) b c i ≡ Done t r → (0 < d) × (head i ≡ t)
  unfolding label
  label_reads c i t r e = go (has_label c (word (head i))) e
    where
      go : (x : Bool) → and_then (label_by (strict d) b (head i) x (behind i)) (λ _. pure (head i))
          ≡ Done t r → (0 < d) × (head i ≡ t)
      go true e =
          let s = bind_inverse (label_by (strict d) b (head i) true) (λ _. pure (head i)) (behind i)
          e in
          absurd (strict_never d (Broken (head i).place) (behind i) refl
          (unless_inverse (strict d) (Broken (head i).place)
          (enter_label (strict d) (head i).place) (behind i) s.2).0)
      go false e =
          let s = bind_inverse (enter_label (strict d) (head i).place) (λ _. pure (head i))
          (behind i) e in (
            room_strict_label d (head i).place (behind i)
                (labelled_entered (strict d) (head i).place (behind i) s.2).0,
            done_value s.3,
          )

module _ {U : Tokens} {O : Refusal} {J : Reason O} {d : ℕ} {g' : Rules} {b b' : Below}
    (h : Roomier J d g' b b') where
  pub statement_sample : (c : Context) (p : StatementPart)
      → Sample U (b'.statement c p) Any EndsStatement Any
  statement_sample c p = let s = h.samples.statement c p in
      record {
        more = s.0;
        value = s.1;
        real = reals_more [] U (covers_nothing U) s.0 s.2;
        fits = tt;
        follows = λ tail _. tt;
        reads = s.3;
      }

  rest_good : (c : Context) → AreNames U c → (labels : ℕ) (i : Tokens) → next i ≡ k.Name
      → (t : Token) (r : Tokens) → label (strict d) b c i ≡ Done t r
      → GoodAt (t ∷ U) J (labelled_behind b c labels t) (labelled_behind b' c labels t)
      EndsStatement Any r
  rest_good c names labels i is t r e = let f = label_reads h c i t r e in
      bind_good r h.reasons.closed ((h.good f.0).statement (t ∷ U) (labelled_context c (word t))
      (labelled_names U c t (ap symbol (sym f.1) ∙ is) names) (part.Whole (suc labels) false) r)
      (λ x m _. pure_good J EndsStatement Any (s.Labelled (name_of t) x) m)
      (λ x _. pure_sample (s.Labelled (name_of t) x) tt)

  pub labelled_good : (c : Context) → AreNames U c → (labels : ℕ) (i : Tokens) → next i ≡ k.Name
      → next (behind i) ≡ k.Colon → has_label c (word (head i)) ≡ false
      → GoodAt U J (labelled (strict d) b c labels) (labelled g' b' c labels) EndsStatement Any i
  unfolding labelled
  labelled_good c names labels i is at new =
      bind_good_in {K = J} {L = λ t. J} (λ t. t ∷ U) i (label_good h c i is at new)
      (λ t m s v. covers_first t U s.before v (stands t m s.before s.split (s.local m refl)))
      (λ t r e. inl (rest_good c names labels i is t r e))
      (λ t _. then_pure (λ x. s.Labelled (name_of t) x)
      (statement_sample (labelled_context c (word t)) (part.Whole (suc labels) false)))
      (λ why w r j. j) (λ t m s why v r e j. h.reasons.closed why s.before v r j)
    where
      -- the name of the label stands before what is labelled
      stands : (t : Token) (m w : Tokens) → i ≡ w ++ m → label (strict d) b c (w ++ m) ≡ Done t m
          → Has t w
      stands t m w split e = first w split (ap (label (strict d) b c) split ∙ e)
        where
          first : (w : Tokens) → i ≡ w ++ m → label (strict d) b c i ≡ Done t m → Has t w
          first [] split e =
              absurd (let n = (label_moves h c i is at new).moves in
              let a = ap (λ o. length (rest_of o)) e in let l = ap length split in
              omega (arith, n, a, l))
          first (u ∷ w) split e = inl (sym (ap head split) ∙ (label_reads h c i t m e).1)

  pub labelled_moves : (c : Context) → AreNames U c → (labels : ℕ) (i : Tokens) → next i ≡ k.Name
      → next (behind i) ≡ k.Colon → has_label c (word (head i)) ≡ false
      → Moves (labelled (strict d) b c labels) i
  unfolding labelled
  labelled_moves c names labels i is at new =
      bind_moves i (label_moves h c i is at new)
      (λ t r e. good_within r (rest_good c names labels i is t r e))

-- a label inside itself: refused, unless that rule isn't asked
pub known_refused : (g : Rules) (b : Below) (c : Context) (labels : ℕ) (t : Token) (r : Tokens)
    → has_label c (word t) ≡ true → g (Broken t.place) r ≡ true
    → labelled g b c labels (t ∷ r) ≡ Refused (Broken t.place) r
unfolding labelled label
known_refused g b c labels t r known on =
    ap (λ x. and_then (and_then (label_by g b t x r) (λ _. pure t)) (labelled_behind b c labels))
    known
    ∙ ap (λ o. and_then (and_then o (λ _. pure t)) (labelled_behind b c labels))
    (unless_refuses g (Broken t.place) (enter_label g t.place) r on)

pub known_reads : (g : Rules) (b : Below) (c : Context) (labels : ℕ) (t u : Token) (m : Tokens)
    {x : Statement} {r : Tokens} → has_label c (word t) ≡ true
    → g (Broken t.place) (u ∷ m) ≡ false → g (DeepLabel t.place) (u ∷ m) ≡ false
    → b.statement (labelled_context c (word t)) (part.Whole (suc labels) false) m ≡ Done x r
    → labelled g b c labels (t ∷ u ∷ m) ≡ Done (s.Labelled (name_of t) x) r
unfolding labelled label
known_reads g b c labels t u m known off room e =
    ap (λ x. and_then (and_then (label_by g b t x (u ∷ m)) (λ _. pure t))
    (labelled_behind b c labels)) known
    ∙ ap (λ o. and_then (and_then o (λ _. pure t)) (labelled_behind b c labels))
    (unless_reads g (Broken t.place) (enter_label g t.place) (u ∷ m) off
    ∙ enter_label_done g t.place u m room)
    ∙ ap (λ o. and_then o (λ x. pure (s.Labelled (name_of t) x))) e
