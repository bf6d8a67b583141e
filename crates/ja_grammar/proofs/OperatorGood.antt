-- The place laws of operators before and behind an operand (11.3, 11.4).
use Rattle.std.proofs.lemmas.Bool.{not-true}
use Rattle.std.proofs.Common.{◌≡◌, ◌≢◌, ◌⊎◌, inl, inr, ℕ, suc, ◌≤◌, Bool, true, false, true≢false, not, ◌||◌, is_some, [], ◌∷◌, ◌++◌, length, Option, Some, None, refl, sym, ap, ◌∙◌, subst, arith}
use Rattle.ja_base.specs.declared.ids.Place.{Place}
use Rattle.ja_lex.specs.declared.token.Token.{Token}
use Rattle.ja_syntax.specs.declared.symbol.Symbol.TheVariants as k
use Rattle.ja_syntax.specs.declared.tree.Expression.{Expression}
use Rattle.ja_syntax.specs.declared.tree.Expression.TheVariants as e
use Rattle.ja_syntax.specs.declared.tree.UnaryOperator.{UnaryOperator}
use Rattle.ja_syntax.specs.declared.tree.UpdateOperator.{UpdateOperator}
use Rattle.ja_syntax.specs.References.{is_reference}
use Rattle.ja_grammar.specs.declared.fault.Refusal.{Refusal}
use Rattle.ja_grammar.specs.declared.fault.Refusal.TheVariants.{Broken, Operand}
use Rattle.ja_grammar.specs.declared.part.ExpressionPart.TheVariants as part
use Rattle.ja_grammar.specs.Forms.{begins_suffix, postfix_of, is_prefix, chained}
use Rattle.ja_grammar.specs.Input.{Tokens, head, next, symbol, Done, Refused, Parser, and_then, ◌>>=◌, ◌>>◌, pure, look, take_token, enter, until, Rules, strict}
use Rattle.ja_grammar.specs.Operators.{unary_operator, prefix_update}
use Rattle.ja_grammar.specs.ReadExpression.{Below, chain_head, any_suffix, left_hand, postfix, postfix_by, updated_behind, operand_close, operand_by, updated, updated_by, unary, unary_by}
use Rattle.ja_grammar.proofs.Agree.{BelowTakes}
use Rattle.ja_grammar.proofs.ChainGood.{IsReference, left_hand_good, left_hand_good_reference}
use Rattle.ja_grammar.proofs.Closing.{end_no_suffix, no_suffix_closes, no_postfix_closes, unary_more, unary_no_colon, prefix_more, prefix_no_colon, postfix_more}
use Rattle.ja_grammar.proofs.Ends.{split_one}
use Rattle.ja_grammar.proofs.ExpressionTakes.{any_suffix_takes, left_hand_takes}
use Rattle.ja_grammar.proofs.Good.{Reason, CompletesWith, Sample, Stops, GoodAt, Closes, Any, pure_good, bind_good, bind_good_by, look_good}
use Rattle.ja_grammar.proofs.LeftHandAhead.{left_hand_ahead}
use Rattle.ja_grammar.proofs.Levels.{EndsExpression, BelowGood, owed_reason}
use Rattle.ja_grammar.proofs.Until.{many_last, until_is}
use Rattle.ja_grammar.proofs.Outcomes.{done_rest, bind_inverse, take_inverse, enter_done, entered_token, unless_reads, unless_refuses}
use Rattle.ja_grammar.proofs.Roomier.{Roomier, then_pure, enters, lower, unexpected, takes_pure, below_sample}
use Rattle.ja_grammar.proofs.Steps.{pure_sample, end_sample, unless_good}
use Rattle.ja_grammar.proofs.Strict.{strict_asks}

not_both : (c c' : Bool) → (c || c') ≡ true → c ≡ false → c' ≡ false → ⊥
not_both c c' e off off' = true≢false (sym e ∙ ap (λ x. x || c') off ∙ off')

module _ (g : Rules) (b : Below) where
  -- behind a member or call stands no suffix
  left_hand_stops : BelowTakes b → (i : Tokens) (x : Expression) (r : Tokens)
      → left_hand g b i ≡ Done x r → begins_suffix (next r) ≡ false
  unfolding left_hand
  left_hand_stops takes i x r q =
      let s = bind_inverse (chain_head g b) (λ x.
      until (λ found. not (begins_suffix found)) (any_suffix g b) >>=
      (λ ss. pure (chained x ss))) i q in
      let t = bind_inverse (until (λ found. not (begins_suffix found)) (any_suffix g b))
      (λ ss. pure (chained s.0 ss)) s.1 s.3 in
      subst (λ m. begins_suffix (next m) ≡ false) (done_rest t.3)
      (many_last s.1 t.0 t.1 (until_is (λ found. not (begins_suffix found)) (any_suffix g b)
      (λ i x m. any_suffix g b i ≡ Done x m) (λ m. begins_suffix (next m) ≡ false)
      (any_suffix_takes g takes) end_no_suffix
      (λ i x m _ h. h) s.1 t.0 t.1 (not-true (begins_suffix (next t.1))) t.2))

  -- a reference with no operator behind it is an operand
  pub operand_reads : (place : Place) (x : Expression) (r : Tokens) → IsReference x
      → postfix_of (head r) ≡ None → operand_close g b place x r ≡ Done x r
  unfolding operand_close
  operand_reads place x r w none =
      ap (λ c. operand_by g b place x (head r) c (postfix_of (head r)) r) w
      ∙ ap (λ o. operand_by g b place x (head r) true o r) none

  -- what is none is an operand where the rule isn't asked
  operand_whole : (place : Place) (x : Expression) (r : Tokens) → is_reference x ≡ false
      → g (Operand place) r ≡ false → operand_close g b place x r ≡ Done x r
  unfolding operand_close
  operand_whole place x r is off =
      ap (λ c. operand_by g b place x (head r) c (postfix_of (head r)) r) is
      ∙ unless_reads g (Operand place) (pure x) r off

  operand_refused : (place : Place) (x : Expression) (r : Tokens) → is_reference x ≡ false
      → g (Operand place) r ≡ true → operand_close g b place x r ≡ Refused (Operand place) r
  unfolding operand_close
  operand_refused place x r is on =
      ap (λ c. operand_by g b place x (head r) c (postfix_of (head r)) r) is
      ∙ unless_refuses g (Operand place) (pure x) r on

module _ {O : Refusal} {J : Reason O} {d : ℕ} {g' : Rules} {b b' : Below}
    (h : Roomier J d g' b b') where
  -- a reason, once a token stands before what was read
  owed : (why : Refusal) (w r : Tokens) → J.right why w r → (owed_reason J).right why w r
  owed why w r j = (
    λ t. h.reasons.closed why (t ∷ []) w r j,
    λ u on none. J.taken why u r (subst (λ v. J.right why v r) none j) on,
  )

  -- a prefix operator, and what completes it
  prefixed : (U : Tokens) (place : Place) (i : Tokens) → is_prefix (next i) ≡ true
      → CompletesWith U (unary g' b') EndsExpression Any [] (Broken place) i
  unfolding unary is_prefix
  prefixed U place i is = go (unary_operator (next i)) (prefix_update (next i)) refl refl
    where
      by : Option UnaryOperator → Option UpdateOperator → Parser Expression
      by found update = unary_by g' b' (head i) found update

      -- the operator is taken
      taken : (p : Parser Expression) (x : Tokens) → (enter g' >> p) (head i ∷ x) ≡ p x
      taken p x = ap (λ o. and_then o (λ _. p)) (enter_done g' (head i) x (h.some (head i ∷ x)))

      same : (found : Option UnaryOperator) (update : Option UpdateOperator)
          → unary_operator (next i) ≡ found → prefix_update (next i) ≡ update → (x : Tokens)
          → by (unary_operator (next i)) (prefix_update (next i)) x ≡ by found update x
      same found update at at' x =
          ap (λ c. by c (prefix_update (next i)) x) at ∙ ap (λ c. by found c x) at'

      go : (found : Option UnaryOperator) (update : Option UpdateOperator)
          → unary_operator (next i) ≡ found → prefix_update (next i) ≡ update
          → CompletesWith U (unary g' b') EndsExpression Any [] (Broken place) i
      go (Some o) update at at' =
          let s = then_pure (λ x. e.Unary o x (head i).place) (below_sample h part.Unary) in (
            head i ∷ s.more,
            s.value,
            tt,
            λ tail ends. (
              refl,
              same (Some o) update at at' (head i ∷ (s.more ++ tail))
                  ∙ taken _ (s.more ++ tail) ∙ s.reads tail ends,
            ),
            s.real,
          )
      go None (Some o) at at' =
          let s = then_pure (λ x. e.Update o x (head i).place)
          (below_sample h (part.Updated (head i).place)) in (
            head i ∷ s.more,
            s.value,
            tt,
            λ tail ends. (
              refl,
              same None (Some o) at at' (head i ∷ (s.more ++ tail))
                  ∙ taken _ (s.more ++ tail) ∙ s.reads tail ends,
            ),
            s.real,
          )
      go None None at at' =
          absurd (not_both (is_some (unary_operator (next i))) (is_some (prefix_update (next i))) is
          (ap is_some at) (ap is_some at'))

module _ {U : Tokens} {O : Refusal} {J : Reason O} {d : ℕ} {g' : Rules} {b b' : Below}
    (h : Roomier J d g' b b') where
  -- ---- behind an operand

  pub postfix_good : (i : Tokens) → GoodAt U J (postfix (strict d) b) (postfix g' b') EndsExpression
      Any i
  unfolding postfix
  postfix_good i = bind_good i h.reasons.closed (left_hand_good h i)
      (λ x r _. look_good (λ t. postfix_by (strict d) b x t (postfix_of t))
      (λ t. postfix_by g' b' x t (postfix_of t)) r (go x r (postfix_of (head r)) refl))
      (λ x _. end_sample x tt (λ tail ends. ends)
      (λ tail ends. ap (λ o. postfix_by g' b' x (head tail) o tail)
      (no_postfix_closes (head tail) ends)))
    where
      update : (x : Expression) (r : Tokens) (o : UpdateOperator) → next r ≢ k.End → (found : Bool)
          → GoodAt U J (updated_behind (strict d) b x (head r) o found)
          (updated_behind g' b' x (head r) o found) EndsExpression Any r
      update x r o more true = takes_pure h (e.Update o x (head r).place) tt r more
      update x r o more false = unexpected h EndsExpression Any r

      go : (x : Expression) (r : Tokens) (found : Option UpdateOperator)
          → postfix_of (head r) ≡ found → GoodAt U J (postfix_by (strict d) b x (head r) found)
          (postfix_by g' b' x (head r) found) EndsExpression Any r
      go x r None is = pure_good J EndsExpression Any x r
      go x r (Some o) is = update x r o (postfix_more (head r) o is) (is_reference x)

  -- ---- the operand of `++` and `--`

  operand_close_sample : (place : Place) (x : Expression) → IsReference x
      → Sample U (operand_close g' b' place x) EndsExpression EndsExpression Any
  operand_close_sample place x w =
      end_sample x tt (λ tail ends. ends) (λ tail ends.
      operand_reads g' b' place x tail w (no_postfix_closes (head tail) ends))

  -- a reference: no operator stands behind it
  operand_close_good : (place : Place) (x : Expression) (r : Tokens) → IsReference x
      → GoodAt U J (operand_close (strict d) b place x) (operand_close g' b' place x) EndsExpression
      Any r
  unfolding operand_close
  operand_close_good place x r w =
      subst (λ c. GoodAt U J (look (λ t. operand_by (strict d) b place x t c (postfix_of t)))
      (look (λ t. operand_by g' b' place x t c (postfix_of t))) EndsExpression Any r) (sym w)
      (look_good (λ t. operand_by (strict d) b place x t true (postfix_of t))
      (λ t. operand_by g' b' place x t true (postfix_of t)) r (go (postfix_of (head r))))
    where
      updates : UpdateOperator → Parser Expression
      updates o = take_token >> pure (e.Update o x (head r).place)

      go : (found : Option UpdateOperator) → GoodAt U J
          (operand_by (strict d) b place x (head r) true found)
          (operand_by g' b' place x (head r) true found) EndsExpression Any r
      go None = pure_good J EndsExpression Any x r
      go (Some o) =
          unless_good J EndsExpression Any d g' (Broken place) (updates o) (updates o) r refl
          (h.asks (Broken place) refl) (h.reasons.free (Broken place) [] r refl)
          (λ _. (head r ∷ [], e.Update o x (head r).place, tt, λ tail ends. (refl, refl), tt))

  -- what is no reference is refused, whatever comes that goes on with no member or call
  operand_closes : (place : Place) (i : Tokens) (x : Expression) (m : Tokens)
      → left_hand (strict d) b i ≡ Done x m → is_reference x ≡ false
      → Closes U (owed_reason J) (left_hand (strict d) b) (left_hand g' b')
      (operand_close (strict d) b place) (operand_close g' b' place) EndsExpression
      EndsExpression IsReference Any i x m
  operand_closes place i x m q is = record {
    why = Operand place;
    level = refl;
    next_is = ap not stopped;
    ahead = λ s y on. both s y (not-true (begins_suffix (next y)) on);
    refuses =
        λ y on. operand_refused (strict d) b place x y is (strict_asks d (Operand place) y refl);
    refuses_more =
        λ kept y on. operand_refused g' b' place x y is
        (h.asks (Operand place) refl y ∙ ap not kept);
    instead = λ y on. on;
    goes_on =
        λ out. (
          [],
          x,
          tt,
          λ tail ends. (
            ap not (no_suffix_closes (next tail) ends),
            operand_whole g' b' place x tail is (h.asks (Operand place) refl tail ∙ ap not out),
          ),
          tt,
        );
    right = λ w split. right w ((left_hand_takes (strict d) h.takes i).leaves x m q) split;
  }
    where
      stopped : begins_suffix (next m) ≡ false
      stopped = left_hand_stops (strict d) b h.takes i x m q

      both : (s : Stops U (left_hand (strict d) b) (left_hand g' b') EndsExpression IsReference i x
          m) (y : Tokens) → begins_suffix (next y) ≡ false
          → (left_hand (strict d) b (s.before ++ y) ≡ Done x y)
          × (left_hand g' b' (s.before ++ y) ≡ Done x y)
      both s y ends =
          let one = left_hand_ahead h s.before m y x stopped ends (s.local m refl) in
          let t = (left_hand_good {U = U} h (s.before ++ y)).done x y one in (
            one,
            subst (λ w. left_hand g' b' (w ++ y) ≡ Done x y)
                (split_one t.before s.before y t.split refl) (t.roomy y refl),
          )

      right : (w : Tokens) → suc (length m) ≤ length i → i ≡ w ++ m
          → (owed_reason J).right (Operand place) w m
      right [] fewer split = absurd (let n = ap length split in omega (arith, fewer, n))
      right (u ∷ w) fewer split =
          (λ t. h.reasons.operand place t u w m (ap not stopped), λ v on none. cc none)

  pub updated_good : (place : Place) (i : Tokens)
      → GoodAt U (owed_reason J) (updated (strict d) b place) (updated g' b' place) EndsExpression
      Any i
  unfolding updated
  updated_good place i =
      look_good (λ t. updated_by (strict d) b place (is_prefix (symbol t)))
      (λ t. updated_by g' b' place (is_prefix (symbol t))) i (go (is_prefix (next i)) refl)
    where
      second : (x : Expression) (r : Tokens) → left_hand (strict d) b i ≡ Done x r → (c : Bool)
          → is_reference x ≡ c
          → GoodAt U J (operand_close (strict d) b place x) (operand_close g' b' place x)
          EndsExpression Any r
          ⊎ Closes U (owed_reason J) (left_hand (strict d) b) (left_hand g' b')
          (operand_close (strict d) b place) (operand_close g' b' place) EndsExpression
          EndsExpression IsReference Any i x r
      second x r q true is = inl (operand_close_good place x r is)
      second x r q false is = inr (operand_closes place i x r q is)

      go : (found : Bool) → is_prefix (next i) ≡ found
          → GoodAt U (owed_reason J) (updated_by (strict d) b place found)
          (updated_by g' b' place found) EndsExpression Any i
      go true is =
          unless_good (owed_reason J) EndsExpression Any d g' (Broken place) (unary (strict d) b)
          (unary g' b') i refl (h.asks (Broken place) refl)
          (owed h (Broken place) [] i (h.reasons.free (Broken place) [] i refl))
          (λ _. prefixed h U place i is)
      go false is =
          bind_good_by {L = λ x. J} i (left_hand_good_reference h i)
          (λ x r q. second x r q (is_reference x) refl) (λ x w. operand_close_sample place x w)
          (owed h)
          (λ x m s why v r split j. owed h why (s.before ++ v) r
          (h.reasons.closed why s.before v r j))

  -- ---- before an operand

  prefixed_good : (o : UpdateOperator) (i : Tokens) → prefix_update (next i) ≡ Some o
      → GoodAt U J (enter (strict d) >> (b.expression (part.Updated (head i).place) >>=
      (λ x. pure (e.Update o x (head i).place))))
      (enter g' >> (b'.expression (part.Updated (head i).place) >>=
      (λ x. pure (e.Update o x (head i).place)))) EndsExpression Any i
  prefixed_good o i is =
      bind_good_by {F = Any} {L = λ t. owed_reason J} i
      (enters h i more (prefix_no_colon (next i) o is)) (λ t r q. inl (behind_it r (lower h i q)))
      (λ t _. then_pure (λ x. e.Update o x (head i).place)
      (below_sample h (part.Updated (head i).place))) (λ why w r j. j) step
    where
      more : next i ≢ k.End
      more = prefix_more (next i) o is

      behind_it : (r : Tokens) → BelowGood J b b'
          → GoodAt U (owed_reason J) (b.expression (part.Updated (head i).place) >>=
          (λ x. pure (e.Update o x (head i).place)))
          (b'.expression (part.Updated (head i).place) >>=
          (λ x. pure (e.Update o x (head i).place))) EndsExpression Any r
      behind_it r good =
          bind_good_by {L = λ x. J} r (good.expression U (part.Updated (head i).place) r)
          (λ x m _. inl (pure_good J EndsExpression Any (e.Update o x (head i).place) m))
          (λ x _. pure_sample (e.Update o x (head i).place) tt) (λ why w m j. j)
          (λ x m s why v n split j. owed h why (s.before ++ v) n
          (h.reasons.closed why s.before v n j))

      -- the operator stands before what was read
      step : (t : Token) (m : Tokens) (s : Stops U (enter (strict d)) (enter g') Any Any i t m)
          (why : Refusal) (v r : Tokens) → m ≡ v ++ r → (owed_reason J).right why v r
          → J.right why (s.before ++ v) r
      step t m s why v r split j = subst (λ w. J.right why (w ++ v) r)
          (sym (split_one s.before (t ∷ []) m s.split
          (take_inverse i m more (entered_token (strict d) i
          (ap (enter (strict d)) s.split ∙ s.local m refl))))) (j.0 t)

  pub unary_good : (i : Tokens) → GoodAt U J (unary (strict d) b) (unary g' b') EndsExpression Any i
  unfolding unary
  unary_good i =
      look_good (λ t. unary_by (strict d) b t (unary_operator (symbol t))
      (prefix_update (symbol t))) (λ t. unary_by g' b' t (unary_operator (symbol t))
      (prefix_update (symbol t))) i
      (go (unary_operator (next i)) (prefix_update (next i)) refl refl)
    where
      go : (found : Option UnaryOperator) (update : Option UpdateOperator)
          → unary_operator (next i) ≡ found → prefix_update (next i) ≡ update
          → GoodAt U J (unary_by (strict d) b (head i) found update)
          (unary_by g' b' (head i) found update) EndsExpression Any i
      go (Some o) update is other =
          bind_good i h.reasons.closed (enters h i (unary_more (next i) o is)
          (unary_no_colon (next i) o is))
          (λ t r q. bind_good r h.reasons.closed ((lower h i q).expression U part.Unary r)
          (λ x m _. pure_good J EndsExpression Any (e.Unary o x (head i).place) m)
          (λ x _. pure_sample (e.Unary o x (head i).place) tt))
          (λ t _. then_pure (λ x. e.Unary o x (head i).place) (below_sample h part.Unary))
      go None (Some o) is other = prefixed_good o i other
      go None None is other = postfix_good i
