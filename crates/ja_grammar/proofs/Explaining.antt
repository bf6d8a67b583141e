-- What a refusal of the whole program says: where it stands, by which rule, and that no other
-- refusal of the text says so.
use Rattle.std.proofs.Common.{◌≡◌, ◌≢◌, ◌⊎◌, inl, inr, ℕ, zero, suc, ◌+◌, ◌<◌, ◌≤◌, Bool, true, false, true≢false, not, ◌&&◌, ◌||◌, ◌==◌, List, [], ◌∷◌, ◌++◌, length, Err, refl, sym, ap, ◌∙◌, subst, append_assoc, append-nil, arith, eqb-true, eq-eqb}
use Rattle.std.proofs.lemmas.List.{length-append}
use Rattle.ja_base.specs.declared.ids.Place.{Place}
use Rattle.ja_lex.specs.declared.token.Token.{Token}
use Rattle.ja_syntax.specs.declared.symbol.Symbol.TheVariants as k
use Rattle.ja_syntax.specs.declared.tree.Statement.{Statement}
use Rattle.ja_grammar.specs.declared.fault.ParseFault.{ParseFault}
use Rattle.ja_grammar.specs.declared.fault.ParseFault.TheVariants.{Syntax, Scope, Depth, Memory}
use Rattle.ja_grammar.specs.declared.fault.Refusal.{Refusal}
use Rattle.ja_grammar.specs.declared.fault.Refusal.TheVariants as refusal
use Rattle.ja_grammar.specs.Forms.{begins_suffix, is_label_behind}
use Rattle.ja_grammar.specs.Input.{Tokens, symbol, next, head, behind, Outcome, Done, Refused, strict}
use Rattle.ja_grammar.specs.code.Answering.{Answers}
use Rattle.ja_grammar.specs.Language.{max_levels, Spells, IsText, is_level, is_same, same_place, spared, without, AreReal, Follows, GoesOn, IsTextWithout, IsForbidden, NoSuffix, NoLabel, Stands, Because, fault_at, IsRefused, Explains}
use Rattle.ja_grammar.specs.Productions.{At}
use Rattle.ja_grammar.specs.ReadStatement.{program}
use Rattle.ja_grammar.proofs.Real.{AreNamesReal, AreRealAfter, reals, names_front}
use Rattle.ja_grammar.proofs.Good.{GoodAt, Refuses, Viable, Completes, CompletesWith, Any, Instead, added, lifted, elsewhere, is_jump}
use Rattle.ja_grammar.proofs.Knot.{program_all, program_is, program_covers, strict_rules}
use Rattle.ja_grammar.proofs.Known.{Known, known, last, last_behind, before_last}
use Rattle.ja_grammar.proofs.Outcomes.{done_not_refused, same_done, same_refused, rest_of, end_is}
use Rattle.ja_grammar.proofs.Readings.{refines_done, refines_refused, without_rules, spared_rules, IsLate, IsEarly, more_refines, without_refines, without_more, spared_refines, spared_of}
use Rattle.ja_grammar.proofs.Refines.{Refines}

-- ---- texts that are split

-- of two splits the shorter one stands before the longer one
shorter : (u v x y : Tokens) → u ++ x ≡ v ++ y → length u < length v
    → (t : Token) × (w : Tokens) × (v ≡ u ++ t ∷ w) × (x ≡ t ∷ w ++ y)
shorter u [] x y e fewer = absurd (omega (arith, fewer))
shorter [] (t ∷ v) x y e fewer = (t, v, refl, e)
shorter (s ∷ u) (t ∷ v) x y e fewer =
    let h = shorter u v x y (ap behind e) (omega (arith, fewer)) in
    (h.0, h.1, ap (λ z. z ∷ v) (sym (ap head e)) ∙ ap (λ z. s ∷ z) h.2, h.3)

-- of the same length they are the same
as_long : (u v x y : Tokens) → u ++ x ≡ v ++ y → length u ≡ length v → (u ≡ v) × (x ≡ y)
as_long [] [] x y e same = (refl, e)
as_long [] (t ∷ v) x y e same = absurd (omega (arith, same))
as_long (s ∷ u) [] x y e same = absurd (omega (arith, same))
as_long (s ∷ u) (t ∷ v) x y e same = let h = as_long u v x y (ap behind e) (omega (arith, same)) in
    (rw (ap head e, h.0) refl, h.1)

-- how two numbers stand
compare : (x y : ℕ) → (x ≡ y) ⊎ ((x < y) ⊎ (y < x))
compare zero zero = inl refl
compare zero (suc y) = inr (inl (omega arith))
compare (suc x) zero = inr (inr (omega arith))
compare (suc x) (suc y) = next_one (compare x y)
  where
    next_one : (x ≡ y) ⊎ ((x < y) ⊎ (y < x)) → (suc x ≡ suc y) ⊎ ((suc x < suc y) ⊎ (suc y < suc x))
    next_one (inl h) = inl (ap suc h)
    next_one (inr (inl h)) = inr (inl (omega (arith, h)))
    next_one (inr (inr h)) = inr (inr (omega (arith, h)))

-- ---- the same refusal

same_place_is : (p q : Place) → same_place p q ≡ true → p ≡ q
same_place_is p q e = go (p.line == q.line) (p.column == q.column) refl refl e
  where
    go : (x y : Bool) → (p.line == q.line) ≡ x → (p.column == q.column) ≡ y → (x && y) ≡ true
        → p ≡ q
    go true true a b h = rw (eqb-true p.line q.line a, eqb-true p.column q.column b) refl
    go true false a b h = absurd (true≢false (sym h))
    go false y a b h = absurd (true≢false (sym h))

-- what is left out is this rule alone
same_is : (O why : Refusal) → is_same O why ≡ true → O ≡ why
same_is refusal.RegExp refusal.RegExp e = refl
same_is refusal.Arguments refusal.Arguments e = refl
same_is (refusal.Broken p) (refusal.Broken q) e = ap (λ x. refusal.Broken x) (same_place_is p q e)
same_is (refusal.Operand p) (refusal.Operand q) e =
    ap (λ x. refusal.Operand x) (same_place_is p q e)
same_is (refusal.Alone p) (refusal.Alone q) e = ap (λ x. refusal.Alone x) (same_place_is p q e)
same_is (refusal.UnknownLabel p) (refusal.UnknownLabel q) e =
    ap (λ x. refusal.UnknownLabel x) (same_place_is p q e)
same_is _ _ e = absurd (true≢false (sym e))

-- what is lifted is a level, or this rule
lifted_is : (O why : Refusal) → lifted O why ≡ true → (is_level why ≡ true) ⊎ (O ≡ why)
lifted_is O why e = go (is_level why) (is_same O why) refl refl e
  where
    go : (x y : Bool) → is_level why ≡ x → is_same O why ≡ y → (x || y) ≡ true
        → (is_level why ≡ true) ⊎ (O ≡ why)
    go true y a b h = inl a
    go false true a b h = inr (same_is O why b)
    go false false a b h = absurd (true≢false (sym h))

-- ---- the laws that are taken for granted: the place law of the program, without any rule

abbrev pub PlaceLaw : Type 0
PlaceLaw =
    (O : Refusal) (i : Tokens) → GoodAt [] (known O) (program strict max_levels)
    (program (without O) 202) (At k.End) Any i

-- the end of a text
end_of_nothing : At k.End []
end_of_nothing = end_is

-- what is read is a text
text_read : (d : ℕ) (i : Tokens) (xs : List Statement) (r : Tokens) → program strict d i ≡ Done xs r
    → IsText i
text_read d i xs r e =
    record { levels = d; tree = xs; spelled = (r, program_is strict strict_rules d i xs r e) }

-- without a rule that is never asked, the language is the same
nothing_left_out : (d : ℕ) (i : Tokens) → program (without refusal.Unexpected) d i
    ≡ program strict d i
unfolding without
nothing_left_out d i = refl

-- what is refused, but not for want of levels, is no text
no_text : (i : Tokens) (why : Refusal) (r : Tokens) → program strict max_levels i ≡ Refused why r
    → is_level why ≡ false → IsText i → ⊥
no_text i why r e shallow text =
    let n = text.levels in
    let done = program_covers n (max_levels + n) (omega arith) i text.tree text.spelled.0
    text.spelled.1 in
    done_not_refused (sym done ∙ refines_refused (more_refines n max_levels i) e
    (λ level. true≢false (sym level ∙ shallow)))

-- nor one without a rule, unless it is refused by that rule
no_text_without : (O : Refusal) (i : Tokens) (why : Refusal) (r : Tokens)
    → program strict max_levels i ≡ Refused why r → lifted O why ≡ false → IsTextWithout O i → ⊥
no_text_without O i why r e kept text =
    let n = text.0 in
    let done = refines_done (without_more O max_levels n i)
    (program_all (without O) (without_rules O) n i text.1 text.2 text.3) in
    done_not_refused (sym done ∙ subst (λ m. program (without O) m i ≡ Refused why r) (omega arith)
    (refines_refused (without_refines O n max_levels i) e (λ out. true≢false (sym out ∙ kept))))

module _ (law : PlaceLaw) where
  -- what is known of a refusal, where this rule is left out
  at : (O : Refusal) (i : Tokens) (why : Refusal) (r : Tokens)
      → program strict max_levels i ≡ Refused why r
      → Refuses [] (known O) (program strict max_levels) (program (without O) 202) (At k.End) Any i
      why r
  at O i why r e = (law O i).refused why r e

  -- wherever the rules are left out, it is the same place
  one_place : (O : Refusal) (i : Tokens) (why : Refusal) (r before : Tokens)
      (e : program strict max_levels i ≡ Refused why r) → i ≡ before ++ r
      → (at O i why r e).before ≡ before
  one_place O i why r before e split = let s = at O i why r e in
      let n = length-append s.before r in let m = length-append before r in
      let a = ap length (sym s.split ∙ split) in
      (as_long s.before before r r (sym s.split ∙ split) (omega (arith, n, m, a))).0

  -- ---- what is refused at a token or before it, is so whatever stands behind that token

  stuck : (v : Tokens) (t : Token) (y : Tokens) (other : Refusal) (m : Tokens)
      → program strict max_levels (v ++ t ∷ y) ≡ Refused other m → length y < length m
      → (z : Tokens) → (why : Refusal) × (x : Tokens)
      × (program strict max_levels (v ++ t ∷ z) ≡ Refused why x) × (length z < length x)
  stuck v t y other m h before z = go (compare (length s.before) (length v))
    where
      s : Refuses [] (known refusal.Unexpected) (program strict max_levels)
          (program (without refusal.Unexpected) 202) (At k.End) Any (v ++ t ∷ y) other m
      s = at refusal.Unexpected (v ++ t ∷ y) other m h

      go : (length s.before ≡ length v) ⊎ ((length s.before < length v)
          ⊎ (length v < length s.before))
          → (why : Refusal) × (x : Tokens) × (program strict max_levels (v ++ t ∷ z)
          ≡ Refused why x) × (length z < length x)
      go (inl same) = let p = as_long s.before v m (t ∷ y) (sym s.split) same in (
        s.whys (t ∷ z),
        t ∷ z,
        ap (λ w. program strict max_levels (w ++ t ∷ z)) (sym p.0)
            ∙ s.local (t ∷ z) (ap head p.1),
        omega arith,
      )
      go (inr (inl sooner)) = let p = shorter s.before v m (t ∷ y) (sym s.split) sooner in
          let x = p.0 ∷ p.1 ++ t ∷ z in (
            s.whys x,
            x,
            ap (program strict max_levels)
                (ap (λ w. w ++ t ∷ z) p.2 ∙ append_assoc s.before (p.0 ∷ p.1) (t ∷ z))
                ∙ s.local x (ap head p.3),
            let n = length-append p.1 (t ∷ z) in omega (arith, n),
          )
      go (inr (inr later)) = let n = length-append s.before m in let a = length-append v (t ∷ y) in
          let b = ap length s.split in absurd (omega (arith, n, a, b, later, before))

  -- a token behind these is read: in some text nothing is refused at it or before it
  abbrev Passes : Tokens → Token → Type 0
  Passes v t =
      (z : Tokens) × ((why : Refusal) (x : Tokens)
      → program strict max_levels (v ++ t ∷ z) ≡ Refused why x → length x ≤ length z)

  -- so in none it is
  passes_all : (v : Tokens) (t : Token) → Passes v t → (y : Tokens) (other : Refusal) (m : Tokens)
      → program strict max_levels (v ++ t ∷ y) ≡ Refused other m → length y < length m → ⊥
  passes_all v t pass y other m h before = let s = stuck v t y other m h before pass.0 in
      let n = pass.1 s.0 s.1 s.2 in omega (arith, n, s.3)

  -- what is read can be completed
  completed : (v : Tokens) (t : Token) → Passes v t
      → (c : Tokens) × (xs : List Statement) × (m : Tokens)
      × (program strict 202 (v ++ t ∷ c) ≡ Done xs m) × AreRealAfter (v ++ t ∷ []) c
  completed v t pass = go (program strict max_levels (v ++ t ∷ [])) refl
    where
      go : (o : Outcome (List Statement)) → program strict max_levels (v ++ t ∷ []) ≡ o
          → (c : Tokens) × (xs : List Statement) × (m : Tokens)
          × (program strict 202 (v ++ t ∷ c) ≡ Done xs m) × AreRealAfter (v ++ t ∷ []) c
      go (Done xs m) h = ([], xs, m, refines_done (more_refines 2 max_levels (v ++ t ∷ [])) h, tt)
      go (Refused other (u ∷ m)) h = absurd (passes_all v t pass [] other (u ∷ m) h (omega arith))
      go (Refused other []) h = (
        c.0 ++ [],
        c.1,
        [],
        read,
        subst (λ x. AreRealAfter x (c.0 ++ [])) whole
            (subst (λ x. AreRealAfter s.before x) (sym (append-nil c.0)) c.3),
      )
        where
          s : Refuses [] (known refusal.Unexpected) (program strict max_levels)
              (program (without refusal.Unexpected) 202) (At k.End) Any (v ++ t ∷ []) other []
          s = at refusal.Unexpected (v ++ t ∷ []) other [] h

          whole : s.before ≡ v ++ t ∷ []
          whole = sym (append-nil s.before) ∙ sym s.split

          some : (x : Tokens) → x ≡ v ++ t ∷ []
              → Viable [] (program (without refusal.Unexpected) 202) (At k.End) Any x
              → Completes [] (program (without refusal.Unexpected) 202) (At k.End) Any x
          some [] e viable =
              absurd (let n = ap length e in let a = length-append v (t ∷ []) in
              omega (arith, n, a))
          some (u ∷ x) e viable = viable

          c : Completes [] (program (without refusal.Unexpected) 202) (At k.End) Any s.before
          c = some s.before whole s.viable

          read : program strict 202 (v ++ t ∷ (c.0 ++ [])) ≡ Done c.1 []
          read =
              sym (nothing_left_out 202 (v ++ t ∷ (c.0 ++ [])))
              ∙ sym (ap (program (without refusal.Unexpected) 202)
              (ap (λ x. x ++ (c.0 ++ [])) whole ∙ append_assoc v (t ∷ []) (c.0 ++ [])))
              ∙ c.4 [] end_of_nothing

  -- and so a text goes on with it, in which what stands before and it keep the levels
  goes_on_with : (v : Tokens) (t : Token) → Passes v t → (w : Tokens)
      → (g : GoesOn v (t ∷ w)) × AreRealAfter (v ++ t ∷ []) (behind g.more)
  goes_on_with v t pass w = (
    record {
      more = t ∷ c.0;
      same = refl;
      spare = 2;
      tree = c.1;
      end = c.2;
      spelled =
          program_is (spared late 2) (spared_rules late 2) (max_levels + 2) (v ++ t ∷ c.0) c.1 c.2
          (go (spared_of late 2 202 (v ++ t ∷ c.0)));
    },
    c.4,
  )
    where
      c : (c : Tokens) × (xs : List Statement) × (m : Tokens)
          × (program strict 202 (v ++ t ∷ c) ≡ Done xs m) × AreRealAfter (v ++ t ∷ []) c
      c = completed v t pass

      late : ℕ
      late = length c.0

      -- a level that is wanted earlier is wanted by the rules of the language, and so in this text
      sooner : (other : Refusal) (m : Tokens)
          → program (spared late 2) 202 (v ++ t ∷ c.0) ≡ Refused other m → late < length m
          → Refines (IsLate late) (program strict max_levels (v ++ t ∷ c.0))
          (program (spared late 2) 202 (v ++ t ∷ c.0)) → ⊥
      sooner other m h many (Refines.same same) = passes_all v t pass c.0 other m (same ∙ h) many
      sooner other m h many (Refines.refused d got bound) =
          let n : length (rest_of (program (spared late 2) 202 (v ++ t ∷ c.0)))
          ≡ length m = ap (λ o. length (rest_of o)) h in omega (arith, d.1, bound, n, many)

      go : Refines (IsEarly late) (program (spared late 2) 202 (v ++ t ∷ c.0))
          (program strict 202 (v ++ t ∷ c.0)) → program (spared late 2) 202 (v ++ t ∷ c.0)
          ≡ Done c.1 c.2
      go (Refines.same same) = same ∙ c.3
      go (Refines.refused {why = other} {r = m} d got bound) =
          absurd (sooner other m got d.1 (spared_refines late 2 max_levels (v ++ t ∷ c.0)))

  -- ---- another text is refused where it parts from this one, or later

  module _ (i : Tokens) (why : Refusal) (r before : Tokens)
      (e : program strict max_levels i ≡ Refused why r) (split : i ≡ before ++ r) where
    -- not earlier
    early : (more : Tokens) (other : Refusal) (m : Tokens)
        → program strict max_levels (before ++ more) ≡ Refused other m → length more < length m → ⊥
    early more other m h sooner =
        let s = at refusal.Unexpected (before ++ more) other m h in
        let n = length-append s.before m in let a = length-append before more in
        let b = ap length s.split in
        let p = shorter s.before before m more (sym s.split) (omega (arith, n, a, b, sooner)) in
        let stuck = s.local (p.0 ∷ p.1 ++ r) (ap head p.3) in
        let here = sym e ∙ ap (program strict max_levels)
        (split ∙ ap (λ x. x ++ r) p.2 ∙ append_assoc s.before (p.0 ∷ p.1) r) ∙ stuck in
        let left : length r ≡ length (p.0 ∷ p.1 ++ r) = ap length (ap rest_of here) in
        let c = length-append p.1 r in omega (arith, left, c)

    -- where it has the same next token, it is refused there
    there : (more : Tokens) → head r ≡ head more
        → program strict max_levels (before ++ more)
        ≡ Refused ((at refusal.Unexpected i why r e).whys more) more
    there more same =
        subst (λ w. program strict max_levels (w ++ more)
        ≡ Refused ((at refusal.Unexpected i why r e).whys more) more)
        (one_place refusal.Unexpected i why r before e split)
        ((at refusal.Unexpected i why r e).local more same)

    -- and so no text goes on with that token, if it is no want of levels
    forbidden : is_level why ≡ false → IsForbidden before r
    forbidden shallow more same text = let s = at refusal.Unexpected i why r e in
        no_text (before ++ more) (s.whys more) more (there more (sym same)) (s.level more ∙ shallow)
        text

    -- with which there is no level
    refused_there : GoesOn before r → ⊥
    refused_there h = go (spared_refines late h.spare max_levels (before ++ h.more))
      where
        s : Refuses [] (known refusal.Unexpected) (program strict max_levels)
            (program (without refusal.Unexpected) 202) (At k.End) Any i why r
        s = at refusal.Unexpected i why r e

        late : ℕ
        late = length (behind h.more)

        done : program (spared late h.spare) (max_levels + h.spare) (before ++ h.more)
            ≡ Done h.tree h.end
        done =
            program_all (spared late h.spare) (spared_rules late h.spare) (max_levels + h.spare)
            (before ++ h.more) h.tree h.end h.spelled

        stuck : program strict max_levels (before ++ h.more) ≡ Refused (s.whys h.more) h.more
        stuck = there h.more (sym h.same)

        token : (why : Refusal) (w : Tokens) → Known why w r → is_level why ≡ true → next r ≢ k.End
        token refusal.Deep w n level = n.0
        token (refusal.DeepLabel place) w n level = λ ends. cc (n.0, ends)
        token _ w n level = absurd (true≢false (sym level))

        few : (m : Tokens) → head m ≡ head r → is_level why ≡ true → length m ≤ length (behind m)
            → ⊥
        few [] same level n = token why s.before s.right level (sym (ap symbol same) ∙ end_is)
        few (t ∷ m) same level n = omega (arith, n)

        go : Refines (IsLate late) (program strict max_levels (before ++ h.more))
            (program (spared late h.spare) (max_levels + h.spare) (before ++ h.more)) → ⊥
        go (Refines.same same) = done_not_refused (sym done ∙ sym same ∙ stuck)
        go (Refines.refused c other n) =
            let c' = same_refused {A = List Statement} (IsLate late) (sym other ∙ stuck) c in
            few h.more h.same (sym (s.level h.more) ∙ c'.0) c'.1

    -- every token before it goes on
    accepted : (v : Tokens) (t : Token) (w : Tokens) → before ≡ v ++ t ∷ w
        → (g : GoesOn v (t ∷ w)) × AreRealAfter (v ++ t ∷ []) (behind g.more)
    accepted v t w parts = goes_on_with v t (w ++ r, passes) w
      where
        here : i ≡ v ++ t ∷ (w ++ r)
        here = split ∙ ap (λ x. x ++ r) parts ∙ append_assoc v (t ∷ w) r

        passes : (other : Refusal) (x : Tokens)
            → program strict max_levels (v ++ t ∷ (w ++ r)) ≡ Refused other x
            → length x ≤ length (w ++ r)
        passes other x h =
            let n : length r ≡ length x = ap (λ o. length (rest_of o))
            (sym e ∙ ap (program strict max_levels) here ∙ h) in let a = length-append w r in
            omega (arith, n, a)

    -- where levels are wanted, with more of them a text goes on
    deep_text : is_level why ≡ true → (more : Tokens) × (head r ≡ head more)
        × IsText (before ++ more) × AreRealAfter before (behind more)
    deep_text on = (
      g.0 ++ [],
      deep_head why (g.0 ++ []) on (g.3 [] end_of_nothing).0,
      text_read 202 (before ++ (g.0 ++ [])) g.1 [] read,
      deep_added why on,
    )
      where
        s : Refuses [] (known refusal.Unexpected) (program strict max_levels)
            (program (without refusal.Unexpected) 202) (At k.End) Any i why r
        s = at refusal.Unexpected i why r e

        g : CompletesWith [] (program (without refusal.Unexpected) 202) (At k.End) Any s.before why
            r
        g = s.goes_on (ap (λ b. b || is_same refusal.Unexpected why) on)

        real : AreRealAfter before (added why (g.0 ++ []))
        real =
            subst (λ x. AreRealAfter x (added why (g.0 ++ [])))
            (one_place refusal.Unexpected i why r before e split)
            (subst (λ x. AreRealAfter s.before (added why x)) (sym (append-nil g.0)) g.4)

        deep_added : (why' : Refusal) → is_level why' ≡ true
            → AreRealAfter before (behind (g.0 ++ []))
        deep_added why' on' = by why real on
          where
            by : (v : Refusal) → AreRealAfter before (added v (g.0 ++ [])) → is_level v ≡ true
                → AreRealAfter before (behind (g.0 ++ []))
            by refusal.Deep x on = x
            by (refusal.DeepLabel place) x on = x
            by _ x on = absurd (true≢false (sym on))

        deep_head : (why : Refusal) (x : Tokens) → is_level why ≡ true → Instead why r x
            → head r ≡ head x
        deep_head refusal.Deep x on h = h
        deep_head (refusal.DeepLabel place) x on h = h
        deep_head _ x on h = absurd (true≢false (sym on))

        read : program strict 202 (before ++ (g.0 ++ [])) ≡ Done g.1 []
        read = sym (nothing_left_out 202 (before ++ (g.0 ++ [])))
            ∙ sym (ap (λ x. program (without refusal.Unexpected) 202 (x ++ (g.0 ++ [])))
            (one_place refusal.Unexpected i why r before e split)) ∙ (g.3 [] end_of_nothing).1

    -- ---- a rule that stands in the way is the one by which it is refused

    -- where with the same next token a text goes on without a rule, it is refused by that rule
    by_rule : (O : Refusal) → is_jump O ≡ false → IsForbidden before r → (more : Tokens)
        → head more ≡ head r → IsTextWithout O (before ++ more) → why ≡ O
    by_rule O other none more same text = go (lifted O (s.whys more)) refl
      where
        s : Refuses [] (known refusal.Unexpected) (program strict max_levels)
            (program (without refusal.Unexpected) 202) (At k.End) Any i why r
        s = at refusal.Unexpected i why r e

        vary : O ≡ s.whys more → (s.whys more ≡ why) ⊎ (is_jump (s.whys more) ≡ true) → why ≡ O
        vary is (inl h) = sym h ∙ sym is
        vary is (inr h) = absurd (true≢false (sym h ∙ sym (ap is_jump is) ∙ other))

        by : (is_level (s.whys more) ≡ true) ⊎ (O ≡ s.whys more) → why ≡ O
        by (inl on) = let d = deep_text (sym (s.level more) ∙ on) in absurd (none d.0 (sym d.1) d.2)
        by (inr is) = vary is (s.varies more)

        go : (b : Bool) → lifted O (s.whys more) ≡ b → why ≡ O
        go false kept =
            absurd (no_text_without O (before ++ more) (s.whys more) more (there more (sym same))
            kept text)
        go true out = by (lifted_is O (s.whys more) out)

    -- the same of a jump, whose next two tokens are the same
    by_jump : (O : Refusal) → IsForbidden before r → (more : Tokens) → head more ≡ head r
        → head (behind more) ≡ head (behind r) → IsTextWithout O (before ++ more) → why ≡ O
    by_jump O none more same second text = go (lifted O why) refl
      where
        s : Refuses [] (known refusal.Unexpected) (program strict max_levels)
            (program (without refusal.Unexpected) 202) (At k.End) Any i why r
        s = at refusal.Unexpected i why r e

        stuck : program strict max_levels (before ++ more) ≡ Refused why more
        stuck =
            subst (λ x. program strict max_levels (before ++ more) ≡ Refused x more)
            (s.nearly more (sym second)) (there more (sym same))

        by : (is_level why ≡ true) ⊎ (O ≡ why) → why ≡ O
        by (inl on) = let d = deep_text on in absurd (none d.0 (sym d.1) d.2)
        by (inr is) = sym is

        go : (b : Bool) → lifted O why ≡ b → why ≡ O
        go false kept = absurd (no_text_without O (before ++ more) why more stuck kept text)
        go true out = by (lifted_is O why out)

  -- ---- a refusal that is made whatever the next token is, but for some

  -- what was read of a text can be completed
  go_on : (i : Tokens) (why : Refusal) (r : Tokens)
      (e : program strict max_levels i ≡ Refused why r) (before : Tokens) → i ≡ before ++ r
      → (t : Token) (w v : Tokens) → before ≡ v ++ t ∷ w → (x : Tokens) × IsText (v ++ t ∷ x)
  go_on i why r e before split t w v parts = let g = completed v t (w ++ r, passes) in
      (g.0, text_read 202 (v ++ t ∷ g.0) g.1 g.2 g.3)
    where
      here : i ≡ v ++ t ∷ (w ++ r)
      here = split ∙ ap (λ x. x ++ r) parts ∙ append_assoc v (t ∷ w) r

      passes : (other : Refusal) (x : Tokens)
          → program strict max_levels (v ++ t ∷ (w ++ r)) ≡ Refused other x
          → length x ≤ length (w ++ r)
      passes other x h =
          let n : length r ≡ length x = ap (λ o. length (rest_of o))
          (sym e ∙ ap (program strict max_levels) here ∙ h) in let a = length-append w r in
          omega (arith, n, a)

  by_elsewhere : (i : Tokens) (why : Refusal) (r before : Tokens)
      → program strict max_levels i ≡ Refused why r → i ≡ before ++ r
      → (O : Refusal) (more : Tokens) → elsewhere O (head r) ≡ true → IsForbidden before more
      → IsTextWithout O (before ++ more) → why ≡ O
  by_elsewhere i why r before e split O more on none text =
      go (program strict max_levels (before ++ more)) refl
    where
      go : (o : Outcome (List Statement)) → program strict max_levels (before ++ more) ≡ o → why ≡ O
      go (Done xs m) h = absurd (none more refl (text_read max_levels (before ++ more) xs m h))
      go (Refused other m) h = place (length m) (length more) refl refl
        where
          here : m ≡ more → why ≡ O
          here same = here_by (lifted O other) refl
            where
              stuck : program strict max_levels (before ++ more) ≡ Refused other more
              stuck =
                  subst (λ x. program strict max_levels (before ++ more) ≡ Refused other x) same h

              t : Refuses [] (known O) (program strict max_levels) (program (without O) 202)
                  (At k.End) Any (before ++ more) other more
              t = at O (before ++ more) other more stuck

              this : O ≡ other → why ≡ O
              this is = same_refused {A = List Statement} (λ v x. v ≡ O)
                  (sym (ap (program strict max_levels) split
                  ∙ ap (λ w. program strict max_levels (w ++ r))
                  (sym (one_place O (before ++ more) other more before stuck refl))
                  ∙ t.others r (ap (λ v. elsewhere v (head r)) (sym is) ∙ on)) ∙ e) (sym is)

              by : (is_level other ≡ true) ⊎ (O ≡ other) → why ≡ O
              by (inl level) =
                  let d = deep_text (before ++ more) other more before stuck refl level in
                  absurd (none d.0 (sym d.1) d.2)
              by (inr is) = this is

              here_by : (b : Bool) → lifted O other ≡ b → why ≡ O
              here_by false kept =
                  absurd (no_text_without O (before ++ more) other more stuck kept text)
              here_by true out = by (lifted_is O other out)

          s : Refuses [] (known refusal.Unexpected) (program strict max_levels)
              (program (without refusal.Unexpected) 202) (At k.End) Any (before ++ more) other m
          s = at refusal.Unexpected (before ++ more) other m h

          later : length m < length more → ⊥
          later fewer =
              let n = length-append s.before m in let a = length-append before more in
              let b = ap length s.split in
              let p = shorter before s.before more m s.split (omega (arith, n, a, b, fewer)) in
              let x = go_on (before ++ more) other m h s.before s.split p.0 p.1 before p.2 in
              none (p.0 ∷ x.0) (sym (ap head p.3)) x.1

          place : (x y : ℕ) → length m ≡ x → length more ≡ y → why ≡ O
          place x y a b = by_length (compare x y)
            where
              by_length : (x ≡ y) ⊎ ((x < y) ⊎ (y < x)) → why ≡ O
              by_length (inl same) =
                  here (as_long s.before before m more (sym s.split)
                  (let n = length-append s.before m in let c = length-append before more in
                  let d = ap length s.split in omega (arith, n, c, d, a, b, same))).1
              by_length (inr (inl fewer)) = absurd (later (omega (arith, a, b, fewer)))
              by_length (inr (inr more_left)) =
                  absurd (early i why r before e split more other m h
                  (omega (arith, a, b, more_left)))

  -- ---- so the reason that is given is the one

  no_suffix : (place : Place) (r : Tokens) → NoSuffix r
      → elsewhere (refusal.Operand place) (head r) ≡ true
  no_suffix place r h = ap not h

  no_label : (place : Place) (r : Tokens) → NoLabel r
      → elsewhere (refusal.Alone place) (head r) ≡ true
  no_label place r h = ap not h

  stands_is : (i : Tokens) (why : Refusal) (r before : Tokens)
      → program strict max_levels i ≡ Refused why r → i ≡ before ++ r → (O : Refusal)
      → Stands O before r → why ≡ O
  stands_is i why r before e split O (Stands.deep more other same text) = go (is_level why) refl
    where
      s : Refuses [] (known refusal.Unexpected) (program strict max_levels)
          (program (without refusal.Unexpected) 202) (At k.End) Any i why r
      s = at refusal.Unexpected i why r e

      deep : (v : Refusal) (w : Tokens) → is_level v ≡ true → Known v w r → v ≡ refusal.Deep
      deep refusal.Deep w on h = refl
      deep (refusal.DeepLabel place) w on h = absurd (other h.0)
      deep _ w on h = absurd (true≢false (sym on))

      go : (b : Bool) → is_level why ≡ b → why ≡ refusal.Deep
      go true on = deep why s.before on s.right
      go false off = absurd (forbidden i why r before e split off more same.0 text)
  stands_is i why r before e split O (Stands.deep_label {place = place} front t more parts is colon
      same text) = go (is_level why) refl
    where
      s : Refuses [] (known refusal.Unexpected) (program strict max_levels)
          (program (without refusal.Unexpected) 202) (At k.End) Any i why r
      s = at refusal.Unexpected i why r e

      its_place : (last s.before).place ≡ place
      its_place =
          ap (λ w. (last w).place) (one_place refusal.Unexpected i why r before e split ∙ parts)
          ∙ ap (λ u. u.place) (last_behind front t []) ∙ is

      deep : (v : Refusal) → is_level v ≡ true → Known v s.before r → v ≡ refusal.DeepLabel place
      deep refusal.Deep on h = absurd (h.1 colon)
      deep (refusal.DeepLabel p) on h = ap (λ x. refusal.DeepLabel x) (sym h.2 ∙ its_place)
      deep _ on h = absurd (true≢false (sym on))

      go : (b : Bool) → is_level why ≡ b → why ≡ refusal.DeepLabel place
      go true on = deep why on s.right
      go false off = absurd (forbidden i why r before e split off more same.0 text)
  stands_is i why r before e split O (Stands.regexp more none same text) =
      by_rule i why r before e split refusal.RegExp refl none more same.0 text
  stands_is i why r before e split O (Stands.arguments more none same text) =
      by_rule i why r before e split refusal.Arguments refl none more same.0 text
  stands_is i why r before e split O (Stands.broken {place = place} more none same text) =
      by_rule i why r before e split (refusal.Broken place) refl none more same.0 text
  stands_is i why r before e split O (Stands.operand {place = place} more here other real none
      text) = by_elsewhere i why r before e split (refusal.Operand place) more
      (no_suffix place r here) none text
  stands_is i why r before e split O (Stands.alone {place = place} more here other real none text) =
      by_elsewhere i why r before e split (refusal.Alone place) more (no_label place r here) none
      text
  stands_is i why r before e split O (Stands.unknown {place = place} more none same text) =
      by_jump i why r before e split (refusal.UnknownLabel place) none more same.0 same.1 text

  -- none stands for want of a rule
  never : (O : Refusal) (before r : Tokens) → Stands O before r → O ≢ refusal.Unexpected
  never O before r (Stands.deep more other same text) h = cc h
  never O before r (Stands.deep_label front t more parts is colon same text) h = cc h
  never O before r (Stands.regexp more none same text) h = cc h
  never O before r (Stands.arguments more none same text) h = cc h
  never O before r (Stands.broken more none same text) h = cc h
  never O before r (Stands.operand more here there real none text) h = cc h
  never O before r (Stands.alone more here there real none text) h = cc h
  never O before r (Stands.unknown more none same text) h = cc h

  -- ---- the rule that stands in the way

  module _ (i : Tokens) (names : AreNamesReal i) (r before : Tokens) (split : i ≡ before ++ r) where
    names_before : AreNamesReal before
    names_before = names_front i before r split names

    -- without the rule a text goes on
    goes_on : (why : Refusal) (e : program strict max_levels i ≡ Refused why r)
        → is_same why why ≡ true → (more : Tokens) × Instead why r more
        × IsTextWithout why (before ++ more) × AreReal (added why more)
    goes_on why e same = (
      g.0 ++ [],
      (g.3 [] end_of_nothing).0,
      (
        202,
        g.1,
        [],
        program_is (without why) (without_rules why) 202 (before ++ (g.0 ++ [])) g.1
            [] read,
      ),
      reals before (added why (g.0 ++ [])) names_before real,
    )
      where
        s : Refuses [] (known why) (program strict max_levels) (program (without why) 202)
            (At k.End) Any i why r
        s = at why i why r e

        either : (x y : Bool) → y ≡ true → (x || y) ≡ true
        either true y h = refl
        either false y h = h

        g : CompletesWith [] (program (without why) 202) (At k.End) Any s.before why r
        g = s.goes_on (either (is_level why) (is_same why why) same)

        real : AreRealAfter before (added why (g.0 ++ []))
        real =
            subst (λ x. AreRealAfter x (added why (g.0 ++ [])))
            (one_place why i why r before e split)
            (subst (λ x. AreRealAfter s.before (added why x)) (sym (append-nil g.0)) g.4)

        read : program (without why) 202 (before ++ (g.0 ++ [])) ≡ Done g.1 []
        read =
            sym (ap (λ x. program (without why) 202 (x ++ (g.0 ++ [])))
            (one_place why i why r before e split)) ∙ (g.3 [] end_of_nothing).1

    same_place_refl : (p : Place) → same_place p p ≡ true
    same_place_refl p = rw (eq-eqb p.line p.line refl, eq-eqb p.column p.column refl) refl

    -- what is refused whatever comes is forbidden whatever comes
    forbidden_elsewhere : (why : Refusal) (e : program strict max_levels i ≡ Refused why r)
        → is_level why ≡ false → (more : Tokens) → elsewhere why (head more) ≡ true
        → IsForbidden before more
    forbidden_elsewhere why e shallow more on x same text =
        no_text (before ++ x) why x (subst (λ w. program strict max_levels (w ++ x) ≡ Refused why x)
        (one_place why i why r before e split)
        ((at why i why r e).others x (ap (elsewhere why) same ∙ on))) shallow text

    off_of : (b : Bool) → not b ≡ true → b ≡ false
    off_of true h = absurd (true≢false (sym h))
    off_of false h = refl

    because : (why : Refusal) → program strict max_levels i ≡ Refused why r → Because why before r
    because refusal.Unexpected e =
        λ O h. never O before r h (sym (stands_is i refusal.Unexpected r before e split O h))
    because refusal.RegExp e = let g = goes_on refusal.RegExp e refl in
        Stands.regexp g.0 (forbidden i refusal.RegExp r before e split refl) (sym g.1, g.3) g.2
    because refusal.Arguments e = let g = goes_on refusal.Arguments e refl in
        Stands.arguments g.0 (forbidden i refusal.Arguments r before e split refl) (sym g.1, g.3)
        g.2
    because refusal.Deep e =
        let g = deep_text i refusal.Deep r before e split refl in
        Stands.deep g.0 (at refusal.Deep i refusal.Deep r e).right.1
        (sym g.1, reals before (behind g.0) names_before g.3) g.2
    because (refusal.DeepLabel place) e =
        let g = deep_text i (refusal.DeepLabel place) r before e split refl in
        let s = at refusal.Unexpected i (refusal.DeepLabel place) r e in
        label s.before g.0 (one_place refusal.Unexpected i (refusal.DeepLabel place) r before e
        split) s.right (sym g.1, reals before (behind g.0) names_before g.3) g.2
      where
        label : (w more : Tokens) → w ≡ before → Known (refusal.DeepLabel place) w r
            → Follows more r → IsText (before ++ more) → Stands (refusal.DeepLabel place) before r
        label [] more same h next text = absurd (let n = h.1 in omega (arith, n))
        label (t ∷ w) more same h next text = let f = before_last t w in
            Stands.deep_label f.0 (last (t ∷ w)) more (sym same ∙ f.1) h.2 h.0 next text
    because (refusal.Broken place) e =
        let g = goes_on (refusal.Broken place) e (same_place_refl place) in
        Stands.broken g.0 (forbidden i (refusal.Broken place) r before e split refl) (sym g.1, g.3)
        g.2
    because (refusal.Operand place) e =
        let g = goes_on (refusal.Operand place) e (same_place_refl place) in
        let s = at refusal.Unexpected i (refusal.Operand place) r e in
        Stands.operand g.0 (off_of (begins_suffix (next r)) s.right.1)
        (off_of (begins_suffix (next g.0)) g.1) g.3
        (forbidden_elsewhere (refusal.Operand place) e refl g.0 g.1) g.2
    because (refusal.Alone place) e =
        let g = goes_on (refusal.Alone place) e (same_place_refl place) in
        let s = at refusal.Unexpected i (refusal.Alone place) r e in
        Stands.alone g.0 (off_of (is_label_behind (head r)) s.right.2)
        (off_of (is_label_behind (head g.0)) g.1) g.3
        (forbidden_elsewhere (refusal.Alone place) e refl g.0 g.1) g.2
    because (refusal.UnknownLabel place) e =
        let g = goes_on (refusal.UnknownLabel place) e (same_place_refl place) in
        Stands.unknown g.0 (forbidden i (refusal.UnknownLabel place) r before e split refl)
        (sym g.1.0, sym g.1.1, g.3) g.2

  -- ---- what is answered

  -- a refusal is right
  pub explained : (i : Tokens) → AreNamesReal i → (why : Refusal) (r : Tokens)
      → program strict max_levels i ≡ Refused why r → IsRefused i (fault_at why (head r))
  explained i names why r e = record {
    before = s.before;
    rest = r;
    split = s.split;
    first = record { goes_on = goes_on_so; refused = refused_there i why r s.before e s.split };
    why = why;
    because = because i names r s.before s.split why e;
    answer = refl;
  }
    where
      s : Refuses [] (known refusal.Unexpected) (program strict max_levels)
          (program (without refusal.Unexpected) 202) (At k.End) Any i why r
      s = at refusal.Unexpected i why r e

      goes_on_so : (v : Tokens) (t : Token) (w : Tokens) → s.before ≡ v ++ t ∷ w
          → (g : GoesOn v (t ∷ w)) × AreReal (behind g.more)
      goes_on_so v t w parts = let g = accepted i why r s.before e s.split v t w parts in
          let here = s.split ∙ ap (λ x. x ++ r) (parts ∙ sym (append_assoc v (t ∷ []) w))
          ∙ append_assoc (v ++ t ∷ []) w r in (
            g.0,
            reals (v ++ t ∷ []) (behind g.0.more)
                (names_front i (v ++ t ∷ []) (w ++ r) here names) g.1,
          )

  -- and it is the only one that is
  pub refused_so : (i : Tokens) → AreNamesReal i → (fault : ParseFault) → IsRefused i fault
      → (why : Refusal) × (r : Tokens) × (program strict max_levels i ≡ Refused why r)
      × (fault ≡ fault_at why (head r))
  refused_so i names fault h = go (program strict max_levels i) refl
    where
      -- in a text every token goes on, and the end
      whole : (xs : List Statement) (r rest : Tokens)
          → program strict max_levels (h.before ++ rest) ≡ Done xs r → GoesOn h.before rest
      whole xs r [] e = record {
        more = [];
        same = refl;
        spare = 0;
        tree = xs;
        end = r;
        spelled =
            program_is (spared 0 0) (spared_rules 0 0) (max_levels + 0) (h.before ++ []) xs r
            (refines_done (spared_refines 0 0 max_levels (h.before ++ [])) e);
      }
      whole xs r (t ∷ w) e =
          (goes_on_with h.before t (w, λ why x refused. absurd (done_not_refused (sym e ∙ refused)))
          w).0

      same_head : (before x y : Tokens) → head x ≡ head y → GoesOn before x → GoesOn before y
      same_head before x y same g =
          record {
            more = g.more;
            same = g.same ∙ same;
            spare = g.spare;
            tree = g.tree;
            end = g.end;
            spelled = g.spelled;
          }

      go : (o : Outcome (List Statement)) → program strict max_levels i ≡ o
          → (why : Refusal) × (r : Tokens) × (program strict max_levels i ≡ Refused why r)
          × (fault ≡ fault_at why (head r))
      go (Done xs r) e =
          absurd (h.first.refused (whole xs r h.rest
          (ap (program strict max_levels) (sym h.split) ∙ e)))
      go (Refused why r) e =
          (why, r, e, answer (place (length s.before) (length h.before) refl refl))
        where
          s : Refuses [] (known refusal.Unexpected) (program strict max_levels)
              (program (without refusal.Unexpected) 202) (At k.End) Any i why r
          s = at refusal.Unexpected i why r e

          -- the reasons are the same
          answer : h.rest ≡ r → fault ≡ fault_at why (head r)
          answer same =
              h.answer ∙ ap (λ v. fault_at v (head h.rest)) (sym (reason h.why h.because))
              ∙ ap (λ x. fault_at why (head x)) same
            where
              split : i ≡ h.before ++ r
              split = h.split ∙ ap (λ x. h.before ++ x) same

              unexpected : (v : Refusal) → Because v h.before r
                  → ((O : Refusal) → Stands O h.before r → ⊥) → v ≡ refusal.Unexpected
              unexpected refusal.Unexpected b none = refl
              unexpected refusal.RegExp b none = absurd (none refusal.RegExp b)
              unexpected refusal.Arguments b none = absurd (none refusal.Arguments b)
              unexpected refusal.Deep b none = absurd (none refusal.Deep b)
              unexpected (refusal.DeepLabel p) b none = absurd (none (refusal.DeepLabel p) b)
              unexpected (refusal.Broken p) b none = absurd (none (refusal.Broken p) b)
              unexpected (refusal.Operand p) b none = absurd (none (refusal.Operand p) b)
              unexpected (refusal.Alone p) b none = absurd (none (refusal.Alone p) b)
              unexpected (refusal.UnknownLabel p) b none = absurd (none (refusal.UnknownLabel p) b)

              reason : (v : Refusal) → Because v h.before h.rest → why ≡ v
              reason refusal.Unexpected b =
                  unexpected why (because i names r h.before split why e)
                  (λ O x. b O (subst (λ y. Stands O h.before y) (sym same) x))
              reason refusal.RegExp b =
                  stands_is i why r h.before e split refusal.RegExp
                  (subst (λ y. Stands refusal.RegExp h.before y) same b)
              reason refusal.Arguments b =
                  stands_is i why r h.before e split refusal.Arguments
                  (subst (λ y. Stands refusal.Arguments h.before y) same b)
              reason refusal.Deep b =
                  stands_is i why r h.before e split refusal.Deep
                  (subst (λ y. Stands refusal.Deep h.before y) same b)
              reason (refusal.DeepLabel p) b =
                  stands_is i why r h.before e split (refusal.DeepLabel p)
                  (subst (λ y. Stands (refusal.DeepLabel p) h.before y) same b)
              reason (refusal.Broken p) b =
                  stands_is i why r h.before e split (refusal.Broken p)
                  (subst (λ y. Stands (refusal.Broken p) h.before y) same b)
              reason (refusal.Operand p) b =
                  stands_is i why r h.before e split (refusal.Operand p)
                  (subst (λ y. Stands (refusal.Operand p) h.before y) same b)
              reason (refusal.Alone p) b =
                  stands_is i why r h.before e split (refusal.Alone p)
                  (subst (λ y. Stands (refusal.Alone p) h.before y) same b)
              reason (refusal.UnknownLabel p) b =
                  stands_is i why r h.before e split (refusal.UnknownLabel p)
                  (subst (λ y. Stands (refusal.UnknownLabel p) h.before y) same b)

          parts : s.before ++ r ≡ h.before ++ h.rest
          parts = sym s.split ∙ h.split

          -- the places are the same
          place : (x y : ℕ) → length s.before ≡ x → length h.before ≡ y → h.rest ≡ r
          place x y a b = by_length (compare x y)
            where
              by_length : (x ≡ y) ⊎ ((x < y) ⊎ (y < x)) → h.rest ≡ r
              by_length (inl same) =
                  sym (as_long s.before h.before r h.rest parts (omega (arith, a, b, same))).1
              by_length (inr (inl sooner)) =
                  let p = shorter s.before h.before r h.rest parts (omega (arith, a, b, sooner)) in
                  absurd (refused_there i why r s.before e s.split
                  (same_head s.before (p.0 ∷ p.1) r (sym (ap head p.3))
                  (h.first.goes_on s.before p.0 p.1 p.2).0))
              by_length (inr (inr later)) =
                  let p = shorter h.before s.before h.rest r (sym parts)
                  (omega (arith, a, b, later)) in
                  absurd (h.first.refused (same_head h.before (p.0 ∷ p.1) h.rest (sym (ap head p.3))
                  (accepted i why r s.before e s.split h.before p.0 p.1 p.2).0))

  -- a refusal that is answered is right
  pub answered_fault : (i : Tokens) → AreNamesReal i → (fault : ParseFault)
      → Answers (program strict max_levels i) (Err fault) → Explains i fault
  answered_fault i names fault h = go (program strict max_levels i) refl fault h
    where
      says : (fault : ParseFault) (why : Refusal) (r : Tokens) → fault ≡ fault_at why (head r)
          → program strict max_levels i ≡ Refused why r → IsRefused i fault
      says fault why r h e = subst (λ f. IsRefused i f) (sym h) (explained i names why r e)

      go : (o : Outcome (List Statement)) → program strict max_levels i ≡ o → (fault : ParseFault)
          → Answers o (Err fault) → Explains i fault
      go o e Memory h = tt
      go (Done xs r) e (Syntax place) h = absurd h
      go (Done xs r) e (Scope kind place) h = absurd h
      go (Done xs r) e (Depth place) h = absurd h
      go (Refused why r) e (Syntax place) h = says (Syntax place) why r h e
      go (Refused why r) e (Scope kind place) h = says (Scope kind place) why r h e
      go (Refused why r) e (Depth place) h = says (Depth place) why r h e

  -- two refusals that say so are the same
  pub refused_once : (i : Tokens) → AreNamesReal i → (f g : ParseFault) → IsRefused i f
      → IsRefused i g → f ≡ g
  refused_once i names f g a b =
      let x = refused_so i names f a in let y = refused_so i names g b in
      x.3 ∙ same_refused {A = List Statement} (λ v s. fault_at x.0 (head x.1) ≡ fault_at v (head s))
      (sym x.2 ∙ y.2) refl ∙ sym y.3

  -- and what is refused so has no tree
  pub refused_none : (i : Tokens) → AreNamesReal i → (f : ParseFault) → IsRefused i f
      → (xs : List Statement) → Spells max_levels i xs → ⊥
  refused_none i names f h xs spelled =
      let read = program_all strict strict_rules max_levels i xs spelled.0 spelled.1 in
      done_not_refused (sym read ∙ (refused_so i names f h).2)

-- a text has one tree
pub one_tree : (d e : ℕ) (i : Tokens) (xs ys : List Statement) → Spells d i xs → Spells e i ys
    → ys ≡ xs
one_tree d e i xs ys h h' =
    let a = program_covers d (d + e) (omega arith) i xs h.0 h.1 in
    let b = program_covers e (d + e) (omega arith) i ys h'.0 h'.1 in
    same_done (λ x r. x ≡ xs) (sym a ∙ b) refl

-- what is refused has no tree
pub answered_none : (i : Tokens) (fault : ParseFault) → fault ≢ Memory
    → Answers (program strict max_levels i) (Err fault) → (xs : List Statement)
    → Spells max_levels i xs → ⊥
answered_none i fault other h xs spelled = go (program strict max_levels i) refl fault other h
  where
    go : (o : Outcome (List Statement)) → program strict max_levels i ≡ o → (fault : ParseFault)
        → fault ≢ Memory → Answers o (Err fault) → ⊥
    go o e Memory other h = other refl
    go (Done ys r) e (Syntax place) other h = h
    go (Done ys r) e (Scope kind place) other h = h
    go (Done ys r) e (Depth place) other h = h
    go (Refused why r) e fault other h =
        done_not_refused (sym (program_all strict strict_rules max_levels i xs spelled.0 spelled.1)
        ∙ e)
