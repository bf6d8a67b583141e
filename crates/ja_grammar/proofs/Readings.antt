-- The readings of a text by the rules of the language, with some levels or more, with levels
-- spared, and without one rule: how they agree.
use Rattle.std.proofs.Common.{◌≡◌, inl, inr, ℕ, zero, suc, ◌+◌, ◌<◌, ◌≤◌, Bool, true, false, true≢false, not, ◌&&◌, ◌||◌, nat_le, nat_lt, length, refl, sym, ap, ◌∙◌, arith, ltb-true, ltb-false, leb-true, le-leb}
use Rattle.ja_grammar.specs.declared.fault.Refusal.{Refusal}
use Rattle.ja_grammar.specs.declared.fault.Refusal.TheVariants as refusal
use Rattle.ja_grammar.specs.Input.{Tokens, Outcome, Done, Refused, Rules, strict}
use Rattle.ja_grammar.specs.Language.{is_level, is_same, spared, without}
use Rattle.ja_grammar.specs.ReadStatement.{program}
use Rattle.ja_grammar.proofs.Good.{lifted, unexpected_stays}
use Rattle.ja_grammar.proofs.Knot.{Asks as NeverLeftOut}
use Rattle.ja_grammar.proofs.Outcomes.{same_refused, refused_not_done}
use Rattle.ja_grammar.proofs.Refines.{Lenient, Refines, Asks}
use Rattle.ja_grammar.proofs.RefinesKnot.{program_refines}
use Rattle.ja_grammar.proofs.Strict.{strict_asks, strict_never, strict_room, strict_room_label, strict_full, strict_full_label, room_strict, room_strict_label, strict_milder}

-- ---- what two readings that agree say

-- what the first gives, the second gives
pub refines_done : {A : Type 0} {C : Lenient} {o u : Outcome A} {a : A} {r : Tokens} → Refines C o u
    → o ≡ Done a r → u ≡ Done a r
refines_done (Refines.same e) h = sym e ∙ h
refines_done (Refines.refused c e n) h = absurd (refused_not_done (sym e ∙ h))

-- what the first refuses, the second refuses, unless it is lenient
pub refines_refused : {A : Type 0} {C : Lenient} {o u : Outcome A} {why : Refusal} {r : Tokens}
    → Refines C o u → o ≡ Refused why r → (C why r → ⊥) → u ≡ Refused why r
refines_refused (Refines.same e) h kept = sym e ∙ h
refines_refused {A} {C} (Refines.refused c e n) h kept =
    absurd (kept (same_refused {A = A} C (sym e ∙ h) c))

-- ---- rules

-- no rule by which nothing is left out is left out
pub without_rules : (O : Refusal) → NeverLeftOut (without O)
unfolding without strict
without_rules O d i = ap (λ b. not b && true) (unexpected_stays O)

pub spared_rules : (late spare : ℕ) → NeverLeftOut (spared late spare)
unfolding spared strict
spared_rules late spare d i = refl

-- a level is never left out alone
pub levels_stay : (O why : Refusal) → is_level why ≡ true → is_same O why ≡ false
levels_stay O refusal.Deep level = deep O
  where
    deep : (O : Refusal) → is_same O refusal.Deep ≡ false
    deep refusal.Unexpected = refl
    deep refusal.RegExp = refl
    deep refusal.Arguments = refl
    deep refusal.Deep = refl
    deep (refusal.DeepLabel place) = refl
    deep (refusal.Broken place) = refl
    deep (refusal.Operand place) = refl
    deep (refusal.Alone place) = refl
    deep (refusal.UnknownLabel place) = refl
levels_stay O (refusal.DeepLabel place) level = deep O
  where
    deep : (O : Refusal) → is_same O (refusal.DeepLabel place) ≡ false
    deep refusal.Unexpected = refl
    deep refusal.RegExp = refl
    deep refusal.Arguments = refl
    deep refusal.Deep = refl
    deep (refusal.DeepLabel place) = refl
    deep (refusal.Broken place) = refl
    deep (refusal.Operand place) = refl
    deep (refusal.Alone place) = refl
    deep (refusal.UnknownLabel place) = refl
levels_stay O _ level = absurd (true≢false (sym level))

-- where no level is left, a level is asked
strict_full_level : (why : Refusal) (i : Tokens) → is_level why ≡ true → strict 0 why i ≡ true
strict_full_level refusal.Deep i level = strict_full i
strict_full_level (refusal.DeepLabel place) i level = strict_full_label place i
strict_full_level _ i level = absurd (true≢false (sym level))

-- a level that is asked is none that is left
level_none : (d : ℕ) (why : Refusal) (i : Tokens) → is_level why ≡ true → strict d why i ≡ true
    → d ≡ 0
level_none zero why i level on = refl
level_none (suc d) refusal.Deep i level on =
    absurd (true≢false (sym on ∙ strict_room (suc d) i (omega arith)))
level_none (suc d) (refusal.DeepLabel place) i level on =
    absurd (true≢false (sym on ∙ strict_room_label (suc d) place i (omega arith)))
level_none (suc d) _ i level on = absurd (true≢false (sym level))

-- one that is not asked is left
level_some : (d : ℕ) (why : Refusal) (i : Tokens) → strict d why i ≡ false
    → (is_level why ≡ true) × (0 < d)
level_some d refusal.Deep i off = (refl, room_strict d i off)
level_some d (refusal.DeepLabel place) i off = (refl, room_strict_label d place i off)
level_some d refusal.Unexpected i off = absurd (strict_never d refusal.Unexpected i refl off)
level_some d refusal.RegExp i off = absurd (strict_never d refusal.RegExp i refl off)
level_some d refusal.Arguments i off = absurd (strict_never d refusal.Arguments i refl off)
level_some d (refusal.Broken place) i off =
    absurd (strict_never d (refusal.Broken place) i refl off)
level_some d (refusal.Operand place) i off =
    absurd (strict_never d (refusal.Operand place) i refl off)
level_some d (refusal.Alone place) i off = absurd (strict_never d (refusal.Alone place) i refl off)
level_some d (refusal.UnknownLabel place) i off =
    absurd (strict_never d (refusal.UnknownLabel place) i refl off)

-- what the second doesn't ask is lenient, and what the first doesn't ask the second doesn't
asks_milder : (C : Lenient) (g g' : Rules) (why : Refusal) (i : Tokens)
    → (g why i ≡ false → g' why i ≡ false) → (g why i ≡ true → g' why i ≡ false → C why i)
    → Asks C g g' why i
asks_milder C g g' why i milder lenient = go (g why i) (g' why i) refl refl
  where
    go : (x y : Bool) → g why i ≡ x → g' why i ≡ y → Asks C g g' why i
    go true true e e' = inl (e ∙ sym e')
    go true false e e' = inr (e, e', lenient e e')
    go false y e e' = inl (e ∙ sym (milder e))

-- ---- with more levels

abbrev pub IsLevel : Lenient
IsLevel why r = is_level why ≡ true

is_level_of : (d e : ℕ) (why : Refusal) (i : Tokens) → strict d why i ≡ true
    → strict e why i ≡ false → is_level why ≡ true
is_level_of d e why i on off = (level_some e why i off).0

pub more_refines : (k d : ℕ) (i : Tokens)
    → Refines IsLevel (program strict d i) (program strict (d + k) i)
more_refines k d i = program_refines IsLevel strict strict k
    (λ d why i. asks_milder IsLevel (strict d) (strict (d + k)) why i
    (strict_milder d (d + k) (omega arith) why i)
    (λ on off. is_level_of d (d + k) why i on off))
    (λ why i level. strict_full_level why i level) d i

-- ---- without a rule

-- with levels and this rule left out
abbrev pub IsLifted : Refusal → Lenient
IsLifted O why r = lifted O why ≡ true

pub without_refines : (O : Refusal) (k d : ℕ) (i : Tokens)
    → Refines (IsLifted O) (program strict d i) (program (without O) (d + k) i)
unfolding without
without_refines O k d i = program_refines (IsLifted O) strict (without O) k
    (λ d why i. asks_milder (IsLifted O) (strict d) (without O (d + k)) why i
    (λ off. ap (λ b. not (is_same O why) && b) (strict_milder d (d + k) (omega arith) why i off)
    ∙ and_false (not (is_same O why)))
    (λ on off. lenient d why i on off))
    (λ why i level. strict_full_level why i level) d i
  where
    and_false : (b : Bool) → (b && false) ≡ false
    and_false true = refl
    and_false false = refl

    lenient : (d : ℕ) (why : Refusal) (i : Tokens) → strict d why i ≡ true
        → (not (is_same O why) && strict (d + k) why i) ≡ false → lifted O why ≡ true
    lenient d why i on off = go (is_level why) (is_same O why) refl refl
      where
        go : (x y : Bool) → is_level why ≡ x → is_same O why ≡ y
            → (is_level why || is_same O why) ≡ true
        go true y e e' = ap (λ b. b || is_same O why) e
        go false true e e' = ap (λ b. b || is_same O why) e ∙ e'
        go false false e e' =
            absurd (true≢false (sym (ap (λ b. not b && strict (d + k) why i) e'
            ∙ strict_asks (d + k) why i e) ∙ off))

pub without_more : (O : Refusal) (k d : ℕ) (i : Tokens)
    → Refines IsLevel (program (without O) d i) (program (without O) (d + k) i)
unfolding without
without_more O k d i = program_refines IsLevel (without O) (without O) k
    (λ d why i. asks_milder IsLevel (without O d) (without O (d + k)) why i
    (λ off. milder d why i off) (λ on off. level d why i on off))
    (λ why i level. ap (λ b. not b && strict 0 why i) (levels_stay O why level)
    ∙ strict_full_level why i level) d i
  where
    milder : (d : ℕ) (why : Refusal) (i : Tokens) → (not (is_same O why) && strict d why i) ≡ false
        → (not (is_same O why) && strict (d + k) why i) ≡ false
    milder d why i off = go (not (is_same O why)) off
      where
        go : (b : Bool) → (b && strict d why i) ≡ false → (b && strict (d + k) why i) ≡ false
        go true e = strict_milder d (d + k) (omega arith) why i e
        go false e = refl

    level : (d : ℕ) (why : Refusal) (i : Tokens) → (not (is_same O why) && strict d why i) ≡ true
        → (not (is_same O why) && strict (d + k) why i) ≡ false → is_level why ≡ true
    level d why i on off = go (not (is_same O why)) on off
      where
        go : (b : Bool) → (b && strict d why i) ≡ true → (b && strict (d + k) why i) ≡ false
            → is_level why ≡ true
        go true e e' = is_level_of d (d + k) why i e e'
        go false e e' = absurd (true≢false (sym e))

-- ---- with levels spared for late tokens

-- more is not within less
over : (a b : ℕ) → b < a → nat_le a b ≡ false
over a b more = go (nat_le a b) refl
  where
    go : (x : Bool) → nat_le a b ≡ x → nat_le a b ≡ false
    go true e = let n = leb-true a b e in absurd (omega (arith, n, more))
    go false e = e

-- a level that is wanted before few tokens, and before many
abbrev pub IsLate : ℕ → Lenient
IsLate late why r = (is_level why ≡ true) × (length r ≤ late)

abbrev pub IsEarly : ℕ → Lenient
IsEarly late why r = (is_level why ≡ true) × (late < length r)

-- levels may be spared
pub spared_refines : (late spare d : ℕ) (i : Tokens)
    → Refines (IsLate late) (program strict d i) (program (spared late spare) (d + spare) i)
unfolding spared
spared_refines late spare d i = program_refines (IsLate late) strict (spared late spare) spare
    (λ d why i. asks_milder (IsLate late) (strict d) (spared late spare (d + spare)) why i
    (λ off. milder d why i off) (λ on off. lenient d why i on off))
    (λ why i level. strict_full_level why i level) d i
  where
    milder : (d : ℕ) (why : Refusal) (i : Tokens) → strict d why i ≡ false
        → (strict (d + spare) why i || (is_level why
        && (nat_le (d + spare) spare && nat_lt late (length i)))) ≡ false
    milder d why i off = let s = level_some d why i off in
        rw (
          strict_milder d (d + spare) (omega arith) why i off,
          s.0,
          over (d + spare) spare (omega (arith, s.1)),
        ) refl

    lenient : (d : ℕ) (why : Refusal) (i : Tokens) → strict d why i ≡ true
        → (strict (d + spare) why i || (is_level why
        && (nat_le (d + spare) spare && nat_lt late (length i)))) ≡ false
        → (is_level why ≡ true) × (length i ≤ late)
    lenient d why i on off = (level, few)
      where
        either : (x y : Bool) → (x || y) ≡ false → (x ≡ false) × (y ≡ false)
        either true y e = absurd (true≢false e)
        either false y e = (refl, e)

        s : (strict (d + spare) why i ≡ false)
            × ((is_level why && (nat_le (d + spare) spare && nat_lt late (length i))) ≡ false)
        s =
            either (strict (d + spare) why i) (is_level why
            && (nat_le (d + spare) spare && nat_lt late (length i))) off

        level : is_level why ≡ true
        level = (level_some (d + spare) why i s.0).0

        none : d ≡ 0
        none = level_none d why i level on

        within : nat_le (d + spare) spare ≡ true
        within = le-leb (d + spare) spare (omega (arith, none))

        few : length i ≤ late
        few = go (nat_lt late (length i)) refl
          where
            go : (b : Bool) → nat_lt late (length i) ≡ b → length i ≤ late
            go true e = absurd (true≢false (sym (rw (level, within, e) refl) ∙ s.1))
            go false e = ltb-false late (length i) e

-- where enough are spared, all are
pub spared_of : (late spare d : ℕ) (i : Tokens)
    → Refines (IsEarly late) (program (spared late spare) d i) (program strict (d + 0) i)
unfolding spared
spared_of late spare d i = program_refines (IsEarly late) (spared late spare) strict 0
    (λ d why i. asks_milder (IsEarly late) (spared late spare d) (strict (d + 0)) why i
    (λ off. milder d why i off) (λ on off. lenient d why i on off))
    (λ why i level. ap (λ b. b || (is_level why && (nat_le 0 spare && nat_lt late (length i))))
    (strict_full_level why i level)) d i
  where
    milder : (d : ℕ) (why : Refusal) (i : Tokens)
        → (strict d why i || (is_level why && (nat_le d spare && nat_lt late (length i)))) ≡ false
        → strict (d + 0) why i ≡ false
    milder d why i off = strict_milder d (d + 0) (omega arith) why i (go (strict d why i) off)
      where
        go : (x : Bool) → (x || (is_level why && (nat_le d spare && nat_lt late (length i))))
            ≡ false → x ≡ false
        go true e = e
        go false e = refl

    lenient : (d : ℕ) (why : Refusal) (i : Tokens)
        → (strict d why i || (is_level why && (nat_le d spare && nat_lt late (length i)))) ≡ true
        → strict (d + 0) why i ≡ false
        → (is_level why ≡ true) × (late < length i)
    lenient d why i on off = (s.0, ltb-true late (length i) many)
      where
        s : (is_level why ≡ true) × (0 < d + 0)
        s = level_some (d + 0) why i off

        room : strict d why i ≡ false
        room = strict_milder (d + 0) d (omega arith) why i off

        last : (x y z : Bool) → (x && (y && z)) ≡ true → z ≡ true
        last true true z e = e
        last true false z e = absurd (true≢false (sym e))
        last false y z e = absurd (true≢false (sym e))

        many : nat_lt late (length i) ≡ true
        many =
            last (is_level why) (nat_le d spare) (nat_lt late (length i))
            (sym (ap (λ b. b || (is_level why && (nat_le d spare && nat_lt late (length i)))) room)
            ∙ on)
