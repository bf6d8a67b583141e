-- The rules of the language: each of them is asked, but for levels where one is left.
use Rattle.std.proofs.Common.{◌≡◌, ◌≤◌, ◌<◌, ℕ, zero, suc, true, false, refl, sym, ◌∙◌, arith}
use Rattle.std.proofs.Math.Dec.{eqb-suc-zero}
use Rattle.ja_base.specs.declared.ids.Place.{Place}
use Rattle.ja_grammar.specs.declared.fault.Refusal.{Refusal}
use Rattle.ja_grammar.specs.declared.fault.Refusal.TheVariants as refusal
use Rattle.ja_grammar.specs.Input.{Tokens, strict}
use Rattle.ja_grammar.specs.Language.{is_level}
use Rattle.ja_grammar.specs.Productions.{HasRoom}
use Rattle.ja_grammar.proofs.Agree.{Milder}

-- ---- rules that are always asked

pub strict_asks : (d : ℕ) (why : Refusal) (i : Tokens) → is_level why ≡ false
    → strict d why i ≡ true
unfolding strict
strict_asks d refusal.Unexpected i h = refl
strict_asks d refusal.RegExp i h = refl
strict_asks d refusal.Arguments i h = refl
strict_asks d refusal.Deep i h = absurd (cc h)
strict_asks d (refusal.DeepLabel place) i h = absurd (cc h)
strict_asks d (refusal.Broken place) i h = refl
strict_asks d (refusal.Operand place) i h = refl
strict_asks d (refusal.Alone place) i h = refl
strict_asks d (refusal.UnknownLabel place) i h = refl

-- so nothing is read without one of them
pub strict_never : (d : ℕ) (why : Refusal) (i : Tokens) → is_level why ≡ false
    → strict d why i ≡ false → ⊥
strict_never d why i h off = let e : true ≡ false = sym (strict_asks d why i h) ∙ off in cc e

-- ---- levels

-- with a level left, a token may count
pub strict_room : (d : ℕ) (i : Tokens) → 0 < d → HasRoom (strict d) i
unfolding strict
strict_room zero i some = absurd (omega (arith, some))
strict_room (suc d) i some = eqb-suc-zero d

pub strict_full : (i : Tokens) → strict 0 refusal.Deep i ≡ true
unfolding strict
strict_full i = refl

pub room_strict : (d : ℕ) (i : Tokens) → HasRoom (strict d) i → 0 < d
unfolding strict
room_strict zero i room = absurd (cc room)
room_strict (suc d) i room = omega arith

-- the same of a label
pub strict_room_label : (d : ℕ) (place : Place) (i : Tokens) → 0 < d
    → strict d (refusal.DeepLabel place) i ≡ false
unfolding strict
strict_room_label zero place i some = absurd (omega (arith, some))
strict_room_label (suc d) place i some = eqb-suc-zero d

pub strict_full_label : (place : Place) (i : Tokens) → strict 0 (refusal.DeepLabel place) i ≡ true
unfolding strict
strict_full_label place i = refl

pub room_strict_label : (d : ℕ) (place : Place) (i : Tokens)
    → strict d (refusal.DeepLabel place) i ≡ false → 0 < d
unfolding strict
room_strict_label zero place i room = absurd (cc room)
room_strict_label (suc d) place i room = omega arith

-- with more levels, no more is asked
pub strict_milder : (low d : ℕ) → low ≤ d → Milder (strict low) (strict d)
strict_milder low d more why i off = go why off
  where
    never : (why : Refusal) → is_level why ≡ false → strict low why i ≡ false
        → strict d why i ≡ false
    never why h off = absurd (strict_never low why i h off)

    go : (why : Refusal) → strict low why i ≡ false → strict d why i ≡ false
    go refusal.Unexpected off = never refusal.Unexpected refl off
    go refusal.RegExp off = never refusal.RegExp refl off
    go refusal.Arguments off = never refusal.Arguments refl off
    go refusal.Deep off = let some = room_strict low i off in
        strict_room d i (omega (arith, more, some))
    go (refusal.DeepLabel place) off = let some = room_strict_label low place i off in
        strict_room_label d place i (omega (arith, more, some))
    go (refusal.Broken place) off = never (refusal.Broken place) refl off
    go (refusal.Operand place) off = never (refusal.Operand place) refl off
    go (refusal.Alone place) off = never (refusal.Alone place) refl off
    go (refusal.UnknownLabel place) off = never (refusal.UnknownLabel place) refl off

-- ---- the tokens don't matter
