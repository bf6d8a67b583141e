-- What stands in a string, by what was read of it and what is left.
use Rattle.std.proofs.Math.Bool.{or-false}
use Rattle.std.proofs.Common.{◌≡◌, ◌≤◌, ◌<◌, ℕ, zero, suc, ◌+◌, ◌-◌, max, Bool, true, false, ◌||◌, cond, eqb, Option, Some, None, List, [], ◌∷◌, ◌++◌, length, get_or, drop, append_assoc, add_assoc, arith, refl, ap, ◌∙◌}
use Rattle.std.specs.Option.{option_map}
use Rattle.std.proofs.lemmas.Bool.Decides.{nat_tests}
use Rattle.ja_lex.specs.declared.item.Item.{Item}
use Rattle.ja_lex.specs.declared.strings.Body.{Body}
use Rattle.ja_lex.specs.Strings.{first_item, item_length, item_units, is_octal_item, is_wrong, before, nothing, body_after}

-- a body behind some units, of which one item was an octal escape or none, in n characters
abbrev pub prefixed : List ℕ → Bool → ℕ → Body → Body
prefixed units octal n b =
    record { units = units ++ b.units; octal = octal || b.octal; length = n + b.length }

or_swapped : (x y z : Bool) → x || (y || z) ≡ (x || y) || z
or_swapped true y z = refl
or_swapped false y z = refl

prefixed_before : (units : List ℕ) (octal : Bool) (n : ℕ) (i : Item) (b : Body)
    → prefixed units octal n (before i b) ≡ prefixed (units ++ item_units i)
    (octal || is_octal_item i) (n + item_length i) b
prefixed_before units octal n i b =
    rw (
      append_assoc units (item_units i) b.units,
      or_swapped octal (is_octal_item i) b.octal,
      add_assoc n (item_length i) b.length,
    ) refl

pub prefixed_map : (units : List ℕ) (octal : Bool) (n : ℕ) (i : Item) (b : Option Body)
    → option_map (prefixed units octal n) (option_map (before i) b)
    ≡ option_map (prefixed (units ++ item_units i) (octal || is_octal_item i)
    (n + item_length i)) b
prefixed_map units octal n i None = refl
prefixed_map units octal n i (Some b) = ap Some (prefixed_before units octal n i b)

pub unprefixed : (o : Option Body) → option_map (prefixed [] false 0) o ≡ o
unprefixed None = refl
unprefixed (Some b) = ap Some (let e : 0 + b.length ≡ b.length = omega arith in rw e refl)

body_skip : (q n : ℕ) (cs : List ℕ) → body_after q n cs ≡ body_after q 0 (drop n cs)
unfolding body_after
body_skip q zero cs = refl
body_skip q (suc n) [] = refl
body_skip q (suc n) (c ∷ cs) = body_skip q n cs

pub max_one : (n : ℕ) → max n 1 ≡ suc (n - 1)
max_one n = omega arith

pub body_end : (q : ℕ) (cs : List ℕ) → length cs < 1 → body_after q 0 cs ≡ None
unfolding body_after
body_end q [] h = refl
body_end q (c ∷ cs) h = absurd (omega arith)

pub body_closed : (q : ℕ) (cs : List ℕ) → 1 ≤ length cs → get_or cs 0 0 ≡ q
    → body_after q 0 cs ≡ Some nothing
unfolding body_after
body_closed q [] h e = absurd (omega arith)
body_closed q (c ∷ cs) h e = grind (arith, nat_tests)

other : (q c : ℕ) {A : Type 0} (a b : A) → (c ≡ q → ⊥) → cond (eqb c q) a b ≡ b
other q c a b h = grind (arith, nat_tests)

pub body_wrong : (q : ℕ) (cs : List ℕ) → 1 ≤ length cs → (get_or cs 0 0 ≡ q → ⊥)
    → is_wrong (first_item cs) ≡ true → body_after q 0 cs ≡ None
unfolding body_after
body_wrong q [] h n e = absurd (omega arith)
body_wrong q (c ∷ cs) h n e = other q c _ _ n ∙ rw e refl

pub body_next : (q : ℕ) (cs : List ℕ) → 1 ≤ length cs → (get_or cs 0 0 ≡ q → ⊥)
    → is_wrong (first_item cs) ≡ false
    → body_after q 0 cs ≡ option_map (before (first_item cs))
    (body_after q 0 (drop (max (item_length (first_item cs)) 1) cs))
unfolding body_after
body_next q [] h n e = absurd (omega arith)
body_next q (c ∷ cs) h n e =
    other q c _ _ n ∙ rw (e, max_one) (ap (option_map (before (first_item (c ∷ cs))))
    (body_skip q (item_length (first_item (c ∷ cs)) - 1) cs))

append_none : (units : List ℕ) → units ++ [] ≡ units
append_none [] = refl
append_none (u ∷ us) = ap (λ ws. u ∷ ws) (append_none us)

pub closed_at : (units : List ℕ) (octal : Bool) (n : ℕ)
    → Some (record { units = units; octal = octal; length = n })
    ≡ option_map (prefixed units octal n) (Some nothing)
closed_at units octal n =
    ap Some (let e : n + 0 ≡ n = omega arith in rw (append_none units, or-false octal, e) refl)
