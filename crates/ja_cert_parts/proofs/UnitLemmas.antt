-- Units by four hexadecimal digits each.
use Rattle.std.proofs.Common.{◌≡◌, ◌==◌, ℕ, ◌-◌, ◌*◌, ◌<◌, ◌≤◌, Bool, true, false, ◌&&◌, List, [], ◌∷◌, ◌++◌, take, drop, length, get_or, refl, ap, sym, ◌∙◌, append-nil, append_assoc, arith}
use Rattle.std.specs.List.{flat_map, list_all}
use Rattle.std.proofs.lemmas.Bool.Decides.{nat_tests}
use Rattle.std.proofs.lemmas.List.{take_all}
use Rattle.std.proofs.lemmas.List.Concat.{flat_map-append}
use Rattle.ja_prim.specs.Texts.{max_units}
use Rattle.ja_texts.specs.Texts.{four_digits}
use Rattle.ja_cert.specs.Wrong.{is_lower_hexadecimal, is_multiple_of_four}

-- ---- the first four digits, and those behind them

abbrev pub first_four : List ℕ → List ℕ
first_four xs = get_or xs 0 0 ∷ get_or xs 1 0 ∷ get_or xs 2 0 ∷ get_or xs 3 0 ∷ []

abbrev pub behind_four : List ℕ → List ℕ
behind_four xs = take (length xs - 4) (drop 4 xs)

four_up : (xs : List ℕ) → 4 ≤ length xs → xs ≡ first_four xs ++ behind_four xs
four_up [] some = absurd (omega arith)
four_up (a ∷ []) some = absurd (omega arith)
four_up (a ∷ b ∷ []) some = absurd (omega arith)
four_up (a ∷ b ∷ c ∷ []) some = absurd (omega arith)
four_up (a ∷ b ∷ c ∷ d ∷ xs) some =
    ap (λ (ys : List ℕ). a ∷ b ∷ c ∷ d ∷ ys)
    (sym (take_all (length (a ∷ b ∷ c ∷ d ∷ xs) - 4) xs (omega arith)))

-- ---- whether digits are units

abbrev pub are_quads : List ℕ → Bool
are_quads digits = list_all is_lower_hexadecimal digits && is_multiple_of_four digits

four_and : (h i j k x y : Bool) → ((h && (i && (j && (k && x)))) && y)
    ≡ ((h && (i && (j && (k && true)))) && (x && y))
four_and false i j k x y = refl
four_and true false j k x y = refl
four_and true true false k x y = refl
four_and true true true false x y = refl
four_and true true true true x y = refl

quads_more : (a b c d : ℕ) (more : List ℕ) → are_quads (a ∷ b ∷ c ∷ d ∷ more)
    ≡ (list_all is_lower_hexadecimal (a ∷ b ∷ c ∷ d ∷ []) && are_quads more)
unfolding is_multiple_of_four
quads_more a b c d more =
    four_and (is_lower_hexadecimal a) (is_lower_hexadecimal b) (is_lower_hexadecimal c)
    (is_lower_hexadecimal d) (list_all is_lower_hexadecimal more) (is_multiple_of_four more)

quads_split : (rest : List ℕ) (b : Bool) → 4 ≤ length rest
    → list_all is_lower_hexadecimal (first_four rest) ≡ b
    → are_quads rest ≡ (b && are_quads (behind_four rest))
quads_split rest b some first =
    ap are_quads (four_up rest some)
    ∙ quads_more (get_or rest 0 0) (get_or rest 1 0) (get_or rest 2 0) (get_or rest 3 0)
    (behind_four rest)
    ∙ ap (λ (t : Bool). t && are_quads (behind_four rest)) first

-- ---- units, one after another

-- some digits were read, and the rest is units if all are
pub record AreRead (all units rest : List ℕ) : Type 0 where
  pub test : are_quads rest ≡ are_quads all
  pub digits : flat_map four_digits units ++ rest ≡ all

pub read_first : (all units : List ℕ) → units ≡ [] → AreRead all units all
read_first all units none = record {
  test = refl;
  digits = ap (λ (us : List ℕ). flat_map four_digits us ++ all) none;
}

pub read_next : (all units more rest : List ℕ) (u : ℕ) → 4 ≤ length rest
    → list_all is_lower_hexadecimal (first_four rest) ≡ true → four_digits u ≡ first_four rest
    → more ≡ units ++ u ∷ [] → AreRead all units rest → AreRead all more (behind_four rest)
read_next all units more rest u some right unit next so_far = record {
  test = sym (quads_split rest true some right) ∙ so_far.test;
  digits =
      ap (λ (us : List ℕ). flat_map four_digits us ++ behind_four rest) next
      ∙ ap (λ (ds : List ℕ). ds ++ behind_four rest) (flat_map-append four_digits units (u ∷ []))
      ∙ append_assoc (flat_map four_digits units) (four_digits u ++ []) (behind_four rest)
      ∙ ap (λ (ds : List ℕ). flat_map four_digits units ++ ((ds ++ []) ++ behind_four rest)) unit
      ∙ ap (λ (ds : List ℕ). flat_map four_digits units ++ ds) (sym (four_up rest some))
      ∙ so_far.digits;
}

pub read_wrong : (all units rest : List ℕ) → 4 ≤ length rest
    → list_all is_lower_hexadecimal (first_four rest) ≡ false → AreRead all units rest
    → are_quads all ≡ false
read_wrong all units rest some wrong so_far =
    sym so_far.test ∙ quads_split rest false some wrong

-- none is left, or too few
pub read_all : (all units rest : List ℕ) → true ≡ (length rest == 0) → AreRead all units rest
    → (are_quads all ≡ true) × (flat_map four_digits units ≡ all)
unfolding is_multiple_of_four
read_all all units [] none so_far =
    (sym so_far.test, sym (append-nil (flat_map four_digits units)) ∙ so_far.digits)
read_all all units (a ∷ rest) none so_far = absurd (grind (arith, nat_tests))

pub and_false : (b : Bool) → (b && false) ≡ false
and_false true = refl
and_false false = refl

pub read_short : (all units rest : List ℕ) → length rest < 4 → false ≡ (length rest == 0)
    → AreRead all units rest → are_quads all ≡ false
unfolding is_multiple_of_four
read_short all units [] few some so_far = absurd (cc)
read_short all units (a ∷ []) few some so_far =
    sym so_far.test ∙ and_false (list_all is_lower_hexadecimal (a ∷ []))
read_short all units (a ∷ b ∷ []) few some so_far =
    sym so_far.test ∙ and_false (list_all is_lower_hexadecimal (a ∷ b ∷ []))
read_short all units (a ∷ b ∷ c ∷ []) few some so_far =
    sym so_far.test ∙ and_false (list_all is_lower_hexadecimal (a ∷ b ∷ c ∷ []))
read_short all units (a ∷ b ∷ c ∷ d ∷ rest) few some so_far = absurd (omega arith)

-- ---- how many there are

digits_count : (units : List ℕ) → length (flat_map four_digits units) ≡ 4 * length units
digits_count [] = refl
digits_count (u ∷ units) = omega (arith, digits_count units)

pub few_units : (digits units : List ℕ) → flat_map four_digits units ≡ digits
    → length digits ≤ 4 * max_units → length units ≤ max_units
few_units digits units is few = omega (arith, digits_count units, ap length is)
