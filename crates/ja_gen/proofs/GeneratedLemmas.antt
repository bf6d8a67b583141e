-- How a generated program grows by a class.
use Rattle.std.proofs.Common.{◌≡◌, ◌∙◌, ◌+◌, ◌-◌, ◌*◌, ◌++◌, ◌≤◌, ◌<◌, ◌^◌, ℕ, List, zero, suc, ap, sym}
use Rattle.std.proofs.Common.{arith, length, length-append, add-one, refl}
use Rattle.std.specs.List.{flat_map, range_with_len}
use Rattle.std.specs.Fmt.{decimal}
use Rattle.std.proofs.lemmas.Fmt.{length-decimal-le}
use Rattle.std.proofs.lemmas.List.{flat_map_more}
use Rattle.ja_gen.specs.Generated.{class_text, constructor_line, generated_text, identity_line}
use Rattle.ja_gen.specs.Generated.{method_line, object_line, result_line}
use Rattle.ja_gen.proofs.Lists.{range_more}

one_more : (n : ℕ) → generated_text (n + 1) ≡ generated_text n ++ class_text (n + 1)
unfolding generated_text
one_more n = ap (λ (l : List ℕ). identity_line ++ flat_map class_text l) (range_more n)
    ∙ sym (flat_map_more class_text identity_line (range_with_len 1 n) (n + 1))

-- the next class is added
pub class_added : (i : ℕ) (before after : List ℕ) → 1 ≤ i → before ≡ generated_text (i - 1)
    → after ≡ before ++ class_text i → after ≡ generated_text (i + 1 - 1)
class_added i before after low was is =
    let here : i - 1 + 1 ≡ i = omega arith in
    let behind : i + 1 - 1 ≡ i - 1 + 1 = omega arith in
    rw (is, was, behind, one_more (i - 1), here) refl

class_short : (i : ℕ) → i ≤ 200 → length (class_text i) ≤ 136
unfolding class_text constructor_line method_line object_line result_line
class_short i small =
    let digits : length (decimal i) ≤ 3 =
    length-decimal-le 3 i (omega arith) (omega arith) (omega arith) in
    simp length-append (omega arith)

first_short : length (generated_text 0) ≡ 29
unfolding generated_text
first_short = refl

length_at_most : (n : ℕ) → n ≤ 200 → length (generated_text n) ≤ 29 + 136 * n
length_at_most zero small = omega (arith, first_short)
length_at_most (suc n) small =
    let more = ap length (one_more n) ∙ length-append (generated_text n) (class_text (n + 1)) in
    let longer : length (generated_text (n + 1)) ≤ 29 + 136 * (n + 1) =
    omega (arith, more, length_at_most n (omega arith), class_short (n + 1) (omega arith)) in
    rw (sym (add-one n)) longer

-- a generated program is short
pub is_short : (n : ℕ) (text : List ℕ) → n ≤ 200 → text ≡ generated_text n → length text < 2 ^ 15
is_short n text small is =
    let most = length_at_most n small in
    rw is (omega arith)
