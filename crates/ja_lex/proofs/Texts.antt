-- A text has no more characters than bytes.
use Rattle.std.proofs.Common.{◌≤◌, ℕ, zero, suc, ◌+◌, ◌*◌, ◌-◌, List, [], ◌∷◌, length, arith}
use Rattle.std.specs.Str.{chars, chars_after, continuation_len, lead_bits}

length_chars_after : (n c : ℕ) (bs : List ℕ) → length (chars_after n c bs) ≤ 1 + length bs
length_chars_after zero c [] = omega arith
length_chars_after zero c (b ∷ bs) =
    let h : length (chars_after (continuation_len b) (lead_bits b) bs) ≤ 1
    + length bs = length_chars_after (continuation_len b) (lead_bits b) bs in omega arith
length_chars_after (suc n) c [] = omega arith
length_chars_after (suc n) c (b ∷ bs) =
    let h : length (chars_after n (c * 64 + (b - 128)) bs) ≤ 1
    + length bs = length_chars_after n (c * 64 + (b - 128)) bs in omega arith

pub length_chars : (bs : List ℕ) → length (chars bs) ≤ length bs
unfolding chars
length_chars [] = omega arith
length_chars (b ∷ bs) =
    let h : length (chars_after (continuation_len b) (lead_bits b) bs) ≤ 1
    + length bs = length_chars_after (continuation_len b) (lead_bits b) bs in omega arith
